use Rattle.timed_reports.specs.Recordings.{timed_in}
use Rattle.timing.proofs.Stepping.{more_done_at, none_done_at}
use Rattle.timing.proofs.steps.do_all.Goals as goal

pub loop-init : goal.loop-init
loop-init c = none_done_at (timed_in c.args.recording.now) c.args.steps.now.items c.args.moments.now.items c.requires.0 c.requires.1

pub loop-preserved : goal.loop-preserved
loop-preserved c =
    let one = c.in_ok-do_next.ensures in
    more_done_at (timed_in c.args.recording.now) (timed_in c.loop.recording) (timed_in c.do_next.new.recording) c.loop.steps.items c.do_next.new.steps.items c.loop.moments.items c.do_next.new.moments.items
    one.0 c.loop.invariant one.1 one.2 one.3
