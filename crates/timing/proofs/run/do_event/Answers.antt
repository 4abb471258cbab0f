use Rattle.timed_reports.specs.Recordings.{timed_in}
use Rattle.timing.proofs.Leading.{one_done}
use Rattle.timing.proofs.run.do_event.Goals as goal

pub returns-in-None-clause-ok : goal.returns-in-None-clause-ok
returns-in-None-clause-ok c =
    one_done (timed_in c.args.recording.now) (timed_in c.run_until-ran.new.self) c.args.event.now c.run_until-ran.result.done c.requires.next c.requires.due c.run_until-ran.ensures.run c.run_until-ran.ensures.most
    (rw c.in-None.is at c.run_until-ran.ensures.stop)
