use Rattle.std.proofs.Common.{arith}
use Rattle.timed_reports.specs.Recordings.{timed_in}
use Rattle.timing.proofs.Alone.{none_left, one_less, some_left}
use Rattle.timing.proofs.Leading.{leads_none, leads_on, leads_push, on_ok_more}
use Rattle.timing.proofs.run.run_changes.Goals as goal

pub loop-done-init : goal.loop-done-init
loop-done-init c = record { leads = rw c.requires (leads_none (timed_in c.args.recording.now)); left = omega (arith, c.changes_left-count.ensures) }

pub run_before-requires : goal.run_before-requires
run_before-requires c = some_left (timed_in c.loop-done.recording) c.loop-done.done c.changes_left-count.result c.loop-done.invariant.left c.loop-done-test.true

pub loop-done-preserved : goal.loop-done-preserved
loop-done-preserved c =
    let alone = c.in_ok-run_before.ensures.alone in
    let came = leads_on (timed_in c.args.recording.now) c.loop-done.begun.items (timed_in c.loop-done.recording) (timed_in c.run_before.new.recording) c.loop-done.invariant.leads alone in record {
      leads = rw c.in_ok-push.ensures.items (leads_push (timed_in c.args.recording.now) c.loop-done.begun.items (timed_in c.run_before.new.recording) (timed_in c.begin.new.recording) c.in_ok-one.one came c.in_ok-one.ensures.ok);
      left = one_less (timed_in c.loop-done.recording) (timed_in c.run_before.new.recording) (timed_in c.begin.new.recording) c.in_ok-one.one c.loop-done.done c.changes_left-count.result alone c.in_ok-one.ensures.ok c.loop-done.invariant.left c.loop-done-test.true;
    }

-- all changes are done
pub run_to_rest-requires : goal.run_to_rest-requires
run_to_rest-requires c = none_left (timed_in c.loop-done.recording).changes c.loop-done.done c.changes_left-count.result c.loop-done.invariant.left c.loop-done-test.false

pub returns-clause-leads : goal.returns-clause-leads
returns-clause-leads c =
    on_ok_more c.run_to_rest.result _ _
    (λ alone. leads_on (timed_in c.args.recording.now) c.loop-done.begun.items (timed_in c.loop-done.recording) (timed_in c.run_to_rest.new.recording) c.loop-done.invariant.leads alone)
    c.run_to_rest.ensures.alone
