use Rattle.std.proofs.Common.{ap, ◌∙◌}
use Rattle.timed_simulation.specs.Timed.{with_timed_change}
use Rattle.timed_reports.specs.Recordings.{timed_in}
use Rattle.timing.proofs.Leading.{given_at, on_ok_more, timed_with}
use Rattle.timing.proofs.run.give.Goals as goal

pub loop-change-preserved : goal.loop-change-preserved
loop-change-preserved c = given_at c.args.changes.now c.loop-change.change-index c.change-item.result c.at.result (timed_in c.loop-change.recording) (timed_in c.at.new.self) _ c.loop-change-test.true c.change-item.is c.loop-change.invariant c.if-is_err.ensures.value (on_ok_more c.at.result _ _ (λ same. ap timed_in same ∙ timed_with (with_timed_change c.change-item.result) c.loop-change.recording) c.at.ensures.ok)
