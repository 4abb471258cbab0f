use Rattle.std.proofs.Common.{subst}
use Rattle.timed_simulation.specs.Runs.{IsTimed}
use Rattle.timed_simulation.proofs.First.{none_left_out, nothing_late}
use Rattle.timed_simulation.proofs.clocked.Clocked.holds.Goals as goal

pub returns-clause-timed : goal.returns-clause-timed
returns-clause-timed g c = subst IsTimed c.self.view_is c.self.invariant

pub returns-clause-on_time : goal.returns-clause-on_time
returns-clause-on_time g c = nothing_late c.args.self.now (subst IsTimed c.self.view_is c.self.invariant).on_time

pub returns-clause-whole : goal.returns-clause-whole
returns-clause-whole g c = none_left_out c.args.self.now (subst IsTimed c.self.view_is c.self.invariant).on_time
