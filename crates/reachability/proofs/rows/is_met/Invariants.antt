use Rattle.std.proofs.Common.{ℕ, ◌≢◌, ◌<◌, Some}
use Rattle.reachability.specs.Rounds.{next_by_row}
use Rattle.reachability.proofs.rows.is_met.Given as goal

abbrev pub invariant-loop-place : goal.invariant-loop-place
invariant-loop-place g l = (i : ℕ) → i < l.place → next_by_row l.world l.prefix i ≢ Some l.router
