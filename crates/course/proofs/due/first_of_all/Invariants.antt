use Rattle.std.proofs.Common.{ℕ, ◌≡◌, ◌<◌, None}
use Rattle.course.specs.Turns.{open_step}
use Rattle.course.proofs.due.first_of_all.Given as goal

abbrev pub invariant-loop-place : goal.invariant-loop-place
invariant-loop-place g l = (i : ℕ) → i < l.place → open_step (g.S.Shut.shuts l.shut) l.world i ≡ None
