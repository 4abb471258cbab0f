use Rattle.std.proofs.Common.{◌≡◌, ℕ, ◌<◌}
use Rattle.std.specs.FinSet as set
use Rattle.run_states.proofs.shown.has_same_ports.Given as goal

abbrev pub invariant-loop-port : goal.invariant-loop-port
invariant-loop-port l = (q : ℕ) → q < l.port → set.contains l.one q ≡ set.contains l.other q
