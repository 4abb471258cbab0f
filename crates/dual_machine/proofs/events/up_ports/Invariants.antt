use Rattle.std.proofs.Common.{◌≡◌, ℕ, ◌&&◌, nat_lt}
use Rattle.std.specs.FinSet.{contains}
use Rattle.dual_machine.specs.Event.{is_neighbour_up}
use Rattle.dual_machine.proofs.events.up_ports.Given as goal

-- the ports that are up, of those before this one
abbrev pub invariant-loop-port : goal.invariant-loop-port
invariant-loop-port l = (q : ℕ) → contains l.up q ≡ (nat_lt q l.port && is_neighbour_up l.ports q)
