use Rattle.std.proofs.Common.{◌≡◌, ◌<◌}
use Rattle.guarded.specs.Shares.{IsHolder, owes}
use Rattle.control.proofs.control.Control.take_turns.Given as goal

-- the router is one of the network's
abbrev pub invariant-loop : goal.invariant-loop
invariant-loop g l = IsHolder l.fn.share l.share × (owes l.share ≡ owes l.fn.share) × (l.router < (g.N.ControlName.opened.network).routers)
