use Rattle.std.proofs.Common.{◌≡◌}
use Rattle.guarded.specs.Served.{IsServed, none_asked}
use Rattle.control.proofs.settling.take_turns.Given as goal

abbrev pub invariant-loop-steps : goal.invariant-loop-steps
invariant-loop-steps g l = IsServed g.O.Origin.from none_asked l.fabric × (l.fabric.lent ≡ l.fn.fabric.lent)
