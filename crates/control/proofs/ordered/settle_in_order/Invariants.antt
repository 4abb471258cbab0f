use Rattle.std.proofs.Common.{◌≡◌}
use Rattle.guarded.specs.Served.{IsServed, none_asked}
use Rattle.control.proofs.ordered.settle_in_order.Given as goal

abbrev pub invariant-loop : goal.invariant-loop
invariant-loop g l = IsServed l.fn.fabric none_asked l.fabric × (l.fabric.lent ≡ l.fn.fabric.lent)
