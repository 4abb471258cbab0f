use Rattle.std.proofs.Common.{◌≤◌}
use Rattle.fabric.specs.Fabric.{count_lent}
use Rattle.guarded.specs.{Names.high_name, Names.low_name, Names.out_name, Served.IsServed, Served.none_asked}
use Rattle.control.proofs.settling.settle_from.Given as goal

abbrev pub invariant-loop : goal.invariant-loop
invariant-loop g l = IsServed g.O.Origin.from none_asked l.fabric × (count_lent l.fabric.lent ≤ count_lent g.O.Origin.from.lent)

-- the ledgers that were just made, and the fabric that is to be settled
abbrev pub ghosts-settle_together : goal.ghosts-settle_together
ghosts-settle_together g a = record { high = high_name a.opening; low = low_name a.opening; out = out_name a.opening; shares = (a.opening).shares; lent = count_lent g.O.Origin.from.lent; opened = g.O.Origin.from; asked = none_asked }
