use Rattle.std.proofs.Common.{◌≤◌, arith, subst, sym}
use Rattle.fabric.specs.Fabric.{Fabric, count_lent}
use Rattle.guarded.specs.Served.{IsServed, none_asked}
use Rattle.guarded.proofs.{WritersOut.all_back, WritersOut.are_back, WritersOut.back_or, Served.served_none}
use Rattle.control.proofs.settling.settle_from.Goals as goal

pub loop-init : goal.loop-init
loop-init g c = subst (λ (f : Fabric). IsServed g.O.Origin.from none_asked f × (count_lent f.lent ≤ count_lent g.O.Origin.from.lent)) (sym c.requires.from) (served_none g.O.Origin.from none_asked, omega arith)

pub returns-then-is_err-clause-back : goal.returns-then-is_err-clause-back
returns-then-is_err-clause-back g c =
    let done = c.take_turns-done in
    are_back g.O.Origin.from done.new.fabric done.result (all_back g.O.Origin.from none_asked done.new.fabric done.ensures.turns (subst (λ l. count_lent l ≤ count_lent g.O.Origin.from.lent) (sym done.ensures.lent) c.loop.invariant.1))

pub returns-then-is_err-2-clause-back : goal.returns-then-is_err-2-clause-back
returns-then-is_err-2-clause-back g c =
    let next = c.settle_together-next in
    back_or g.O.Origin.from none_asked next.result.0 next.result.1 next.ensures.turns next.ensures.back
