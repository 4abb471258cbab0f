use Rattle.std.proofs.Common.{◌≡◌, ℕ, List, refl, sym, subst, set, arith}
use Rattle.link_fifo.proofs.Changes.{written}
use Rattle.timed_simulation.specs.{declared.events.RouterTime.RouterTime, Timed.routers_after}
use Rattle.timed_simulation.proofs.Lists.{changed_past}
use Rattle.timed_simulation.proofs.events.note_begun.Goals as goal

abbrev begun : ℕ → RouterTime → RouterTime
begun now x = record x { since = now }

pub returns-then-from-len : goal.returns-then-from-len
returns-then-from-len g c =
    let xs : List RouterTime = c.args.routers.now.items in
    let place = c.from.ensures in
    let count = c.len.ensures in
    let over = c.if-from-len.true in
    let ok = c.args.routers.now.ok.0 in
    subst (λ o. xs ≡ routers_after c.args.now o xs) (sym c.in-Some.is)
    (sym (changed_past (begun c.args.now) c.in-Some.router xs (omega (arith, place, count, over, ok))))

pub returns : goal.returns
returns g c =
    let xs : List RouterTime = c.args.routers.now.items in
    subst (λ o. set xs c.from-2.result (begun c.args.now c.index_mut-time.result.now) ≡ routers_after c.args.now o xs) (sym c.in-Some.is)
    (written (begun c.args.now) c.from-2.ensures c.index_mut-time.ensures.value refl refl)
