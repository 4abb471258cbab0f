use Rattle.std.proofs.Common.{map, sym, subst}
use Rattle.timed_simulation.specs.{declared.events.Change.Change, Links.link_of, Timed.timed_of, Timed.Timed, Due.RisesFrom}
use Rattle.timed_simulation.proofs.{Rising.rises_tail, Runs.kept_changes}
use Rattle.timed_simulation.proofs.clocked.Clocked.withdraw.Goals as goal

pub invariant_of-self : goal.invariant_of-self
invariant_of-self g c =
    let old : Timed = timed_of c.self.inside.simulation c.self.inside.clock (map link_of c.self.inside.links.items) c.self.inside.routers.items c.self.inside.changes.items in
    kept_changes old c.pop_front.new.self.items c.self.invariant
    (subst (RisesFrom (λ (x : Change). x.moment) c.self.inside.clock) (sym c.pop_front.ensures.rest)
    (rises_tail (λ (x : Change). x.moment) c.self.inside.clock c.self.inside.changes.items (c.self.invariant.on_time).of_changes))
