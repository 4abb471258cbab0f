use Rattle.std.proofs.Common.{map, sym, subst}
use Rattle.timed_simulation.specs.{declared.events.Change.Change, Links.link_of, Timed.timed_of, Timed.Timed, Due.RisesFrom}
use Rattle.timed_simulation.proofs.{Rising.with_one_more, Runs.kept_changes}
use Rattle.timed_simulation.proofs.clocked.Clocked.at.Goals as goal

-- no memory for the change
pub invariant_of-self : goal.invariant_of-self
invariant_of-self g c =
    let old : Timed = timed_of c.self.inside.simulation c.self.inside.clock (map link_of c.self.inside.links.items) c.self.inside.routers.items c.self.inside.changes.items in
    kept_changes old c.insert_change.new.changes.items c.self.invariant
    (subst (RisesFrom (λ (x : Change). x.moment) c.self.inside.clock) (sym c.in_err-insert_change.ensures.err) (c.self.invariant.on_time).of_changes)

-- given
pub invariant_of-self-2 : goal.invariant_of-self-2
invariant_of-self-2 g c =
    let old : Timed = timed_of c.self.inside.simulation c.self.inside.clock (map link_of c.self.inside.links.items) c.self.inside.routers.items c.self.inside.changes.items in
    kept_changes old c.insert_change.new.changes.items c.self.invariant
    (subst (RisesFrom (λ (x : Change). x.moment) c.self.inside.clock) (sym c.in_ok-insert_change.ensures.ok)
    (with_one_more c.self.inside.clock (record { moment = c.args.moment; step = c.args.change }) c.self.inside.changes.items (c.self.invariant.on_time).of_changes c.if-moment-self.false))
