use Rattle.std.proofs.Common.{◌≡◌, ◌∙◌, ap, map, rules, subst, sym}
use Rattle.timed_simulation.specs.{Links.link_of, Timed.timed_of, Timed.Timed, Runs.IsTimed}
use Rattle.timed_simulation.proofs.Runs.{equal_parts}
use Rattle.timed_simulation.proofs.clocked.Clocked.copy.Goals as goal

-- the copy of each part is equal to it
pub invariant_of-result : goal.invariant_of-result
invariant_of-result g c =
    let old : Timed = timed_of c.self.inside.simulation c.self.inside.clock (map link_of c.self.inside.links.items) c.self.inside.routers.items c.self.inside.changes.items in
    let changes : c.in_ok-changes.changes.items ≡ c.self.inside.changes.items = search rules in
    subst IsTimed
    (sym (equal_parts old c.in_ok-simulation.simulation (map link_of c.in_ok-links.links.items) c.in_ok-routers.routers.items c.in_ok-changes.changes.items
    c.in_ok-simulation.ensures (c.in_ok-links.ensures ∙ ap (map link_of) c.deref.ensures.value) (c.in_ok-routers.ensures.items ∙ c.deref-2.ensures.value) changes)) c.self.invariant

pub returns : goal.returns
returns g c =
    let old : Timed = timed_of c.self.inside.simulation c.self.inside.clock (map link_of c.self.inside.links.items) c.self.inside.routers.items c.self.inside.changes.items in
    let changes : c.in_ok-changes.changes.items ≡ c.self.inside.changes.items = search rules in
    equal_parts old c.in_ok-simulation.simulation (map link_of c.in_ok-links.links.items) c.in_ok-routers.routers.items c.in_ok-changes.changes.items
    c.in_ok-simulation.ensures (c.in_ok-links.ensures ∙ ap (map link_of) c.deref.ensures.value) (c.in_ok-routers.ensures.items ∙ c.deref-2.ensures.value) changes ∙ c.self.view_is
