use Rattle.std.proofs.Common.{◌≡◌, ◌∙◌, ◌<◌, List, Some, IfSome, length, sym, ap, subst, vec_capacity}
use Rattle.course.specs.{Course.Course, Turns.open_step}
use Rattle.fabric.specs.{Desks.Desk, Desks.all_lent, Fabric.Fabric, Fabric.awaits_lent, Fabric.next_fabric_step, Writers.FitTogether, Writers.fabric_seen}
use Rattle.fabric.proofs.fabric.Fabric.turn_from.Goals as goal

-- the course is what it was
pub invariant_of-self : goal.invariant_of-self
invariant_of-self g c =
    let s = c.self.inside in
    subst (λ (k : Course). FitTogether g.B.FabricName.openings k.network s.journal.items (vec_capacity s.journal) k.world s.desks.items s.readers.items s.sum s.set_aside × (k.steps ≡ length s.journal.items)) (sym c.turn_of.ensures.same) c.self.invariant

pub returns-clause-same : goal.returns-clause-same
returns-clause-same g c =
    let s = c.self.inside in
    ap (λ (k : Course). fabric_seen g.B.FabricName.openings k.network s.journal.items k.world s.desks.items) c.turn_of.ensures.same ∙ c.self.view_is

-- what is not shut awaits no writer
pub returns-clause-some : goal.returns-clause-some
returns-clause-some g c =
    subst (λ (f : Fabric). IfSome c.turn_of.result (λ d. next_fabric_step f d.0 ≡ Some d.1)) c.self.view_is
    (subst (λ (ds : List Desk). IfSome c.turn_of.result (λ d. open_step (awaits_lent (all_lent ds)) c.self.inside.course.world d.0 ≡ Some d.1)) (c.new-seats.ensures ∙ c.deref.ensures.value) c.turn_of.ensures.some)

pub returns-clause-none : goal.returns-clause-none
returns-clause-none g c nothing i below =
    ap (λ (f : Fabric). next_fabric_step f i) (sym c.self.view_is)
    ∙ ap (λ (ds : List Desk). open_step (awaits_lent (all_lent ds)) c.self.inside.course.world i) (sym (c.new-seats.ensures ∙ c.deref.ensures.value))
    ∙ c.turn_of.ensures.none nothing i (subst (λ (f : Fabric). i < (f.network).routers) (sym c.self.view_is) below)
