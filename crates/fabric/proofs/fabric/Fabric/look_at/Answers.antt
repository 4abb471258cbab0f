use Rattle.std.proofs.Common.{◌≡◌, ◌∙◌, length, sym, ap, subst, vec_capacity}
use Rattle.course.specs.Course.{Course}
use Rattle.fabric.specs.Writers.{FitTogether, fabric_seen}
use Rattle.fabric.proofs.fabric.Fabric.look_at.Goals as goal

-- the course is what it was
pub invariant_of-self : goal.invariant_of-self
invariant_of-self g c =
    let s = c.self.inside in
    subst (λ (k : Course). FitTogether g.B.FabricName.openings k.network s.journal.items (vec_capacity s.journal) k.world s.desks.items s.readers.items s.sum s.set_aside × (k.steps ≡ length s.journal.items)) (sym c.look_at.ensures) c.self.invariant

pub returns : goal.returns
returns g c =
    let s = c.self.inside in
    ap (λ (k : Course). fabric_seen g.B.FabricName.openings k.network s.journal.items k.world s.desks.items) c.look_at.ensures ∙ c.self.view_is
