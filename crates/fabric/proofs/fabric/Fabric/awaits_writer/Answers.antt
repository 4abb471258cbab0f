use Rattle.std.proofs.Common.{ap, ◌∙◌, List}
use Rattle.fabric.specs.{Desks.Desk, Desks.all_lent, Fabric.Fabric, Fabric.awaits_lent, Fabric.awaits_writer}
use Rattle.fabric.proofs.fabric.Fabric.awaits_writer.Goals as goal

pub returns : goal.returns
returns g c =
    c.awaits_lent.ensures
    ∙ ap (λ (ds : List Desk). awaits_lent (all_lent ds) c.args.step.now) c.deref.ensures.value
    ∙ ap (λ (f : Fabric). awaits_writer f c.args.step.now) c.self.view_is
