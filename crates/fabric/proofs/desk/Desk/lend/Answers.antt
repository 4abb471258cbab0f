use Rattle.std.proofs.Common.{sym, ap, subst, ◌∙◌, ◌≡◌}
use Rattle.publication.specs.Lists.{Covers, patch_of}
use Rattle.fabric.specs.{Desks.Desk, Desks.desk_in, Places.desk_of}
use Rattle.fabric.proofs.desk.Desk.lend.Goals as goal

pub new-requires-clause-covers : goal.new-requires-clause-covers
new-requires-clause-covers g c =
    let same : desk_in c.in-In-replace.writer ≡ c.args.self.now = sym (ap desk_of (sym c.replace.ensures.value ∙ c.in-In-replace.is)) ∙ c.self.view_is in
    subst (Covers (patch_of c.args.patch)) (sym (ap (λ (d : Desk). (d.writing).waiting) same)) c.requires.covers
