use Rattle.std.proofs.Common.{◌≡◌, ◌∙◌, ap, sym}
use Rattle.std.specs.Bool.{Decides}
use Rattle.std.proofs.lemmas.Slice.Eq.{slice_eq-Decides}
use Rattle.network_model.specs.Publication.{Patch}
use Rattle.publication.proofs.Same.{row_same}
use Rattle.publication.proofs.ticket.is_patch.Goals as goal

pub returns-then-patch-other : goal.returns-then-patch-other
returns-then-patch-other g c =
    let D : Decides c.eq.result (c.as_slice.result.now ≡ c.as_slice-then-patch-other.result.now)
    = slice_eq-Decides row_same c.as_slice.result.now c.as_slice-then-patch-other.result.now c.eq.result c.eq.ensures in
    let a = c.as_slice.ensures.value in
    let b = c.as_slice-then-patch-other.ensures.value in (
      λ yes. let rows = sym a ∙ D.0 yes ∙ b in λ i. record { generation = c.if-patch-other.true i; rows = rows i },
      λ same. D.1 (a ∙ ap (λ (p : Patch). p.rows) same ∙ sym b),
    )
