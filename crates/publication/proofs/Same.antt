-- Patches that set the same rows are one.
use Rattle.std.proofs.Common.{ap, sym, subst, ◌∙◌, ◌≡◌, true, ◌&&◌}
use Rattle.std.specs.Bool.{Decides}
use Rattle.std.proofs.lemmas.Bool.{and_from, and_parts}
use Rattle.ipv4_prefix.specs.contracts.prefix.PrefixPartialEq.TheImpl as PrefixEq
use Rattle.ipv4_prefix.specs.Prefix.{Prefix}
use Rattle.ipv4_prefix.proofs.PrefixOrder.{prefix_eq-Decides, prefix_partial_eq}
use Rattle.network_model.specs.contracts.route.EntryPartialEq.TheImpl as EntryEq
use Rattle.network_model.specs.{declared.route.Entry.Entry, Step.entry_eq}
use Rattle.network_model.proofs.EntryLaws.{entry_eq-refl, entry_from_eq, entry_partial_eq}

-- the test tells whether two rows are equal
pub row_same : (a b : Prefix × Entry) → Decides ((PrefixEq.ghosts).eq a.0 b.0 && (EntryEq.ghosts).eq a.1 b.1) (a ≡ b)
row_same a b = (
  λ yes.
      let parts = and_parts _ _ yes in
      let key : a.0 ≡ b.0 = (prefix_eq-Decides a.0 b.0).0 (sym (prefix_partial_eq a.0 b.0) ∙ parts.0) in
      let value : a.1 ≡ b.1 = entry_from_eq a.1 b.1 (sym (entry_partial_eq a.1 b.1) ∙ parts.1) in
      λ i. (key i, value i),
  λ same. and_from _ _ (prefix_partial_eq a.0 b.0 ∙ (prefix_eq-Decides a.0 b.0).1 (ap (λ (r : Prefix × Entry). r.0) same))
      (entry_partial_eq a.1 b.1 ∙ subst (λ (e : Entry). entry_eq a.1 e ≡ true) (ap (λ (r : Prefix × Entry). r.1) same) (entry_eq-refl a.1)),
)
