-- What a writer that is out keeps, while its publication is tried.
use Rattle.std.proofs.Common.{inl, inr, refl, sym, ap, subst, ◌∙◌, ◌≡◌, ◌⊎◌, ◌||◌, Bool, true, false, List, [], ◌∷◌, ◌++◌, map, append-nil}
use Rattle.std.specs.List.{list_any}
use Rattle.std.proofs.lemmas.List.Folds.{list_any-append}
use Rattle.ipv4_prefix.specs.Prefix.{Prefix, prefix_eq}
use Rattle.network_model.specs.{declared.route.Entry.Entry, Publication.Patch}
use Rattle.publication.specs.{declared.known.Known.Known, Outings.HasPublished, Outings.IsOuting, Outings.Outing}
use Rattle.publication.specs.Lists.{Covers, Writing, is_named, patched_prefixes}
use Rattle.publication.proofs.Waiting.{prefixes-append}

-- the prefixes that some patches name, and those of one more
pub named-more : (ws : List Patch) (p : Patch) (q : Prefix) → is_named (ws ++ p ∷ []) q ≡ (is_named ws q || is_named (p ∷ []) q)
named-more ws p q =
    let keys : List Prefix = map (λ (r : Prefix × Entry). r.0) p.rows in
    ap (list_any (λ k. prefix_eq k q)) (prefixes-append ws p)
    ∙ list_any-append (λ k. prefix_eq k q) (patched_prefixes ws) keys
    ∙ ap (λ ks. is_named ws q || list_any (λ k. prefix_eq k q) ks) (sym (append-nil keys))

-- a patch that names all that waits names all that waits with it
pub covers-itself : (p : Patch) (ws : List Patch) → Covers p ws → Covers p (ws ++ p ∷ [])
covers-itself p ws covers q named = by_rest (is_named ws q) refl (sym (named-more ws p q) ∙ named)
  where
    by_rest : (b : Bool) → is_named ws q ≡ b → (b || is_named (p ∷ []) q) ≡ true → is_named (p ∷ []) q ≡ true
    by_rest true is _ = covers q is
    by_rest false is here = here

abbrev pub outing : Known → Patch → Bool → Writing → Outing
outing before patch flag w = record { before = before; patch = patch; is_published = flag; writing = w }

-- a refused publication leaves it out as it was
pub out_still : (before : Known) (patch : Patch) (flag : Bool) (old new : Writing) → flag ≡ false → IsOuting (outing before patch flag old) → new.published ≡ old.published
    → (new.waiting ≡ old.waiting) ⊎ (new.waiting ≡ old.waiting ++ patch ∷ []) → IsOuting (outing before patch flag new)
out_still before patch flag old new not_yet kept same waits = record {
  next = kept.next;
  published = subst (λ b. HasPublished b (outing before patch flag new)) (sym not_yet) (same ∙ was.0, by_waiting waits);
}
  where
    was : HasPublished false (outing before patch flag old)
    was = subst (λ b. HasPublished b (outing before patch flag old)) not_yet kept.published

    by_waiting : (new.waiting ≡ old.waiting) ⊎ (new.waiting ≡ old.waiting ++ patch ∷ []) → Covers patch new.waiting
    by_waiting (inl as_before) = subst (Covers patch) (sym as_before) was.1
    by_waiting (inr one_more) = subst (Covers patch) (sym one_more) (covers-itself patch old.waiting was.1)
