-- The prefixes of attachments, gathered one after another.
use Rattle.std.proofs.Common.{refl, ap, sym, ◌∙◌, ◌≡◌, ℕ, ◌+◌, ◌<◌, Bool, true, false, cond, List, [], ◌∷◌, ◌++◌, Option, Some, None, length, get_or, map, take, ◌||◌, is_some}
use Rattle.no_packet_loops.proofs.Common.{find-put, list_any-append, prefix_cmp_total, find as row_of, put, list_any, map-append, slice_get_read, Prefix, prefix_cmp, prefix_eq}
use Rattle.network_model.proofs.Fronts.{take_next}

-- one more attachment's prefix is put
pub given_next : (attachments : List (Prefix × ℕ × ℕ)) (n : ℕ) (a : Prefix × ℕ × ℕ) (rows : List (Prefix × Unit {0})) (p : Prefix) → n < length attachments → a ≡ get_or attachments n a
    → is_some (row_of prefix_cmp p rows) ≡ list_any (λ b. prefix_eq p b.0) (take n attachments)
    → is_some (row_of prefix_cmp p (put prefix_cmp a.0 tt rows)) ≡ list_any (λ b. prefix_eq p b.0) (take (n + 1) attachments)
given_next attachments n a rows p within here before =
    ap is_some (find-put prefix_cmp prefix_cmp_total p a.0 tt rows) ∙ by_key (prefix_eq p a.0) (row_of prefix_cmp p rows)
    ∙ ap (λ b. b || (prefix_eq p a.0 || false)) before
    ∙ sym (ap (list_any (λ b. prefix_eq p b.0)) (take_next attachments n a (slice_get_read attachments (length attachments) n a refl within here)) ∙ list_any-append (λ b. prefix_eq p b.0) (take n attachments) (a ∷ []))
  where
    by_key : (b : Bool) (o : Option (Unit {0})) → is_some (cond b (Some tt) o) ≡ (is_some o || (b || false))
    by_key true None = refl
    by_key true (Some x) = refl
    by_key false None = refl
    by_key false (Some x) = refl

pub keys_next : (rows : List (Prefix × Unit {0})) (n : ℕ) (r : Prefix × Unit {0}) (ps : List Prefix) → n < length rows → r ≡ get_or rows n r → ps ≡ map (λ x. x.0) (take n rows)
    → ps ++ r.0 ∷ [] ≡ map (λ x. x.0) (take (n + 1) rows)
keys_next rows n r ps within here before =
    ap (λ qs. qs ++ r.0 ∷ []) before ∙ sym (ap (map (λ x. x.0)) (take_next rows n r (slice_get_read rows (length rows) n r refl within here)) ∙ map-append (λ x. x.0) (take n rows) (r ∷ []))
