-- What the place of a prefix says of a look-up and of a change.
use Rattle.std.proofs.Common.{◌≡◌, ℕ, ◌+◌, ◌<◌, ◌≤◌, Bool, true, false, not, List, Result, Ok, Err, length, get_or, set, if◌then◌else◌, Some, None, sym, ap, ◌∙◌, arith}
use Rattle.std.specs.{declared.cmp.Ordering.TheVariants.Equal, FinMap.find, FinMap.put, FinMap.is_sorted, FinMap.Entries.is_sorted-where_key, List.insert, List.remove, List.Sorted.IsBinarySearchResult, List.Sorted.IsSearchInRange}
use Rattle.std.proofs.{lemmas.Cmp.tied_itself, lemmas.List.Edits.length-insert}
use Rattle.ipv4_prefix.specs.Prefix.{Prefix, prefix_cmp, prefix_eq}
use Rattle.ipv4_prefix.proofs.{SortedRows.to_T, SortedRows.from_T, PrefixOrder.prefix_cmp_total, PrefixOrder.prefix_cmp-tied}
use Rattle.network_model.proofs.RowLaws.{sorted-put}
use Rattle.route_table.specs.Place.{IsPlace, without}
use Rattle.route_table.proofs.Places.{searchable, put-set, put-insert, find-at, find-between, others-remove, others-between}

module _ {X : Type 0} where
  pub place_from_search : (rows : List (Prefix × X)) (p : Prefix) (r : Result ℕ ℕ) → is_sorted prefix_cmp rows ≡ true → IsSearchInRange r (length rows) → IsBinarySearchResult (λ y. prefix_cmp y.0 p) rows r → IsPlace p rows r
  place_from_search rows p (Ok i) s range found = (range, λ d. prefix_cmp-tied _ p (found d))
  place_from_search rows p (Err i) s range found = let parts = found (searchable prefix_cmp_total rows p s) in (range, parts.0, parts.1)

  pub sorted-without : (rows : List (Prefix × X)) (p : Prefix) → is_sorted prefix_cmp rows ≡ true → is_sorted prefix_cmp (without p rows) ≡ true
  sorted-without rows p s = from_T _ (is_sorted-where_key prefix_cmp (λ q. not (prefix_eq p q)) rows (to_T _ s))

  module _ (rows : List (Prefix × X)) (i : ℕ) (p : Prefix) where
    tied : IsPlace p rows (Ok i) → (d : Prefix × X) → prefix_cmp (get_or rows i d).0 p ≡ Equal
    tied at d = ap (λ q. prefix_cmp q p) (at.1 d) ∙ tied_itself prefix_cmp_total p

    -- x is the row that was read at the place
    pub found_row : (x : Prefix × X) → is_sorted prefix_cmp rows ≡ true → IsPlace p rows (Ok i) → x ≡ get_or rows i x → find prefix_cmp p rows ≡ Some x.1
    found_row x s at read = find-at prefix_cmp_total rows i p x s at.0 (tied at x) ∙ ap (λ (r : Prefix × X). Some r.1) (sym read)

    pub written_row : (x : Prefix × X) (v : X) → is_sorted prefix_cmp rows ≡ true → IsPlace p rows (Ok i) → x ≡ get_or rows i x → set rows i (x.0, v) ≡ put prefix_cmp p v rows
    written_row x v s at read = ap (λ (r : Prefix × X). set rows i (r.0, v)) read ∙ sym (put-set prefix_cmp_total rows i p v x s at.0 (tied at x))

    pub sorted-written : (x : Prefix × X) (v : X) → is_sorted prefix_cmp rows ≡ true → IsPlace p rows (Ok i) → x ≡ get_or rows i x → is_sorted prefix_cmp (set rows i (x.0, v)) ≡ true
    sorted-written x v s at read = ap (is_sorted prefix_cmp) (written_row x v s at read) ∙ sorted-put rows p v s

    pub removed_row : (x : Prefix × X) → is_sorted prefix_cmp rows ≡ true → IsPlace p rows (Ok i) → remove rows i ≡ without p rows
    removed_row x s at = sym (others-remove prefix_cmp_total rows i p x s at.0 (tied at x))

    pub sorted-removed : (x : Prefix × X) → is_sorted prefix_cmp rows ≡ true → IsPlace p rows (Ok i) → is_sorted prefix_cmp (remove rows i) ≡ true
    sorted-removed x s at = ap (is_sorted prefix_cmp) (removed_row x s at) ∙ sorted-without rows p s

    pub missed_row : IsPlace p rows (Err i) → find prefix_cmp p rows ≡ None
    missed_row at = find-between prefix_cmp_total rows i p at.1 at.2

    pub new_row : (v : X) → IsPlace p rows (Err i) → insert rows i (p, v) ≡ put prefix_cmp p v rows
    new_row v at = sym (put-insert prefix_cmp_total rows i p v at.0 at.1 at.2)

    -- whether the insert succeeded or not
    pub sorted-insert : (v : X) (done : Bool) → is_sorted prefix_cmp rows ≡ true → IsPlace p rows (Err i) → is_sorted prefix_cmp (if done then insert rows i (p, v) else rows) ≡ true
    sorted-insert v true s at = ap (is_sorted prefix_cmp) (new_row v at) ∙ sorted-put rows p v s
    sorted-insert v false s at = s

    pub room_for_row : (v : X) (n : ℕ) → IsPlace p rows (Err i) → length (put prefix_cmp p v rows) ≤ n → length rows < n
    room_for_row v n at fits =
        let grown : length (insert rows i (p, v)) ≡ length rows + 1 = length-insert rows i (p, v) at.0 in
        omega (arith, ap length (new_row v at))

    pub none_to_remove : IsPlace p rows (Err i) → rows ≡ without p rows
    none_to_remove at = sym (others-between prefix_cmp_total rows i p at.1 at.2)
