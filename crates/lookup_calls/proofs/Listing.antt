-- Rows of an image that are written one after another.
use Rattle.std.proofs.Common.{ℕ, ◌≡◌, ◌+◌, ◌<◌, ◌≤◌, List, [], ◌∷◌, ◌++◌, map, length, take, drop, get_or, set, Option, None, arith, refl, sym, ap, ◌∙◌, slice_get}
use Rattle.std.proofs.lemmas.List.{length-drop, length-take-le, take_all, drop_all, take_more, take_more_set, drop_more, get_or-drop, map-append}
use Rattle.std.proofs.lemmas.Option.{none-some}
use Rattle.ipv4_prefix.specs.Prefix.{Prefix}
use Rattle.row_words.specs.declared.cells.Marked.{Marked}
use Rattle.array_bitmap.specs.Cursor.{rows_onward}
use Rattle.lookup_calls.specs.Prefixes.{IsFilledIn}

-- where no row is left, all are written
pub filled_at_end : {X : Type 0} (shown : Prefix × Marked → X) (rows : List (Prefix × Marked)) (from : Option Prefix) (old new : List X) (count : ℕ) → count ≤ length old → count ≤ length (rows_onward from rows)
    → take count new ≡ map shown (take count (rows_onward from rows)) → drop count new ≡ drop count old → drop count (rows_onward from rows) ≡ [] → IsFilledIn shown rows from old new count None
filled_at_end shown rows from old new count room there first rest ended =
    let all = rows_onward from rows in
    let many : length all ≡ count = omega (arith, there, length-drop count all, ap length ended) in
    let whole : take (length old) all ≡ take count all = take_all (length old) all (omega (arith, many, room)) ∙ sym (take_all count all (omega (arith, many))) in
    record {
      many = sym (ap length whole ∙ length-take-le count all there);
      first = first ∙ ap (map shown) (sym whole);
      rest = rest;
      others = sym (drop_all (length old) all (omega (arith, many, room)));
    }

pub none_of_first : (rows : List (Prefix × Marked)) → None ≡ slice_get rows 0 → rows ≡ []
none_of_first [] none = refl
none_of_first (row ∷ rows) none = absurd (none-some row none)

module _ (all : List (Prefix × Marked)) (row : Prefix × Marked) (others : List (Prefix × Marked)) (count : ℕ) (next : drop count all ≡ row ∷ others) where
  pub one_more_there : count + 1 ≤ length all
  one_more_there = omega (arith, length-drop count all, ap length next)

  pub one_more_row : take (count + 1) all ≡ take count all ++ row ∷ []
  one_more_row =
      let zero : count + 0 ≡ count = omega arith in
      let it : get_or all count row ≡ row = ap (λ k. get_or all k row) (sym zero) ∙ sym (get_or-drop count all 0 row) ∙ ap (λ xs. get_or xs 0 row) next in
      take_more all count row (omega (arith, one_more_there)) ∙ ap (λ x. take count all ++ x ∷ []) it

  -- with it the list has one more
  pub one_more_written : {X : Type 0} (shown : Prefix × Marked → X) (new : List X) → count < length new → take count new ≡ map shown (take count all) → take (count + 1) (set new count (shown row)) ≡ map shown (take (count + 1) all)
  one_more_written shown new room first =
      take_more_set new count (shown row) room ∙ (λ i. first i ++ shown row ∷ []) ∙ sym (map-append shown (take count all) (row ∷ [])) ∙ ap (map shown) (sym one_more_row)

  pub others_follow : others ≡ drop (count + 1) all
  others_follow = ap (drop 1) (sym next ∙ drop_more all count row (omega (arith, one_more_there)))
