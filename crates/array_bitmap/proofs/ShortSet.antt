-- A short row is set in the arrays of the code.
use Rattle.std.proofs.Common.{ℕ, ◌≡◌, ◌≢◌, ◌+◌, ◌-◌, ◌*◌, ◌^◌, ◌<◌, ◌≤◌, List, length, get_or, slice_set, slice_index_or, Option, Some, None, cond, nat_le, ◌==◌, arith, refl, sym, ap, subst, ◌∙◌, pow_pos}
use Rattle.std.proofs.{lemmas.List.get_or-set_same, lemmas.List.get_or-set_other, lemmas.List.get_or_read, lemmas.Bool.cond-false, lemmas.Bool.ne_eqb}
use Rattle.array_bitmap.specs.{Bits.depth_of, Bits.path_start, Image.top_at, declared.tree.Top.Top}
use Rattle.array_bitmap.specs.Words.{nothing, len_of, shown, found, IsRowWord}
use Rattle.bitmaps.specs.Greatest.{GreatestBelow}
use Rattle.array_bitmap.specs.Tree.{Cells, short_word, word_at, IsSoundCells, SetsWord}
use Rattle.array_bitmap.proofs.Arrays.{best_covered, best_uncovered, blocks_stay, arrays_kept}
use Rattle.array_bitmap.proofs.ShortRows.{short_set_sound, short_set_sets, short_gone_sound, short_gone_sets, nothing_shown}
use Rattle.array_bitmap.proofs.{Walks.word-short, LongestRow.found-row}
use Rattle.bitmaps.proofs.Finds.{GreatestBelow-end}

-- the words of an image, by its arrays and its blocks
abbrev pub array_cells : ℕ → (ℕ → Option (List ℕ)) → List ℕ → List Top → Cells
array_cells first heap shorts tops = record {
  first = first;
  shorts = λ k. slice_index_or shorts k nothing;
  bests = λ x. (top_at tops x).best;
  tops = λ x. (top_at tops x).block;
  heap = heap;
}

module _ (first : ℕ) (heap : ℕ → Option (List ℕ)) (shorts : List ℕ) (old new : List Top) (path len word number from to : ℕ)
    (sound : IsSoundCells (array_cells first heap shorts old)) (fits : path < 2 ^ 34) (short : len ≤ depth_of first) (own : IsRowWord len word)
    (within : number < length shorts) (n : number ≡ 2 ^ len + path_start path len)
    (f : from ≡ path_start path len * 2 ^ (depth_of first - len)) (t : to ≡ (path_start path len + 1) * 2 ^ (depth_of first - len))
    (inside : (x : ℕ) → from ≤ x → x < to → top_at new x ≡ record (top_at old x) { best = cond (nat_le (len_of (top_at old x).best) len) word (top_at old x).best })
    (below : (x : ℕ) → x < from → top_at new x ≡ top_at old x)
    (above : (x : ℕ) → from ≤ x → to ≤ x → top_at new x ≡ top_at old x) where
  some : 0 < 2 ^ (depth_of first - len)
  some = pow_pos (depth_of first - len)

  here : slice_index_or (slice_set shorts number word) (2 ^ len + path_start path len) nothing ≡ word
  here = ap (λ k. slice_index_or (slice_set shorts number word) k nothing) (sym n) ∙ get_or-set_same shorts number word nothing within

  others : (k : ℕ) → k ≢ 2 ^ len + path_start path len → slice_index_or (slice_set shorts number word) k nothing ≡ slice_index_or shorts k nothing
  others k m = get_or-set_other shorts number k word nothing (λ e. m (e ∙ n))

  kept : array_cells first heap (slice_set shorts number word) new
      ≡ record (array_cells first heap shorts old) { shorts = λ k. slice_index_or (slice_set shorts number word) k nothing; bests = λ x. (top_at new x).best }
  kept = arrays_kept (array_cells first heap shorts old) (λ k. slice_index_or (slice_set shorts number word) k nothing) (λ x. (top_at new x).best) (λ x. (top_at new x).block)
      (blocks_stay old new (path_start path len) (2 ^ (depth_of first - len)) from to (λ b. cond (nat_le (len_of b) len) word b) some f t inside below above)

  pub short_tree_sound : IsSoundCells (array_cells first heap (slice_set shorts number word) new)
  short_tree_sound = subst IsSoundCells (sym kept)
      (short_set_sound (array_cells first heap shorts old) (λ k. slice_index_or (slice_set shorts number word) k nothing) (λ x. (top_at new x).best) sound path len word fits short here others own
      (best_covered old new (path_start path len) (2 ^ (depth_of first - len)) from to (λ b. cond (nat_le (len_of b) len) word b) some f t inside below above)
      (best_uncovered old new (path_start path len) (2 ^ (depth_of first - len)) from to (λ b. cond (nat_le (len_of b) len) word b) some f t inside below above))

  pub short_tree_sets : SetsWord (word_at (array_cells first heap shorts old)) (word_at (array_cells first heap (slice_set shorts number word) new)) path len (Some word)
  short_tree_sets = subst (λ x. SetsWord (word_at (array_cells first heap shorts old)) (word_at x) path len (Some word)) (sym kept)
      (short_set_sets (array_cells first heap shorts old) (λ k. slice_index_or (slice_set shorts number word) k nothing) (λ x. (top_at new x).best) sound path len word fits short here others own
      (best_covered old new (path_start path len) (2 ^ (depth_of first - len)) from to (λ b. cond (nat_le (len_of b) len) word b) some f t inside below above)
      (best_uncovered old new (path_start path len) (2 ^ (depth_of first - len)) from to (λ b. cond (nat_le (len_of b) len) word b) some f t inside below above))

-- ---- a short row is taken out
module _ (first : ℕ) (heap : ℕ → Option (List ℕ)) (shorts : List ℕ) (old new : List Top) (path len next number from to : ℕ)
    (sound : IsSoundCells (array_cells first heap shorts old)) (fits : path < 2 ^ 34) (short : len ≤ depth_of first)
    (above' : GreatestBelow (word_at (array_cells first heap shorts old) path) len (found next))
    (within : number < length shorts) (n : number ≡ 2 ^ len + path_start path len)
    (f : from ≡ path_start path len * 2 ^ (depth_of first - len)) (t : to ≡ (path_start path len + 1) * 2 ^ (depth_of first - len))
    (inside : (x : ℕ) → from ≤ x → x < to → top_at new x ≡ record (top_at old x) { best = cond (len_of (top_at old x).best == len) next (top_at old x).best })
    (below : (x : ℕ) → x < from → top_at new x ≡ top_at old x)
    (above : (x : ℕ) → from ≤ x → to ≤ x → top_at new x ≡ top_at old x) where
  some' : 0 < 2 ^ (depth_of first - len)
  some' = pow_pos (depth_of first - len)

  here' : slice_index_or (slice_set shorts number nothing) (2 ^ len + path_start path len) nothing ≡ nothing
  here' = ap (λ k. slice_index_or (slice_set shorts number nothing) k nothing) (sym n) ∙ get_or-set_same shorts number nothing nothing within

  others' : (k : ℕ) → k ≢ 2 ^ len + path_start path len → slice_index_or (slice_set shorts number nothing) k nothing ≡ slice_index_or shorts k nothing
  others' k m = get_or-set_other shorts number k nothing nothing (λ e. m (e ∙ n))

  kept' : array_cells first heap (slice_set shorts number nothing) new
      ≡ record (array_cells first heap shorts old) { shorts = λ k. slice_index_or (slice_set shorts number nothing) k nothing; bests = λ x. (top_at new x).best }
  kept' = arrays_kept (array_cells first heap shorts old) (λ k. slice_index_or (slice_set shorts number nothing) k nothing) (λ x. (top_at new x).best) (λ x. (top_at new x).block)
      (blocks_stay old new (path_start path len) (2 ^ (depth_of first - len)) from to (λ b. cond (len_of b == len) next b) some' f t inside below above)

  pub short_gone_tree_sound : IsSoundCells (array_cells first heap (slice_set shorts number nothing) new)
  short_gone_tree_sound = subst IsSoundCells (sym kept')
      (short_gone_sound (array_cells first heap shorts old) (λ k. slice_index_or (slice_set shorts number nothing) k nothing) (λ x. (top_at new x).best) sound path len nothing fits short here' others' refl next above'
      (best_covered old new (path_start path len) (2 ^ (depth_of first - len)) from to (λ b. cond (len_of b == len) next b) some' f t inside below above)
      (best_uncovered old new (path_start path len) (2 ^ (depth_of first - len)) from to (λ b. cond (len_of b == len) next b) some' f t inside below above))

  pub short_gone_tree_sets : SetsWord (word_at (array_cells first heap shorts old)) (word_at (array_cells first heap (slice_set shorts number nothing) new)) path len None
  short_gone_tree_sets = subst (λ x. SetsWord (word_at (array_cells first heap shorts old)) (word_at x) path len None) (sym kept')
      (short_gone_sets (array_cells first heap shorts old) (λ k. slice_index_or (slice_set shorts number nothing) k nothing) (λ x. (top_at new x).best) sound path len nothing fits short here' others' refl next above'
      (best_covered old new (path_start path len) (2 ^ (depth_of first - len)) from to (λ b. cond (len_of b == len) next b) some' f t inside below above)
      (best_uncovered old new (path_start path len) (2 ^ (depth_of first - len)) from to (λ b. cond (len_of b == len) next b) some' f t inside below above))

-- ---- the longest short row, by one length more
module _ (c : Cells) (sound : IsSoundCells c) (path len best word : ℕ) (fits : path < 2 ^ 34) (short : len ≤ depth_of c.first) (read : word ≡ c.shorts (2 ^ len + path_start path len))
    (before : GreatestBelow (word_at c path) len (found best)) where
  word_here : word_at c path len ≡ shown word
  unfolding short_word
  word_here = word-short c path len short ∙ ap shown (sym read)

  pub longer_short : word ≢ nothing → GreatestBelow (word_at c path) (len + 1) (found word)
  longer_short n =
      let e : word_at c path len ≡ Some word = word_here ∙ cond-false _ _ _ (ne_eqb word nothing n) in
      let four = sound.four_sizes in
      let own = sound.row_words path len word fits (omega (arith, short, four)) e in
      subst (GreatestBelow (word_at c path) (len + 1)) (sym (found-row len word own)) (omega arith, e, λ k l h. absurd (omega (arith, l, h)))

  pub same_short : word ≡ nothing → GreatestBelow (word_at c path) (len + 1) (found best)
  same_short e =
      GreatestBelow-end (word_at c path) len (len + 1) (found best) (omega arith)
      (λ k l h. let same : k ≡ len = omega (arith, l, h) in ap (word_at c path) same ∙ word_here ∙ nothing_shown word e) before

-- ---- what is read of the short words

-- a short word of a path, by what stands at its number
pub short_read : (c : Cells) (path len word : ℕ) → len ≤ depth_of c.first → word ≡ c.shorts (2 ^ len + path_start path len) → word_at c path len ≡ shown word
unfolding short_word
short_read c path len word short read = word-short c path len short ∙ ap shown (sym read)

-- what the code reads at an index is what stands there
pub read_short : (shorts : List ℕ) (x x' w : ℕ) → x < length shorts → w ≡ get_or shorts x w → x ≡ x' → w ≡ slice_index_or shorts x' nothing
read_short shorts x x' w h e same = get_or_read shorts x w h e nothing ∙ ap (λ k. slice_index_or shorts k nothing) same
