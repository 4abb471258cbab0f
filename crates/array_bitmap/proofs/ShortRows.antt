-- A short row is set, or taken out: the words of the array that it covers are the longest again.
use Rattle.std.proofs.Common.{ℕ, zero, suc, ◌≡◌, ◌≢◌, ◌⊎◌, inl, inr, ◌+◌, ◌-◌, ◌*◌, ◌/◌, ◌^◌, ◌<◌, ◌≤◌, ◌==◌, Option, Some, None, cond, nat_le, arith, sym, ap, subst, ◌∙◌}
use Rattle.std.proofs.lemmas.Bool.{cases_eq, cases_lt, cases_order, cond-true, cond-false, le-leb, lt-leb, eq-eqb, ne_eqb}
use Rattle.std.proofs.{lemmas.Nat.shr-shr, lemmas.Nat.shr_below, lemmas.Nat.pow-add, Math.Nat.pow-le-pow_right}
use Rattle.array_bitmap.specs.Bits.{depth_of, five_bits, path_start, row_bit, level_of, more_of}
use Rattle.array_bitmap.specs.Words.{nothing, kind_of, len_of, shown, found, IsRowWord}
use Rattle.bitmaps.specs.Greatest.{GreatestBelow}
use Rattle.array_bitmap.specs.Blocks.{row_in}
use Rattle.array_bitmap.specs.Tree.{Cells, words_at, kid_at, block_at, short_word, long_word, word_at, IsSoundCells, SetsWord}
use Rattle.array_bitmap.proofs.{PathBits.start_above, SetsWords.row_words_stay, SetsWords.GreatestBelow-same, LongestRow.found-row}
use Rattle.bitmaps.proofs.Options.{none≢some}
use Rattle.array_bitmap.proofs.Walks.{block-first, block-next, word-short, word-long}

-- ---- numbers of prefixes

-- the first bits are few
pub start_small : (path len : ℕ) → path < 2 ^ 34 → len ≤ 34 → path_start path len < 2 ^ len
start_small path len fits h =
    let e : len + (34 - len) ≡ 34 = omega arith in
    shr_below path len (34 - len) (subst (λ n. path < 2 ^ n) (sym e) fits)

-- two prefixes of one number are one
pub number_same : (a b m n : ℕ) → a < 2 ^ m → b < 2 ^ n → 2 ^ m + a ≡ 2 ^ n + b → (m ≡ n) × (a ≡ b)
number_same a b m n x y e = elim (cases_order m n) [
  | inl same ↦ (same, let p : 2 ^ m ≡ 2 ^ n = ap (λ k. 2 ^ k) same in omega (arith, e, p))
  | inr (inl less) ↦ absurd (below m n a b less x e)
  | inr (inr more) ↦ absurd (below n m b a more y (sym e))
]
  where
    below : (m n a b : ℕ) → m < n → a < 2 ^ m → 2 ^ m + a ≡ 2 ^ n + b → ⊥
    below m n a b l x e =
        let two : 2 ^ (1 + m) ≡ 2 ^ 1 * 2 ^ m = pow-add 2 1 m in
        let more : 2 ^ (1 + m) ≤ 2 ^ n = pow-le-pow_right {n = 2} (omega arith) (omega arith) in
        omega (arith, x, e, two, more)

-- fewer first bits, by more
pub start_of_start : (path len depth : ℕ) → len ≤ depth → depth ≤ 34 → path_start path depth / 2 ^ (depth - len) ≡ path_start path len
start_of_start path len depth h d =
    let e : 34 - depth + (depth - len) ≡ 34 - len = omega arith in
    shr-shr path (34 - depth) (depth - len) ∙ ap (λ k. path / 2 ^ k) e

-- ---- words
pub nothing_shown : (w : ℕ) → w ≡ nothing → shown w ≡ None
nothing_shown w e = cond-true _ _ _ (eq-eqb w nothing e)

pub nothing_found : (w : ℕ) → w ≡ nothing → found w ≡ None
nothing_found w e = cond-true _ _ _ (eq-eqb w nothing e)

pub some_found : (w : ℕ) → w ≢ nothing → found w ≡ Some (len_of w, w)
some_found w n = cond-false _ _ _ (ne_eqb w nothing n)

pub row_shown : (len w : ℕ) → IsRowWord len w → shown w ≡ Some w
row_shown len w r =
    let kind = r.of_row in
    cond-false _ _ _ (ne_eqb w nothing (λ e. let k : kind_of w ≡ 3 = ap kind_of e in omega (arith, k, kind)))

-- what is found is the greatest, or there is nothing
pub greatest_none : (f : ℕ → Option ℕ) (n w : ℕ) → w ≡ nothing → GreatestBelow f n (found w) → (k : ℕ) → k < n → f k ≡ None
greatest_none f n w e g = subst (GreatestBelow f n) (nothing_found w e) g

pub greatest_some : (f : ℕ → Option ℕ) (n w : ℕ) → w ≢ nothing → GreatestBelow f n (found w) → GreatestBelow f n (Some (len_of w, w))
greatest_some f n w e g = subst (GreatestBelow f n) (some_found w e) g

-- past the length of what was found there is nothing
pub none_past : (f : ℕ → Option ℕ) (n w len : ℕ) → GreatestBelow f n (found w) → len_of w ≤ len → (k : ℕ) → len < k → k < n → f k ≡ None
none_past f n w len g h k l m = elim (cases_eq w nothing) [
  | inl e ↦ greatest_none f n w e g k m
  | inr e ↦ (greatest_some f n w e g).2 k (omega (arith, l, h)) m
]

-- a short word goes by the first bits alone
pub short_same : (c : Cells) (q path len : ℕ) → path_start q len ≡ path_start path len → short_word c q len ≡ short_word c path len
unfolding short_word
short_same c q path len same = ap (λ x. shown (c.shorts (2 ^ len + x))) same

module _ (c : Cells) (shorts2 bests2 : ℕ → ℕ) where
  -- the image with other words in its arrays
  abbrev s2 : Cells
  s2 = record c { shorts = shorts2; bests = bests2 }

  -- walks and long words stay
  pub arrays_walks : (path steps : ℕ) → block_at s2 path steps ≡ block_at c path steps
  arrays_walks path zero = block-first s2 path ∙ sym (block-first c path)
  arrays_walks path (suc steps) =
      block-next s2 path steps ∙ ap (λ p. kid_at c p (five_bits path (c.first + steps))) (arrays_walks path steps) ∙ sym (block-next c path steps)

  pub arrays_long : (path len : ℕ) → depth_of c.first < len → word_at s2 path len ≡ word_at c path len
  unfolding long_word
  arrays_long path len h =
      word-long s2 path len h
      ∙ ap (λ p. row_in (words_at c p) (row_bit (five_bits path (level_of len)) (more_of len))) (arrays_walks path (level_of len - c.first))
      ∙ sym (word-long c path len h)

  module _ (sound : IsSoundCells c) (path len w : ℕ) (fits : path < 2 ^ 34) (short : len ≤ depth_of c.first)
      (here : shorts2 (2 ^ len + path_start path len) ≡ w) (others : (k : ℕ) → k ≢ 2 ^ len + path_start path len → shorts2 k ≡ c.shorts k) where
    shallow : depth_of c.first ≤ 19
    shallow = let f = sound.four_sizes in omega (arith, f)

    -- the row of the length is that of the word, and the others stay
    pub short_hit : (q : ℕ) → path_start q len ≡ path_start path len → word_at s2 q len ≡ shown w
    unfolding short_word
    short_hit q same = word-short s2 q len short ∙ ap (λ x. shown (shorts2 (2 ^ len + x))) same ∙ ap shown here

    pub short_miss : (q m : ℕ) → q < 2 ^ 34 → (m ≡ len → path_start q m ≡ path_start path m → ⊥) → word_at s2 q m ≡ word_at c q m
    unfolding short_word
    short_miss q m small out = elim (cases_lt (depth_of c.first) m) [
      | inl long ↦ arrays_long q m long
      | inr low ↦
          word-short s2 q m low
          ∙ ap shown (others (2 ^ m + path_start q m) (λ e.
          let n = number_same (path_start q m) (path_start path len) m len (start_small q m small (omega (arith, low, shallow))) (start_small path len fits (omega (arith, short, shallow))) e in
          out n.0 (n.1 ∙ ap (path_start path) (sym n.0))))
          ∙ sym (word-short c q m low)
    ]

    pub short_sets : SetsWord (word_at c) (word_at s2) path len (shown w)
    short_sets = record { hit = short_hit; miss = λ q m small few out. short_miss q m small out }

    -- at another length a row stays
    at_other : (q m : ℕ) → q < 2 ^ 34 → m ≢ len → word_at s2 q m ≡ word_at c q m
    at_other q m small n = short_miss q m small (λ e x. n e)

    -- the array's words that the prefix does not cover stay the longest
    far : (q : ℕ) → q < 2 ^ 34 → (path_start q len ≡ path_start path len → ⊥) → bests2 (path_start q (depth_of c.first)) ≡ c.bests (path_start q (depth_of c.first))
        → GreatestBelow (word_at s2 q) (depth_of c.first + 1) (found (bests2 (path_start q (depth_of c.first))))
    far q small out same =
        subst (λ x. GreatestBelow (word_at s2 q) (depth_of c.first + 1) (found x)) (sym same)
        (GreatestBelow-same (word_at c q) (word_at s2 q) (depth_of c.first + 1) (found (c.bests (path_start q (depth_of c.first))))
        (λ k l. short_miss q k small (λ e x. out (subst (λ n. path_start q n ≡ path_start path n) e x))) (sound.longest_shorts q small))

    -- the image is sound where the words of the array are the longest
    arrays_sound : ((v : ℕ) → shown w ≡ Some v → IsRowWord len v)
        → ((q : ℕ) → q < 2 ^ 34 → GreatestBelow (word_at s2 q) (depth_of c.first + 1) (found (bests2 (path_start q (depth_of c.first))))) → IsSoundCells s2
    arrays_sound own longest = record {
      four_sizes = sound.four_sizes;
      nowhere = sound.nowhere;
      blocks_there = sound.blocks_there;
      names_apart = sound.names_apart;
      blocks = sound.blocks;
      row_words = row_words_stay (word_at c) (word_at s2) path len (shown w) short_sets own sound.row_words;
      longest_shorts = longest;
    }

    -- ---- a short row is set
    module _ (own : IsRowWord len w)
        (covered : (x : ℕ) → x / 2 ^ (depth_of c.first - len) ≡ path_start path len → bests2 x ≡ cond (nat_le (len_of (c.bests x)) len) w (c.bests x))
        (uncovered : (x : ℕ) → (x / 2 ^ (depth_of c.first - len) ≡ path_start path len → ⊥) → bests2 x ≡ c.bests x) where
      near : (q : ℕ) → q < 2 ^ 34 → path_start q len ≡ path_start path len → GreatestBelow (word_at s2 q) (depth_of c.first + 1) (found (bests2 (path_start q (depth_of c.first))))
      near q small same = by (cases_lt len (len_of (c.bests x)))
        where
          x : ℕ
          x = path_start q (depth_of c.first)

          is_covered : path_start q (depth_of c.first) / 2 ^ (depth_of c.first - len) ≡ path_start path len
          is_covered = start_of_start q len (depth_of c.first) short (omega (arith, shallow)) ∙ same

          old : GreatestBelow (word_at c q) (depth_of c.first + 1) (found (c.bests (path_start q (depth_of c.first))))
          old = sound.longest_shorts q small

          longer_stays : len < len_of (c.bests (path_start q (depth_of c.first))) → GreatestBelow (word_at s2 q) (depth_of c.first + 1) (found (c.bests (path_start q (depth_of c.first))))
          longer_stays l =
              let b = c.bests (path_start q (depth_of c.first)) in
              let some : b ≢ nothing = λ e. let z : len_of b ≡ 0 = ap len_of e in omega (arith, z, l) in
              let g = greatest_some (word_at c q) (depth_of c.first + 1) b some old in
              subst (GreatestBelow (word_at s2 q) (depth_of c.first + 1)) (sym (some_found b some))
              (g.0, at_other q (len_of b) small (λ e. omega (arith, e, l)) ∙ g.1, λ k m h. at_other q k small (λ e. omega (arith, e, l, m)) ∙ g.2 k m h)

          is_new : len_of (c.bests (path_start q (depth_of c.first))) ≤ len → GreatestBelow (word_at s2 q) (depth_of c.first + 1) (found w)
          is_new l =
              subst (GreatestBelow (word_at s2 q) (depth_of c.first + 1)) (sym (found-row len w own)) (
                omega (arith, short),
                short_hit q same ∙ row_shown len w own,
                λ k m h. at_other q k small (λ e. omega (arith, e, m)) ∙ none_past (word_at c q) (depth_of c.first + 1) (c.bests (path_start q (depth_of c.first))) len old l k m h,
              )

          by : (len < len_of (c.bests (path_start q (depth_of c.first)))) ⊎ (len_of (c.bests (path_start q (depth_of c.first))) ≤ len)
              → GreatestBelow (word_at s2 q) (depth_of c.first + 1) (found (bests2 (path_start q (depth_of c.first))))
          by (inl l) = subst (λ b. GreatestBelow (word_at s2 q) (depth_of c.first + 1) (found b)) (sym (covered _ is_covered ∙ cond-false _ _ _ (lt-leb _ len l))) (longer_stays l)
          by (inr l) = subst (λ b. GreatestBelow (word_at s2 q) (depth_of c.first + 1) (found b)) (sym (covered _ is_covered ∙ cond-true _ _ _ (le-leb _ len l))) (is_new l)

      pub short_set_sound : IsSoundCells s2
      short_set_sound = arrays_sound (λ v e. subst (IsRowWord len) (same_value (shown w) w v (row_shown len w own) e) own) (λ q small. elim (cases_eq (path_start q len) (path_start path len)) [
        | inl same ↦ near q small same
        | inr out ↦ far q small out (uncovered _ (λ e. out (sym (start_of_start q len (depth_of c.first) short (omega (arith, shallow))) ∙ e)))
      ])
        where
          same_value : (o : Option ℕ) (a b : ℕ) → o ≡ Some a → o ≡ Some b → a ≡ b
          same_value o a b e f = cc

      pub short_set_sets : SetsWord (word_at c) (word_at s2) path len (Some w)
      short_set_sets = subst (SetsWord (word_at c) (word_at s2) path len) (row_shown len w own) short_sets

    -- ---- a short row is taken out
    module _ (gone : w ≡ nothing) (next : ℕ) (above : GreatestBelow (word_at c path) len (found next))
        (covered : (x : ℕ) → x / 2 ^ (depth_of c.first - len) ≡ path_start path len → bests2 x ≡ cond (len_of (c.bests x) == len) next (c.bests x))
        (uncovered : (x : ℕ) → (x / 2 ^ (depth_of c.first - len) ≡ path_start path len → ⊥) → bests2 x ≡ c.bests x) where
      near' : (q : ℕ) → q < 2 ^ 34 → path_start q len ≡ path_start path len → GreatestBelow (word_at s2 q) (depth_of c.first + 1) (found (bests2 (path_start q (depth_of c.first))))
      near' q small same = by (cases_eq (len_of (c.bests (path_start q (depth_of c.first)))) len)
        where
          is_covered : path_start q (depth_of c.first) / 2 ^ (depth_of c.first - len) ≡ path_start path len
          is_covered = start_of_start q len (depth_of c.first) short (omega (arith, shallow)) ∙ same

          old : GreatestBelow (word_at c q) (depth_of c.first + 1) (found (c.bests (path_start q (depth_of c.first))))
          old = sound.longest_shorts q small

          none_here : word_at s2 q len ≡ None
          none_here = short_hit q same ∙ nothing_shown w gone

          -- a shorter prefix of the path is one of the other path
          upward : (k : ℕ) → k < len → word_at s2 q k ≡ word_at c path k
          upward k l =
              let e : k + (len - k) ≡ len = omega (arith, l) in
              let bits : path_start q k ≡ path_start path k = start_above q path k (len - k) (omega (arith, l, short, shallow)) (subst (λ n. path_start q n ≡ path_start path n) (sym e) same) in
              at_other q k small (λ x. omega (arith, x, l)) ∙ word-short c q k (omega (arith, l, short)) ∙ short_same c q path k bits ∙ sym (word-short c path k (omega (arith, l, short)))

          falls : (best : Option (ℕ × ℕ)) → len_of (c.bests (path_start q (depth_of c.first))) ≡ len → GreatestBelow (word_at c path) len best → GreatestBelow (word_at s2 q) (depth_of c.first + 1) best
          falls None e g = λ k h. elim (cases_order k len) [
            | inl at ↦ ap (word_at s2 q) at ∙ none_here
            | inr (inl l) ↦ upward k l ∙ g k l
            | inr (inr l) ↦ at_other q k small (λ x. omega (arith, x, l)) ∙ none_past (word_at c q) (depth_of c.first + 1) (c.bests (path_start q (depth_of c.first))) len old (omega (arith, e)) k l h
          ]
          falls (Some r) e g = (
            omega (arith, g.0, short),
            upward r.0 g.0 ∙ g.1,
            λ k m h. elim (cases_order k len) [
              | inl at ↦ ap (word_at s2 q) at ∙ none_here
              | inr (inl l) ↦ upward k l ∙ g.2 k m l
              | inr (inr l) ↦ at_other q k small (λ x. omega (arith, x, l)) ∙ none_past (word_at c q) (depth_of c.first + 1) (c.bests (path_start q (depth_of c.first))) len old (omega (arith, e)) k l h
            ],
          )

          stays : len_of (c.bests (path_start q (depth_of c.first))) ≢ len → GreatestBelow (word_at s2 q) (depth_of c.first + 1) (found (c.bests (path_start q (depth_of c.first))))
          stays n = elim (cases_eq (c.bests (path_start q (depth_of c.first))) nothing) [
            | inl none ↦
                subst (GreatestBelow (word_at s2 q) (depth_of c.first + 1)) (sym (nothing_found _ none)) (λ k h. elim (cases_eq k len) [
                  | inl at ↦ ap (word_at s2 q) at ∙ none_here
                  | inr m ↦ at_other q k small m ∙ greatest_none (word_at c q) (depth_of c.first + 1) (c.bests (path_start q (depth_of c.first))) none old k h
                ])
            | inr some ↦
                let b = c.bests (path_start q (depth_of c.first)) in
                let g = greatest_some (word_at c q) (depth_of c.first + 1) b some old in
                subst (GreatestBelow (word_at s2 q) (depth_of c.first + 1)) (sym (some_found b some)) (
                  g.0,
                  at_other q (len_of b) small n ∙ g.1,
                  λ k m h. elim (cases_eq k len) [
                    | inl at ↦ ap (word_at s2 q) at ∙ none_here
                    | inr y ↦ at_other q k small y ∙ g.2 k m h
                  ],
                )
          ]

          by : (len_of (c.bests (path_start q (depth_of c.first))) ≡ len) ⊎ (len_of (c.bests (path_start q (depth_of c.first))) ≡ len → ⊥)
              → GreatestBelow (word_at s2 q) (depth_of c.first + 1) (found (bests2 (path_start q (depth_of c.first))))
          by (inl e) = subst (λ b. GreatestBelow (word_at s2 q) (depth_of c.first + 1) (found b)) (sym (covered _ is_covered ∙ cond-true _ _ _ (eq-eqb _ len e))) (falls (found next) e above)
          by (inr n) = subst (λ b. GreatestBelow (word_at s2 q) (depth_of c.first + 1) (found b)) (sym (covered _ is_covered ∙ cond-false _ _ _ (ne_eqb _ len n))) (stays n)

      pub short_gone_sound : IsSoundCells s2
      short_gone_sound = arrays_sound (λ v e. absurd (none≢some (shown w) v (nothing_shown w gone) e)) (λ q small. elim (cases_eq (path_start q len) (path_start path len)) [
        | inl same ↦ near' q small same
        | inr out ↦ far q small out (uncovered _ (λ e. out (sym (start_of_start q len (depth_of c.first) short (omega (arith, shallow))) ∙ e)))
      ])

      pub short_gone_sets : SetsWord (word_at c) (word_at s2) path len None
      short_gone_sets = subst (SetsWord (word_at c) (word_at s2) path len) (nothing_shown w gone) short_sets
