-- A block without rows and kids is taken, and the first one of a path gets its name.
use Rattle.std.proofs.Common.{ℕ, zero, suc, ◌≡◌, ◌≢◌, ◌⊎◌, inl, inr, ◌+◌, ◌-◌, ◌≤◌, ◌==◌, List, Option, Some, None, true, cond, is_some, sym, ap, subst, ◌∙◌}
use Rattle.std.proofs.lemmas.Bool.{cases_eq, cases_lt, false≢true}
use Rattle.array_bitmap.specs.Bits.{depth_of, five_bits, path_start, row_bit, level_of, more_of}
use Rattle.array_bitmap.specs.{Words.found, Blocks.row_in, Blocks.kid_in, Blocks.IsBlock, Changes.WritesName}
use Rattle.array_bitmap.specs.Tree.{Cells, words_in_block, words_at, kid_at, block_at, short_word, long_word, word_at, named, IsSoundCells}
use Rattle.array_bitmap.proofs.Walks.{zeros, block-first, block-next, kid-nowhere, row-nowhere, no_kid_none, no_row_none, word-short, word-long}
use Rattle.array_bitmap.proofs.{OnePath.named-kid, OnePath.named_used, SetsWords.GreatestBelow-same}

module _ (c : Cells) (tops2 : ℕ → ℕ) (heap2 : ℕ → Option (List ℕ)) where
  abbrev c2 : Cells
  c2 = record c { tops = tops2; heap = heap2 }

  -- short words stay, where neither array is written
  pub shorts_same : (path len : ℕ) → len ≤ depth_of c.first → word_at c2 path len ≡ word_at c path len
  unfolding short_word
  shorts_same path len h = word-short c2 path len h ∙ sym (word-short c path len h)

  -- words are the same where walks stand at blocks with the same rows
  pub words_same : ((path steps b : ℕ) → row_in (words_at c2 (block_at c2 path steps)) b ≡ row_in (words_at c (block_at c path steps)) b) → (path len : ℕ) → word_at c2 path len ≡ word_at c path len
  unfolding long_word
  words_same rows path len = elim (cases_lt (depth_of c.first) len) [
    | inl long ↦
        word-long c2 path len long
        ∙ rows path (level_of len - c.first) (row_bit (five_bits path (level_of len)) (more_of len))
        ∙ sym (word-long c path len long)
    | inr low ↦ shorts_same path len low
  ]

-- ---- a block is taken
module _ (c : Cells) (heap0 : ℕ → Option (List ℕ)) (place : ℕ) (ws : List ℕ) (sound : IsSoundCells c)
    (fresh : c.heap place ≡ None) (here : heap0 place ≡ Some ws) (others : (p : ℕ) → p ≢ place → heap0 p ≡ c.heap p)
    (no_kids : (m : ℕ) → kid_in ws m ≡ 0) (no_rows : (b : ℕ) → row_in ws b ≡ None) where
  abbrev c0 : Cells
  c0 = record c { heap = heap0 }

  -- it is not at 0
  pub taken_some : place ≢ 0
  taken_some e = false≢true (sym (ap is_some fresh) ∙ ap (λ p. is_some (c.heap p)) e ∙ ap is_some sound.nowhere)

  -- kids and rows stay
  kids_same : (p m : ℕ) → kid_at c0 p m ≡ kid_at c p m
  kids_same p m = elim (cases_eq p place) [
    | inl e ↦ ap (λ x. kid_at c0 x m) e ∙ ap (λ o. kid_in (words_in_block o) m) here ∙ no_kids m ∙ sym (ap (λ x. kid_at c x m) e ∙ ap (λ o. kid_in (words_in_block o) m) fresh ∙ no_kid_none m)
    | inr n ↦ ap (λ o. kid_in (words_in_block o) m) (others p n)
  ]

  rows_same : (p b : ℕ) → row_in (words_at c0 p) b ≡ row_in (words_at c p) b
  rows_same p b = elim (cases_eq p place) [
    | inl e ↦ ap (λ x. row_in (words_at c0 x) b) e ∙ ap (λ o. row_in (words_in_block o) b) here ∙ no_rows b ∙ sym (ap (λ x. row_in (words_at c x) b) e ∙ ap (λ o. row_in (words_in_block o) b) fresh ∙ no_row_none b)
    | inr n ↦ ap (λ o. row_in (words_in_block o) b) (others p n)
  ]

  pub taken_names : (p m : ℕ) → named c0 p m ≡ named c p m
  taken_names p m = ap (cond (p == 0) (c.tops m)) (kids_same p m)

  -- so do walks and words
  pub taken_walks : (path steps : ℕ) → block_at c0 path steps ≡ block_at c path steps
  taken_walks path zero = block-first c0 path ∙ sym (block-first c path)
  taken_walks path (suc steps) =
      block-next c0 path steps ∙ ap (λ p. kid_at c0 p (five_bits path (c.first + steps))) (taken_walks path steps)
      ∙ kids_same (block_at c path steps) (five_bits path (c.first + steps)) ∙ sym (block-next c path steps)

  pub taken_words : (path len : ℕ) → word_at c0 path len ≡ word_at c path len
  taken_words =
      words_same c c.tops heap0 (λ path steps b. ap (λ p. row_in (words_at c0 p) b) (taken_walks path steps) ∙ rows_same (block_at c path steps) b)

  -- no name is that of the block
  pub taken_unnamed : (p m : ℕ) → named c0 p m ≢ place
  taken_unnamed p m e = false≢true (sym (ap is_some fresh) ∙ ap (λ x. is_some (c.heap x)) (sym (sym (taken_names p m) ∙ e)) ∙ named_used c sound p m)

  -- the image is sound
  pub taken_sound : IsBlock ws → IsSoundCells c0
  taken_sound new = record {
    four_sizes = sound.four_sizes;
    nowhere = others 0 (λ e. taken_some (sym e)) ∙ sound.nowhere;
    blocks_there = λ p m n. by_place p m (named_used c sound p m);
    names_apart = λ p q m n some e. sound.names_apart p q m n (λ z. some (taken_names p m ∙ z)) (sym (taken_names p m) ∙ e ∙ taken_names q n);
    blocks = λ p x e. elim (cases_eq p place) [
      | inl same ↦ subst IsBlock (one_value (heap0 p) ws x (ap heap0 same ∙ here) e) new
      | inr n ↦ sound.blocks p x (sym (others p n) ∙ e)
    ];
    row_words = λ path len w fits short e. sound.row_words path len w fits short (sym (taken_words path len) ∙ e);
    longest_shorts = λ path fits.
        GreatestBelow-same (word_at c path) (word_at c0 path) (depth_of c.first + 1) (found (c.bests (path_start path (depth_of c.first)))) (λ len l. taken_words path len) (sound.longest_shorts path fits);
  }
    where
      one_value : (o : Option (List ℕ)) (a b : List ℕ) → o ≡ Some a → o ≡ Some b → a ≡ b
      one_value o a b e f = cc

      by_place : (p m : ℕ) → is_some (c.heap (named c p m)) ≡ true → is_some (heap0 (named c0 p m)) ≡ true
      by_place p m u =
          ap (λ x. is_some (heap0 x)) (taken_names p m)
          ∙ ap is_some (others (named c p m) (λ e. taken_unnamed p m (taken_names p m ∙ e))) ∙ u

-- ---- the first block of a path gets its name in the array
module _ (c : Cells) (tops2 : ℕ → ℕ) (heap2 : ℕ → Option (List ℕ)) (k child : ℕ) (sound : IsSoundCells c) (none : c.tops k ≡ 0)
    (wr : WritesName c (record c { tops = tops2; heap = heap2 }) 0 k child)
    (used : is_some (c.heap child) ≡ true) (some : child ≢ 0) (unnamed : (p m : ℕ) → named c p m ≢ child)
    (no_kids : (m : ℕ) → kid_at c child m ≡ 0) (no_rows : (b : ℕ) → row_in (words_at c child) b ≡ None) where
  abbrev n2 : Cells
  n2 = record c { tops = tops2; heap = heap2 }

  zeros_there : heap2 0 ≡ Some zeros
  zeros_there = wr.zeros ∙ sound.nowhere

  kids_stay : (p m : ℕ) → kid_at n2 p m ≡ kid_at c p m
  kids_stay p m = elim (cases_eq p 0) [
    | inl z ↦ ap (λ x. kid_at n2 x m) z ∙ kid-nowhere n2 zeros_there m ∙ sym (ap (λ x. kid_at c x m) z ∙ kid-nowhere c sound.nowhere m)
    | inr n ↦ sym (named-kid n2 p m n) ∙ wr.others p m (λ e f. n e) ∙ named-kid c p m n
  ]

  -- where a walk stood, and where it stands now: at the same block, or at the new one, where there was none
  abbrev Follows : ℕ → ℕ → Type 0
  Follows x y = (y ≡ x) ⊎ ((x ≡ 0) × (y ≡ child))

  step_follows : (x y m : ℕ) → Follows x y → Follows (kid_at c x m) (kid_at n2 y m)
  step_follows x y m (inl e) = inl (ap (λ z. kid_at n2 z m) e ∙ kids_stay x m)
  step_follows x y m (inr s) =
      inl (ap (λ z. kid_at n2 z m) s.1 ∙ kids_stay child m ∙ no_kids m ∙ sym (ap (λ z. kid_at c z m) s.0 ∙ kid-nowhere c sound.nowhere m))

  first_follows : (x : ℕ) → Follows (c.tops x) (tops2 x)
  first_follows x = elim (cases_eq x k) [
    | inl e ↦ inr (ap c.tops e ∙ none, ap tops2 e ∙ wr.here)
    | inr n ↦ inl (wr.others 0 x (λ z e. n e))
  ]

  walk_follows : (path steps : ℕ) → Follows (block_at c path steps) (block_at n2 path steps)
  walk_follows path zero =
      subst (λ x. Follows x (block_at n2 path 0)) (sym (block-first c path))
      (subst (Follows (c.tops (path_start path (depth_of c.first)))) (sym (block-first n2 path)) (first_follows (path_start path (depth_of c.first))))
  walk_follows path (suc steps) =
      subst (λ x. Follows x (block_at n2 path (suc steps))) (sym (block-next c path steps))
      (subst (Follows (kid_at c (block_at c path steps) (five_bits path (c.first + steps)))) (sym (block-next n2 path steps))
      (step_follows (block_at c path steps) (block_at n2 path steps) (five_bits path (c.first + steps)) (walk_follows path steps)))

  rows_follow : (x y b : ℕ) → Follows x y → row_in (words_at n2 y) b ≡ row_in (words_at c x) b
  rows_follow x y b (inl e) = ap (λ z. row_in (words_at n2 z) b) e ∙ wr.rows x b
  rows_follow x y b (inr s) =
      ap (λ z. row_in (words_at n2 z) b) s.1 ∙ wr.rows child b ∙ no_rows b ∙ sym (ap (λ z. row_in (words_at c z) b) s.0 ∙ row-nowhere c sound.nowhere b)

  -- no row has changed
  pub first_words : (path len : ℕ) → word_at n2 path len ≡ word_at c path len
  first_words = words_same c tops2 heap2 (λ path steps b. rows_follow (block_at c path steps) (block_at n2 path steps) b (walk_follows path steps))

  -- the new block stands at the head of the path
  pub first_place : (path : ℕ) → path_start path (depth_of c.first) ≡ k → block_at n2 path 0 ≡ child
  first_place path e = block-first n2 path ∙ ap tops2 e ∙ wr.here

  -- the image is sound
  pub first_sound : IsSoundCells n2
  first_sound = record {
    four_sizes = sound.four_sizes;
    nowhere = zeros_there;
    blocks_there = λ p m n. wr.used (named n2 p m) ∙ there p m (at_name p m);
    names_apart = λ p q m n s e. apart p q m n s e (at_name p m) (at_name q n);
    blocks = λ p x e. wr.blocks p (sound.blocks p) x e;
    row_words = λ path len w fits short e. sound.row_words path len w fits short (sym (first_words path len) ∙ e);
    longest_shorts = λ path fits.
        GreatestBelow-same (word_at c path) (word_at n2 path) (depth_of c.first + 1) (found (c.bests (path_start path (depth_of c.first)))) (λ len l. first_words path len) (sound.longest_shorts path fits);
  }
    where
      at_name : (p m : ℕ) → ((p ≡ 0) × (m ≡ k)) ⊎ (named n2 p m ≡ named c p m)
      at_name p m = by (cases_eq p 0) (cases_eq m k)
        where
          by : (p ≡ 0) ⊎ (p ≡ 0 → ⊥) → (m ≡ k) ⊎ (m ≡ k → ⊥) → ((p ≡ 0) × (m ≡ k)) ⊎ (named n2 p m ≡ named c p m)
          by (inl a) (inl b) = inl (a, b)
          by (inl a) (inr b) = inr (wr.others p m (λ x y. b y))
          by (inr a) y = inr (wr.others p m (λ x z. a x))

      new_name : (p m : ℕ) → p ≡ 0 → m ≡ k → named n2 p m ≡ child
      new_name p m a b = ap (λ x. named n2 x m) a ∙ ap (named n2 0) b ∙ wr.here

      there : (p m : ℕ) → ((p ≡ 0) × (m ≡ k)) ⊎ (named n2 p m ≡ named c p m) → is_some (c.heap (named n2 p m)) ≡ true
      there p m (inl s) = ap (λ x. is_some (c.heap x)) (new_name p m s.0 s.1) ∙ used
      there p m (inr e) = ap (λ x. is_some (c.heap x)) e ∙ named_used c sound p m

      apart : (p q m n : ℕ) → named n2 p m ≢ 0 → named n2 p m ≡ named n2 q n
          → ((p ≡ 0) × (m ≡ k)) ⊎ (named n2 p m ≡ named c p m) → ((q ≡ 0) × (n ≡ k)) ⊎ (named n2 q n ≡ named c q n) → (p ≡ q) × (m ≡ n)
      apart p q m n s e (inl x) (inl y) = (x.0 ∙ sym y.0, x.1 ∙ sym y.1)
      apart p q m n s e (inl x) (inr y) = absurd (unnamed q n (sym y ∙ sym e ∙ new_name p m x.0 x.1))
      apart p q m n s e (inr x) (inl y) = absurd (unnamed p m (sym x ∙ e ∙ new_name q n y.0 y.1))
      apart p q m n s e (inr x) (inr y) = sound.names_apart p q m n (λ z. s (x ∙ z)) (sym x ∙ e ∙ y)
