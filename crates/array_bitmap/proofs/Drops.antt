-- A block without rows and kids loses its name, and is given back.
use Rattle.std.proofs.Common.{ℕ, zero, suc, ◌≡◌, ◌≢◌, ◌⊎◌, inl, inr, ◌+◌, ◌==◌, List, Option, Some, None, cond, is_some, sym, ap, subst, ◌∙◌}
use Rattle.std.proofs.lemmas.Bool.{cases_eq}
use Rattle.array_bitmap.specs.{Bits.depth_of, Bits.five_bits, Bits.path_start, Words.found, Blocks.row_in, Blocks.kid_in, Changes.WritesName}
use Rattle.array_bitmap.specs.Tree.{Cells, words_in_block, words_at, kid_at, block_at, word_at, named, IsSoundCells}
use Rattle.array_bitmap.proofs.Walks.{zeros, block-first, block-next, kid-nowhere, row-nowhere, no_kid_none}
use Rattle.array_bitmap.proofs.OnePath.{named-kid, named_used, name_of, holder, index_in}
use Rattle.array_bitmap.proofs.{SetsWords.GreatestBelow-same, NewBlocks.words_same}

-- ---- the name of a block is written over with 0
module _ (c : Cells) (tops2 : ℕ → ℕ) (heap2 : ℕ → Option (List ℕ)) (q k j : ℕ) (sound : IsSoundCells c) (name : named c q k ≡ j) (real : j ≢ 0)
    (wr : WritesName c (record c { tops = tops2; heap = heap2 }) q k 0)
    (no_kids : (m : ℕ) → kid_at c j m ≡ 0) (no_rows : (b : ℕ) → row_in (words_at c j) b ≡ None) where
  abbrev d2 : Cells
  d2 = record c { tops = tops2; heap = heap2 }

  zeros_there : heap2 0 ≡ Some zeros
  zeros_there = wr.zeros ∙ sound.nowhere

  -- where a walk stood, and where it stands now: at the same block, or nowhere, if it stood at the one that has lost its name
  abbrev Follows : ℕ → ℕ → Type 0
  Follows x y = ((x ≢ j) × (y ≡ x)) ⊎ ((x ≡ j) × (y ≡ 0))

  named_follows : (p m : ℕ) → Follows (named c p m) (named d2 p m)
  named_follows p m = by (cases_eq p q) (cases_eq m k)
    where
      apart : (p ≡ q → m ≡ k → ⊥) → named c p m ≢ j
      apart out e = let same = sound.names_apart p q m k (λ z. real (sym e ∙ z)) (e ∙ sym name) in out same.0 same.1

      by : (p ≡ q) ⊎ (p ≡ q → ⊥) → (m ≡ k) ⊎ (m ≡ k → ⊥) → Follows (named c p m) (named d2 p m)
      by (inl a) (inl b) = inr (ap (λ x. named c x m) a ∙ ap (named c q) b ∙ name, ap (λ x. named d2 x m) a ∙ ap (named d2 q) b ∙ wr.here)
      by (inl a) (inr b) = inl (apart (λ x y. b y), wr.others p m (λ x y. b y))
      by (inr a) y = inl (apart (λ x z. a x), wr.others p m (λ x z. a x))

  kid_follows : (x y m : ℕ) → Follows x y → Follows (kid_at c x m) (kid_at d2 y m)
  kid_follows x y m (inl s) = elim (cases_eq x 0) [
    | inl z ↦
        inl (
          λ e. real (sym e ∙ ap (λ p. kid_at c p m) z ∙ kid-nowhere c sound.nowhere m),
          ap (λ p. kid_at d2 p m) (s.1 ∙ z) ∙ kid-nowhere d2 zeros_there m ∙ sym (ap (λ p. kid_at c p m) z ∙ kid-nowhere c sound.nowhere m),
        )
    | inr n ↦
        subst (λ v. Follows v (kid_at d2 y m)) (named-kid c x m n)
        (subst (Follows (named c x m)) (named-kid d2 x m n ∙ ap (λ p. kid_at d2 p m) (sym s.1)) (named_follows x m))
  ]
  kid_follows x y m (inr s) =
      inl (
        λ e. real (sym e ∙ ap (λ p. kid_at c p m) s.0 ∙ no_kids m),
        ap (λ p. kid_at d2 p m) s.1 ∙ kid-nowhere d2 zeros_there m ∙ sym (ap (λ p. kid_at c p m) s.0 ∙ no_kids m),
      )

  walk_follows : (path steps : ℕ) → Follows (block_at c path steps) (block_at d2 path steps)
  walk_follows path zero =
      subst (λ x. Follows x (block_at d2 path 0)) (sym (block-first c path))
      (subst (Follows (c.tops (path_start path (depth_of c.first)))) (sym (block-first d2 path)) (named_follows 0 (path_start path (depth_of c.first))))
  walk_follows path (suc steps) =
      subst (λ x. Follows x (block_at d2 path (suc steps))) (sym (block-next c path steps))
      (subst (Follows (kid_at c (block_at c path steps) (five_bits path (c.first + steps)))) (sym (block-next d2 path steps))
      (kid_follows (block_at c path steps) (block_at d2 path steps) (five_bits path (c.first + steps)) (walk_follows path steps)))

  -- the walk to the block ends before it
  pub unnamed_gone : (path steps : ℕ) → block_at c path steps ≡ j → block_at d2 path steps ≡ 0
  unnamed_gone path steps e = by (walk_follows path steps)
    where
      by : Follows (block_at c path steps) (block_at d2 path steps) → block_at d2 path steps ≡ 0
      by (inl s) = absurd (s.0 e)
      by (inr s) = s.1

  rows_follow : (x y b : ℕ) → Follows x y → row_in (words_at d2 y) b ≡ row_in (words_at c x) b
  rows_follow x y b (inl s) = ap (λ p. row_in (words_at d2 p) b) s.1 ∙ wr.rows x b
  rows_follow x y b (inr s) =
      ap (λ p. row_in (words_at d2 p) b) s.1 ∙ row-nowhere d2 zeros_there b ∙ sym (ap (λ p. row_in (words_at c p) b) s.0 ∙ no_rows b)

  -- no row has changed
  pub unnamed_words : (path len : ℕ) → word_at d2 path len ≡ word_at c path len
  unnamed_words = words_same c tops2 heap2 (λ path steps b. rows_follow (block_at c path steps) (block_at d2 path steps) b (walk_follows path steps))

  -- the block has no name now
  pub has_no_name : (p m : ℕ) → named d2 p m ≢ j
  has_no_name p m e = by (named_follows p m)
    where
      by : Follows (named c p m) (named d2 p m) → ⊥
      by (inl s) = s.0 (sym s.1 ∙ e)
      by (inr s) = real (sym e ∙ s.1)

  -- each name that is left is an old one
  old_name : (p m : ℕ) → named d2 p m ≢ 0 → named d2 p m ≡ named c p m
  old_name p m n = by (named_follows p m)
    where
      by : Follows (named c p m) (named d2 p m) → named d2 p m ≡ named c p m
      by (inl s) = s.1
      by (inr s) = absurd (n s.1)

  -- the image is sound
  pub unnamed_sound : IsSoundCells d2
  unnamed_sound = record {
    four_sizes = sound.four_sizes;
    nowhere = zeros_there;
    blocks_there = λ p m n. wr.used (named d2 p m) ∙ ap (λ x. is_some (c.heap x)) (old_name p m n) ∙ named_used c sound p m;
    names_apart = λ p r m n some e. sound.names_apart p r m n (λ z. some (old_name p m some ∙ z)) (sym (old_name p m some) ∙ e ∙ old_name r n (λ z. some (e ∙ z)));
    blocks = λ p x e. wr.blocks p (sound.blocks p) x e;
    row_words = λ path len w fits short e. sound.row_words path len w fits short (sym (unnamed_words path len) ∙ e);
    longest_shorts = λ path fits.
        GreatestBelow-same (word_at c path) (word_at d2 path) (depth_of c.first + 1) (found (c.bests (path_start path (depth_of c.first)))) (λ len l. unnamed_words path len) (sound.longest_shorts path fits);
  }

-- ---- a block without a name is given back
module _ (c : Cells) (heap0 : ℕ → Option (List ℕ)) (j : ℕ) (sound : IsSoundCells c) (real : j ≢ 0) (unnamed : (p m : ℕ) → named c p m ≢ j)
    (gone : heap0 j ≡ None) (others : (p : ℕ) → p ≢ j → heap0 p ≡ c.heap p) (no_kids : (m : ℕ) → kid_at c j m ≡ 0) where
  abbrev g0 : Cells
  g0 = record c { heap = heap0 }

  kids_same : (p m : ℕ) → kid_at g0 p m ≡ kid_at c p m
  kids_same p m = elim (cases_eq p j) [
    | inl e ↦ ap (λ x. kid_at g0 x m) e ∙ ap (λ o. kid_in (words_in_block o) m) gone ∙ no_kid_none m ∙ sym (ap (λ x. kid_at c x m) e ∙ no_kids m)
    | inr n ↦ ap (λ o. kid_in (words_in_block o) m) (others p n)
  ]

  names_same : (p m : ℕ) → named g0 p m ≡ named c p m
  names_same p m = ap (cond (p == 0) (c.tops m)) (kids_same p m)

  pub given_walks : (path steps : ℕ) → block_at g0 path steps ≡ block_at c path steps
  given_walks path zero = block-first g0 path ∙ sym (block-first c path)
  given_walks path (suc steps) =
      block-next g0 path steps ∙ ap (λ p. kid_at g0 p (five_bits path (c.first + steps))) (given_walks path steps)
      ∙ kids_same (block_at c path steps) (five_bits path (c.first + steps)) ∙ sym (block-next c path steps)

  not_on : (path steps : ℕ) → block_at c path steps ≢ j
  not_on path steps e = unnamed (holder c path steps) (index_in c path steps) (name_of c sound path steps (λ z. real (sym e ∙ z)) ∙ e)

  pub given_words : (path len : ℕ) → word_at g0 path len ≡ word_at c path len
  given_words = words_same c c.tops heap0 (λ path steps b.
      ap (λ p. row_in (words_at g0 p) b) (given_walks path steps) ∙ ap (λ o. row_in (words_in_block o) b) (others (block_at c path steps) (not_on path steps)))

  pub given_sound : IsSoundCells g0
  given_sound = record {
    four_sizes = sound.four_sizes;
    nowhere = others 0 (λ e. real (sym e)) ∙ sound.nowhere;
    blocks_there = λ p m n. ap (λ x. is_some (heap0 x)) (names_same p m) ∙ ap is_some (others (named c p m) (unnamed p m)) ∙ named_used c sound p m;
    names_apart = λ p q m n some e. sound.names_apart p q m n (λ z. some (names_same p m ∙ z)) (sym (names_same p m) ∙ e ∙ names_same q n);
    blocks = λ p x e. elim (cases_eq p j) [
      | inl same ↦ absurd (let z : None ≡ Some x = sym gone ∙ ap heap0 (sym same) ∙ e in cc)
      | inr n ↦ sound.blocks p x (sym (others p n) ∙ e)
    ];
    row_words = λ path len w fits short e. sound.row_words path len w fits short (sym (given_words path len) ∙ e);
    longest_shorts = λ path fits.
        GreatestBelow-same (word_at c path) (word_at g0 path) (depth_of c.first + 1) (found (c.bests (path_start path (depth_of c.first)))) (λ len l. given_words path len) (sound.longest_shorts path fits);
  }
