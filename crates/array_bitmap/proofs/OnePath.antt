-- A block has one path.
use Rattle.std.proofs.Common.{ℕ, zero, suc, ◌≡◌, ◌≢◌, inl, inr, ◌+◌, ◌≤◌, true, is_some, arith, refl, sym, ap, subst, ◌∙◌}
use Rattle.std.proofs.lemmas.Bool.{cond-false, ne_eqb, cases_eq}
use Rattle.array_bitmap.specs.Bits.{depth_of, five_bits, path_start}
use Rattle.array_bitmap.specs.Tree.{Cells, kid_at, block_at, named, IsSoundCells}
use Rattle.array_bitmap.proofs.{PathBits.after_level, Walks.block-first, Walks.block-next, Walks.kid_of_some}

-- what stands at a name in a block
pub named-kid : (c : Cells) (place k : ℕ) → place ≢ 0 → named c place k ≡ kid_at c place k
named-kid c place k h = cond-false _ _ _ (ne_eqb place 0 h)

-- the name of a path's block
abbrev pub holder : Cells → ℕ → ℕ → ℕ
holder c path zero = 0
holder c path (suc steps) = block_at c path steps

abbrev pub index_in : Cells → ℕ → ℕ → ℕ
index_in c path zero = path_start path (depth_of c.first)
index_in c path (suc steps) = five_bits path (c.first + steps)

module _ (c : Cells) (sound : IsSoundCells c) where
  pub name_of : (path steps : ℕ) → block_at c path steps ≢ 0 → named c (holder c path steps) (index_in c path steps) ≡ block_at c path steps
  name_of path zero h = sym (block-first c path)
  name_of path (suc steps) h =
      named-kid c (block_at c path steps) (five_bits path (c.first + steps))
      (kid_of_some c sound.nowhere (block_at c path steps) (five_bits path (c.first + steps)) (λ e. h (block-next c path steps ∙ e)))
      ∙ sym (block-next c path steps)

  -- what stands at a name is in use
  pub named_used : (p k : ℕ) → is_some (c.heap (named c p k)) ≡ true
  named_used p k = elim (cases_eq (named c p k) 0) [
    | inl e ↦ ap (λ x. is_some (c.heap x)) e ∙ ap is_some sound.nowhere
    | inr n ↦ sound.blocks_there p k n
  ]

  pub block_used : (path steps : ℕ) → is_some (c.heap (block_at c path steps)) ≡ true
  block_used path steps = elim (cases_eq (block_at c path steps) 0) [
    | inl e ↦ ap (λ x. is_some (c.heap x)) e ∙ ap is_some sound.nowhere
    | inr n ↦ ap (λ x. is_some (c.heap x)) (sym (name_of path steps n)) ∙ named_used (holder c path steps) (index_in c path steps)
  ]

  -- two walks to one block are of one length, and read the same bits
  pub walk_unique : (p q n m : ℕ) → c.first + n ≤ 6 → block_at c p n ≢ 0 → block_at c p n ≡ block_at c q m
      → (n ≡ m) × (path_start p (depth_of (c.first + n)) ≡ path_start q (depth_of (c.first + n)))
  walk_unique p q zero zero d h e =
      let z : c.first ≡ c.first + 0 = omega arith in
      let same = sound.names_apart 0 0 (path_start p (depth_of c.first)) (path_start q (depth_of c.first)) (λ x. h (block-first c p ∙ x)) (sym (block-first c p) ∙ e ∙ block-first c q) in
      (refl, subst (λ l. path_start p (depth_of l) ≡ path_start q (depth_of l)) z same.1)
  walk_unique p q zero (suc m) d h e =
      let n = name_of p zero h in
      let k = name_of q (suc m) (λ x. h (e ∙ x)) in
      let same = sound.names_apart 0 (block_at c q m) (path_start p (depth_of c.first)) (five_bits q (c.first + m)) (λ x. h (sym n ∙ x)) (n ∙ e ∙ sym k) in
      absurd (kid_of_some c sound.nowhere (block_at c q m) (five_bits q (c.first + m)) (λ x. h (e ∙ block-next c q m ∙ x)) (sym same.0))
  walk_unique p q (suc n) zero d h e =
      let a = name_of p (suc n) h in
      let k = name_of q zero (λ x. h (e ∙ x)) in
      let same = sound.names_apart (block_at c p n) 0 (five_bits p (c.first + n)) (path_start q (depth_of c.first)) (λ x. h (sym a ∙ x)) (a ∙ e ∙ sym k) in
      absurd (kid_of_some c sound.nowhere (block_at c p n) (five_bits p (c.first + n)) (λ x. h (block-next c p n ∙ x)) same.0)
  walk_unique p q (suc n) (suc m) d h e =
      let a = name_of p (suc n) h in
      let k = name_of q (suc m) (λ x. h (e ∙ x)) in
      let same = sound.names_apart (block_at c p n) (block_at c q m) (five_bits p (c.first + n)) (five_bits q (c.first + m)) (λ x. h (sym a ∙ x)) (a ∙ e ∙ sym k) in
      let some = kid_of_some c sound.nowhere (block_at c p n) (five_bits p (c.first + n)) (λ x. h (block-next c p n ∙ x)) in
      let above = walk_unique p q n m (omega (arith, d)) some same.0 in
      let fives : five_bits p (c.first + n) ≡ five_bits q (c.first + n) = same.1 ∙ ap (λ l. five_bits q (c.first + l)) (sym above.0) in
      let z : suc (c.first + n) ≡ c.first + suc n = omega arith in
      (ap suc above.0, subst (λ l. path_start p (depth_of l) ≡ path_start q (depth_of l)) z (after_level p q (c.first + n) (omega (arith, d)) above.1 fives))

  -- no block is its own kid
  pub not_its_own : (path steps : ℕ) → c.first + steps ≤ 6 → block_at c path steps ≢ 0 → holder c path steps ≢ block_at c path steps
  not_its_own path zero d h e = h (sym e)
  not_its_own path (suc steps) d h e =
      let w = walk_unique path path (suc steps) steps d h (sym e) in
      let n = w.0 in
      omega (arith, n)
