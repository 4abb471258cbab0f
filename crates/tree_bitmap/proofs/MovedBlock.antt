-- A block has one cell for each set bit of a bitmap, and moves as bits are set or cleared.
use Rattle.std.proofs.Common.{ℕ, ◌≡◌, ◌⊎◌, inl, inr, ⊎_elim, ◌+◌, ◌-◌, ◌^◌, ◌<◌, ◌≤◌, Option, None, count_ones, arith, ap, ◌∙◌}
use Rattle.std.specs.Int.{bit_at}
use Rattle.std.proofs.lemmas.Bool.{cases_order, cases_lt}
use Rattle.node_pool.specs.Pool.{IsGrown}
use Rattle.bitmaps.specs.Bits.{rank}
use Rattle.bitmaps.proofs.Ranks.{rank_lt, rank_mono, rank_mono_lt, ones-add, rank-add_below, rank-add_above, select}

-- a cell is that of a set bit
abbrev pub InBlock : ℕ → ℕ → ℕ → Type 0
InBlock base bits k = (base ≤ k) × (k < base + count_ones bits)

-- each cell of the block is that of a set bit
pub block_bit : (base bits k : ℕ) → InBlock base bits k → (f : ℕ) × (bit_at bits f ≡ 1) × (k ≡ base + rank bits f)
block_bit base bits k q =
    let (f, h, r) = select bits (k - base) (omega (arith, q.0, q.1)) in (f, h, omega (arith, r, q.0))

-- a cell is in the block, or not
pub block_cases : (base bits k : ℕ) → (InBlock base bits k) ⊎ (InBlock base bits k → ⊥)
block_cases base bits k =
    ⊎_elim (λ l. inr (λ q. omega (arith, q.0, l)))
    (λ l. ⊎_elim (λ h. inl (l, h)) (λ h. inr (λ q. omega (arith, q.1, h))) (cases_lt k (base + count_ones bits)))
    (cases_lt k base)

module _ {T : Type 0} where
  -- the cells of bits that stay set are kept; new cells were free, old ones are, and all others stay
  pub record IsMoved (old new : ℕ → Option T) (base bits base' bits' : ℕ) : Type 0 where
    pub kept : (f : ℕ) → bit_at bits f ≡ 1 → bit_at bits' f ≡ 1 → new (base' + rank bits' f) ≡ old (base + rank bits f)
    pub fresh : (k : ℕ) → InBlock base' bits' k → (InBlock base bits k → ⊥) → old k ≡ None
    pub freed : (k : ℕ) → InBlock base bits k → (InBlock base' bits' k → ⊥) → new k ≡ None
    pub other : (k : ℕ) → (InBlock base bits k → ⊥) → (InBlock base' bits' k → ⊥) → new k ≡ old k

  -- a bit was set
  pub moved_by_growth : (f g : ℕ → Option T) (base bits bit : ℕ) (value : T) (base' : ℕ) → bit_at bits bit ≡ 0
      → IsGrown f g base (count_ones bits) (rank bits bit) value base' → IsMoved f g base bits base' (bits + 2 ^ bit)
  moved_by_growth f g base bits bit value base' clear w = record {
    kept = λ b h h'. kept b h (cases_order b bit);
    fresh = λ k q out. w.fresh k q.0 (omega (arith, q.1, one_more));
    freed = λ k q out. w.freed k q.0 q.1;
    other = λ k out out'. w.other k (λ l h. out (l, h)) (λ l h. out' (l, omega (arith, h, one_more)));
  }
    where
      one_more : count_ones (bits + 2 ^ bit) ≡ count_ones bits + 1
      one_more = ones-add bits bit clear

      kept : (b : ℕ) → bit_at bits b ≡ 1 → (b ≡ bit) ⊎ ((b < bit) ⊎ (bit < b)) → g (base' + rank (bits + 2 ^ bit) b) ≡ f (base + rank bits b)
      kept b h (inl e) = absurd (omega (arith, h, ap (bit_at bits) e, clear))
      kept b h (inr (inl l)) =
          ap (λ r. g (base' + r)) (rank-add_below bits bit b clear (omega arith)) ∙ w.low (rank bits b) (rank_mono_lt bits b bit l h)
      kept b h (inr (inr l)) =
          ap (λ r. g (base' + r)) (rank-add_above bits bit b clear l) ∙ w.high (rank bits b) (rank_mono bits bit b (omega arith)) (rank_lt bits b h)
