-- The blocks of a path that are left.
use Rattle.std.proofs.Common.{ℕ, suc, ◌≡◌, ◌≢◌, inl, inr, ◌+◌, ◌-◌, ◌<◌, ◌≤◌, arith, ap, sym, subst, ◌∙◌}
use Rattle.std.proofs.lemmas.Bool.{cases_eq, cases_lt}
use Rattle.array_bitmap.specs.{Bits.five_bits, Removal.HasUse}
use Rattle.array_bitmap.specs.Tree.{Cells, words_at, block_at, IsSoundCells}
use Rattle.array_bitmap.proofs.{Walks.block-next, Stands.no_kids_in, Stands.walk_ends}

-- above a block of a path, each block has a kid
pub used_above : (c : Cells) (sound : IsSoundCells c) (path d k : ℕ) → c.first ≤ d → d < k → block_at c path (k - c.first) ≢ 0 → HasUse c path d
used_above c sound path d k low above there some rows kids =
    let next : d + 1 - c.first ≡ suc (d - c.first) = omega (arith, low) in
    there (walk_ends c sound path k (d + 1) (omega (arith, low)) (omega (arith, above))
    (ap (block_at c path) next ∙ block-next c path (d - c.first)
    ∙ no_kids_in (words_at c (block_at c path (d - c.first))) kids (five_bits path (c.first + (d - c.first)))))

-- the lowest block that is left has some use, so have those above it, and below it there is none
pub all_used : (c : Cells) (sound : IsSoundCells c) (path level k : ℕ) → block_at c path (k - c.first) ≢ 0 → HasUse c path k
    → ((d : ℕ) → c.first ≤ d → k < d → d ≤ level → block_at c path (d - c.first) ≡ 0) → (d : ℕ) → c.first ≤ d → d ≤ level → HasUse c path d
all_used c sound path level k there used gone d low high = elim (cases_lt d k) [
  | inl above ↦ used_above c sound path d k low above there
  | inr on ↦ elim (cases_eq d k) [
    | inl same ↦ at_level same
    | inr below ↦ λ some rows kids. some (gone d low (omega (arith, on, below)) high)
  ]
]
  where
    at_level : d ≡ k → HasUse c path d
    at_level same = subst (HasUse c path) (sym same) used
