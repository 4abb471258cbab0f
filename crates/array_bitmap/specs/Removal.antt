-- What taking a row out leaves.
use Rattle.std.specs.Prelude.{ℕ, ◌≡◌, ◌≢◌, ◌-◌, ◌<◌, ◌≤◌, not, List, filter}
use Rattle.ipv4_prefix.specs.Prefix.{Prefix, prefix_eq}
use Rattle.network_model.specs.declared.route.Entry.{Entry}
use Rattle.array_bitmap.specs.{Bits.depth_of, Blocks.row_map, Blocks.kid_map, Tree.Cells, Tree.words_at, Tree.block_at}

-- the rows without that of a prefix
abbrev pub without_row : Prefix → List (Prefix × Entry) → List (Prefix × Entry)
without_row prefix rows = filter (λ row. not (prefix_eq row.0 prefix)) rows

-- the block of a path at a level has a row or a kid, if there is one
abbrev pub HasUse : Cells → ℕ → ℕ → Type 0
HasUse c path level = let block = block_at c path (level - c.first) in block ≢ 0 → row_map (words_at c block) ≡ 0 → kid_map (words_at c block) ≡ 0 → ⊥

-- no block on the way of a path's first `len` bits is left without rows and kids
abbrev pub IsPruned : Cells → ℕ → ℕ → Type 0
IsPruned c path len = (d : ℕ) → c.first ≤ d → depth_of d < len → HasUse c path d
