-- Where a path has no block, it has no row there or below, so a row that is refused is not one that is set again.
use Rattle.std.proofs.Common.{ℕ, ◌≡◌, ◌-◌, ◌/◌, ◌%◌, ◌<◌, ◌≤◌, None, refl, arith, ◌∙◌}
use Rattle.array_bitmap.specs.Bits.{depth_of, five_bits, row_bit}
use Rattle.array_bitmap.specs.Tree.{Cells, block_at, word_at, IsSoundCells}
use Rattle.array_bitmap.proofs.{Walks.row-nowhere, Stands.walk_ends, Stands.word_of_len}

pub no_word_below : (c : Cells) (sound : IsSoundCells c) (path len d : ℕ) → c.first ≤ d → depth_of d < len → block_at c path (d - c.first) ≡ 0 → word_at c path len ≡ None
no_word_below c sound path len d low long none =
    let level = (len - 5) / 5 in
    word_of_len c path len 0 (five_bits path ((len - 5) / 5)) (row_bit (five_bits path ((len - 5) / 5)) ((len - 5) % 5)) (omega (arith, low, long))
    (walk_ends c sound path ((len - 5) / 5) d low (omega (arith, long)) none) refl refl
    ∙ row-nowhere c sound.nowhere (row_bit (five_bits path ((len - 5) / 5)) ((len - 5) % 5))
