-- Bitmaps.
use Rattle.std.specs.Prelude.{ℕ, ◌≡◌, ◌%◌, ◌^◌, ◌<◌, Option, Some, None, count_ones}
use Rattle.std.specs.Int.{bit_at}

-- the number of set bits below bit k
abbrev pub rank : ℕ → ℕ → ℕ
rank n k = count_ones (n % 2 ^ k)

-- of so many bits, the greatest that is set, or none where no bit is
abbrev pub IsHighest : ℕ → ℕ → Option ℕ → Type 0
IsHighest size n None = n ≡ 0
IsHighest size n (Some bit) = (bit < size) × (bit_at n bit ≡ 1) × ((k : ℕ) → bit < k → bit_at n k ≡ 0)
