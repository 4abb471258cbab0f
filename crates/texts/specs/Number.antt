-- Numbers and their canonical decimal texts.
use Rattle.std.specs.Prelude.{◌≡◌, ◌≢◌, ℕ, ◌^◌, ◌<◌, List, length, slice_index, decimal}

-- the text is the canonical one of a number of 32 bits: decimal digits, without a sign or a leading zero
abbrev pub Spells : List ℕ → ℕ → Type 0
Spells text n = (n < 2 ^ 32) × (text ≡ decimal n)

-- the same of a number of 64 bits
abbrev pub SpellsLong : List ℕ → ℕ → Type 0
SpellsLong text n = (n < 2 ^ 64) × (text ≡ decimal n)

-- the byte `+`
abbrev pub plus_sign : ℕ
plus_sign = 43

-- the byte `0`
abbrev pub zero_digit : ℕ
zero_digit = 48

-- the text has neither a sign nor a leading zero
abbrev pub HasCanonicalStart : List ℕ → Type 0
HasCanonicalStart text = (slice_index text 0 ≢ plus_sign) × (slice_index text 0 ≡ zero_digit → length text ≡ 1)
