-- Bitmaps, and the bits of a path: an address of 32 bits and four zeros after it.
use Rattle.std.specs.Prelude.{ℕ, ◌+◌, ◌-◌, ◌*◌, ◌/◌, ◌%◌, ◌^◌, min, nat_lt, if◌then◌else◌}

-- the four bits that the node at a depth (0 to 8) reads of a path
abbrev pub nibble : ℕ → ℕ → ℕ
nibble path depth = path / 2 ^ (32 - 4 * depth) % 16

-- the first `len` bits of a path
abbrev pub path_top : ℕ → ℕ → ℕ
path_top path len = path / 2 ^ (36 - len)

-- the internal bit of the prefix that ends `len` bits into a node, by the four bits there
abbrev pub internal_bit : ℕ → ℕ → ℕ
internal_bit four len = 2 ^ len - 1 + four / 2 ^ (4 - len)

-- the length to which an internal bit belongs
abbrev pub length_of : ℕ → ℕ
length_of bit = if nat_lt bit 1 then 0 else if nat_lt bit 3 then 1 else if nat_lt bit 7 then 2 else 3

-- how many lengths end within a node at a depth: one at depth 8, where addresses end
abbrev pub lengths_within : ℕ → ℕ
lengths_within depth = min 4 (33 - 4 * depth)
