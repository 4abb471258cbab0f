-- Bitmaps, and the bits of a path: an address of 32 bits and two zeros after it. A block at a level reads five bits of a path, after its first 4 + 5 * level bits; there are the levels 0 to 5.
use Rattle.std.specs.Prelude.{ℕ, ◌+◌, ◌-◌, ◌*◌, ◌/◌, ◌%◌, ◌^◌, min}

-- how many bits stand before those that a block at a level reads
abbrev pub depth_of : ℕ → ℕ
depth_of level = 4 + 5 * level

-- the five bits that a block at a level reads of a path
abbrev pub five_bits : ℕ → ℕ → ℕ
five_bits path level = path / 2 ^ (25 - 5 * level) % 32

-- the first `len` bits of a path
abbrev pub path_start : ℕ → ℕ → ℕ
path_start path len = path / 2 ^ (34 - len)

-- the row bit of the prefix that ends `more + 1` bits into a block, by the five bits there: bit 2^l - 2 + x is that of l bits of value x
abbrev pub row_bit : ℕ → ℕ → ℕ
row_bit five more = 2 ^ (more + 1) - 2 + five / 2 ^ (4 - more)

-- the level of the block in which a prefix ends, and how many bits of it are read there, but for one
abbrev pub level_of : ℕ → ℕ
level_of len = (len - 5) / 5

-- how many bits of the prefix are read in that block, but for one
abbrev pub more_of : ℕ → ℕ
more_of len = (len - 5) % 5

-- how many lengths end in a block at a level: three at level 5, where addresses end
abbrev pub width : ℕ → ℕ
width level = min 5 (28 - 5 * level)
