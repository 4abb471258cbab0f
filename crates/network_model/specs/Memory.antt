-- The room that an allocator takes.
use Rattle.std.specs.Prelude.{◌≡◌, ◌⊎◌}
use Rattle.std.specs.Borrow.{RattleType}
use prog.Memory.{size, align}
use denote.Memory.{lone}

-- a value of the type takes no room, or that of a reference
abbrev pub IsSmall : RattleType → Type 0
IsSmall R = ((size (lone R.mir) ≡ 0) × (align (lone R.mir) ≡ 1)) ⊎ ((size (lone R.mir) ≡ 8) × (align (lone R.mir) ≡ 8))
