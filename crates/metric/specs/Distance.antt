-- Distances and link costs: those of the network model of Garcia-Luna-Aceves (1993), in whole numbers.
use Rattle.std.specs.Prelude.{ℕ, ◌+◌, ◌≤◌, ◌==◌, List, nat_lt, if◌then◌else◌, codes, decimal}

-- the distance that stands for "no route"
abbrev pub infinity : ℕ
infinity = 4294967295

-- a distance and a link cost, added up; infinity where the sum reaches it
abbrev pub plus : ℕ → ℕ → ℕ
plus a c = if nat_lt (a + c) infinity then a + c else infinity

-- the greatest cost of a link
abbrev pub greatest_cost : ℕ
greatest_cost = 65535

-- a cost that a link can have
pub record IsCost (c : ℕ) : Type 0 where
  pub positive : 1 ≤ c
  pub small : c ≤ greatest_cost

-- the text of a distance: a decimal number, or "inf"
abbrev pub distance_text : ℕ → List ℕ
distance_text d = if d == infinity then codes "inf" else decimal d
