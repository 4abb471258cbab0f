-- Marks of routers: which are in a set.
use Rattle.std.specs.Prelude.{ℕ, Bool, false, not, ◌&&◌, List, length, get_or, count_by}

-- whether router i is marked
abbrev pub is_in : List Bool → ℕ → Bool
is_in marks i = get_or marks i false

-- how many routers are not marked
abbrev pub unmarked : List Bool → ℕ
unmarked marks = count_by not marks

-- the routers from which links that are up lead to one that is attached, and those from which published rows do
pub record Marks : Type 0 where
  pub reached : List Bool
  pub routed : List Bool

-- for how many routers there are marks
abbrev pub size : Marks → ℕ
size m = length m.reached

-- whether router i is cut off by these marks
abbrev pub is_marked : Marks → ℕ → Bool
is_marked m i = is_in m.reached i && not (is_in m.routed i)
