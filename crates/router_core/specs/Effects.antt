-- The room that a machine's reaction needs.
use Rattle.std.specs.Prelude.{◌≡◌, ℕ, ◌+◌, ◌≤◌, true, ◌||◌, nat_lt, is_some}
use Rattle.std.specs.FinMap.{find as row_of}
use Rattle.ipv4_prefix.specs.Prefix.{Prefix, prefix_cmp}
use Rattle.router_core.specs.declared.effects.Effects.{Effects}

-- there is room for a reaction that sends at most n messages and sets the row of the prefix
pub record HasRoomFor {A : Type 0} (n : ℕ) (p : Prefix) (e : Effects A) : Type 0 where
  pub sends : n ≤ (e.sends).capacity
  pub gate : n ≤ (e.gate).room
  pub table : (is_some (row_of prefix_cmp p (e.table).table.control) || nat_lt 0 (e.table).room) ≡ true

-- a reaction that sends at most n messages takes no more room than that
pub record KeepsEffectsRoom {A : Type 0} (n : ℕ) (before after : Effects A) : Type 0 where
  pub sends : (before.sends).capacity ≤ (after.sends).capacity
  pub gate : (before.gate).room ≤ (after.gate).room + n
