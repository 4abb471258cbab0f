-- A look-up on its way down a tree.
use Rattle.std.specs.Prelude.{ℕ, ◌≡◌, ◌*◌, ◌==◌, min, Option, Some, true, false, if◌then◌else◌}
use Rattle.node_pool.specs.Pool.{cell}
use Rattle.bitmaps.specs.{Bits.IsHighest, Greatest.GreatestBelow}
use Rattle.tree_bitmap.specs.{Tree.path_node, Tree.path_place, Hit.hit_place, declared.tree.Tree.Tree, declared.node.Node.Node, declared.lanes.Hit.Hit, declared.lanes.Lane.Lane}

-- nothing was found
abbrev pub no_hit : Hit
no_hit = record { matched = 0; internal = 0; result_base = 0; depth = 0 }

-- what was found in a node at a depth, by the internal bits that cover the address, if there are any, else what was found above
abbrev pub longer_hit : ℕ → Node → ℕ → Hit → Hit
longer_hit matched a depth above =
    if matched == 0 then above else (record { matched = matched; internal = a.internal; result_base = a.result_base; depth = depth })

-- the look-up of an address, at the root
abbrev pub root_lane : ℕ → Lane
root_lane addr = record { addr = addr; index = 0; hit = no_hit; live = true }

-- the longest prefix that was found is the longest of the path that has a row, of those shorter than n
abbrev pub IsBest : {A : Type 0} → Tree A → ℕ → ℕ → Hit → Type 0
IsBest tree path n hit = (bit : Option ℕ) → IsHighest 16 hit.matched bit → GreatestBelow (path_place (cell tree.pool.nodes) path) n (hit_place hit bit)

-- the nodes above a depth have been read, or all that there are
pub record IsReadTo {A : Type 0} (tree : Tree A) (depth : ℕ) (lane : Lane) : Type 0 where
  pub at : lane.live ≡ true → path_node (cell tree.pool.nodes) (lane.addr * 16) depth ≡ Some lane.index
  pub best : lane.live ≡ true → IsBest tree (lane.addr * 16) (min (4 * depth) 33) lane.hit
  pub done : lane.live ≡ false → IsBest tree (lane.addr * 16) 33 lane.hit
