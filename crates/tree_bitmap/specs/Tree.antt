-- What the cells of a tree mean. The cells are functions: `nodes j` is the node at j, or none where the cell is free.
use Rattle.std.specs.Prelude.{◌*◌, List, ℕ, zero, suc, ◌≡◌, ◌≢◌, ◌⊎◌, ◌+◌, ◌/◌, ◌%◌, ◌^◌, ◌<◌, ◌≤◌, Option, Some, None, true, cond, eqb, is_some, option_and_then, count_ones}
use Rattle.std.specs.Int.{bit_at}
use Rattle.bitmaps.specs.Bits.{rank}
pub use Rattle.tree_bitmap.specs.Bits.{nibble, path_top, internal_bit}
use Rattle.node_pool.specs.Pool.{cell, room}
use Rattle.tree_bitmap.specs.{declared.tree.Tree.Tree, declared.node.Node.Node}
use Rattle.network_model.specs.declared.route.Entry.{Entry}
use Rattle.ipv4_prefix.specs.{Prefix.Prefix, Tables.table_rows}

-- a node with nothing in it
abbrev pub blank : Node
blank = record { internal = 0; external = 0; child_base = 0; result_base = 0 }

-- a node has no row and no child
abbrev pub IsEmpty : Node → Type 0
IsEmpty node = (node.external ≡ 0) × (node.internal ≡ 0)

-- where the child of four bits stands
abbrev pub child : Node → ℕ → ℕ
child node four = node.child_base + rank node.external four

-- the node has a child for the four bits
abbrev pub HasChild : Node → ℕ → Type 0
HasChild node four = bit_at node.external four ≡ 1

-- a cell is that of a child of the node
abbrev pub IsChild : Node → ℕ → Type 0
IsChild node k = (node.child_base ≤ k) × (k < node.child_base + count_ones node.external)

-- a cell is that of a result of the node
abbrev pub IsResult : Node → ℕ → Type 0
IsResult node k = (node.result_base ≤ k) × (k < node.result_base + count_ones node.internal)

-- where the child of a node stands, if it has one for the four bits
unfoldable pub child_by : ℕ → Option Node → Option ℕ
child_by four None = None
child_by four (Some node) = cond (eqb (bit_at node.external four) 1) (Some (child node four)) None

-- where the child of the node at a place stands
unfoldable pub child_under : (ℕ → Option Node) → ℕ → Option ℕ → Option ℕ
child_under nodes four None = None
child_under nodes four (Some j) = child_by four (nodes j)

-- where the node of a path stands at a depth; the root stands at 0
unfoldable pub path_node : (ℕ → Option Node) → ℕ → ℕ → Option ℕ
path_node nodes path zero = Some 0
path_node nodes path (suc depth) = child_under nodes (nibble path depth) (path_node nodes path depth)

-- where the result at a node's internal bit stands, if the bit is set
unfoldable pub result_place : ℕ → Option Node → Option ℕ
result_place bit None = None
result_place bit (Some node) = cond (eqb (bit_at node.internal bit) 1) (Some (node.result_base + rank node.internal bit)) None

-- the entry at a node's internal bit
abbrev pub entry_at_bit : (ℕ → Option Entry) → ℕ → Option Node → Option Entry
entry_at_bit results bit node = option_and_then results (result_place bit node)

-- the node at a place, if there is one
unfoldable pub node_cell : (ℕ → Option Node) → Option ℕ → Option Node
node_cell nodes None = None
node_cell nodes (Some j) = nodes j

-- where the result of the prefix of a path's first `len` bits stands
unfoldable pub path_place : (ℕ → Option Node) → ℕ → ℕ → Option ℕ
path_place nodes path len = result_place (internal_bit (nibble path (len / 4)) (len % 4)) (node_cell nodes (path_node nodes path (len / 4)))

-- the entry of the prefix of a path's first `len` bits
unfoldable pub path_entry : (ℕ → Option Node) → (ℕ → Option Entry) → ℕ → ℕ → Option Entry
path_entry nodes results path len = option_and_then results (path_place nodes path len)

-- Each node's children and results are there, no two nodes share any, and the root is no one's child.
pub record IsLaidOut (nodes : ℕ → Option Node) (results : ℕ → Option Entry) : Type 0 where
  pub root : is_some (nodes 0) ≡ true
  pub children_used : (j : ℕ) (a : Node) → nodes j ≡ Some a → (k : ℕ) → IsChild a k → is_some (nodes k) ≡ true
  pub results_used : (j : ℕ) (a : Node) → nodes j ≡ Some a → (k : ℕ) → IsResult a k → is_some (results k) ≡ true
  pub children_apart : (i j : ℕ) (a b : Node) → nodes i ≡ Some a → nodes j ≡ Some b → i ≢ j → (k : ℕ) → IsChild a k → IsChild b k → ⊥
  pub results_apart : (i j : ℕ) (a b : Node) → nodes i ≡ Some a → nodes j ≡ Some b → i ≢ j → (k : ℕ) → IsResult a k → IsResult b k → ⊥
  pub root_apart : (j : ℕ) (a : Node) → nodes j ≡ Some a → IsChild a 0 → ⊥
  pub fifteen_bits : (j : ℕ) (a : Node) → nodes j ≡ Some a → a.internal < 2 ^ 15
  pub not_its_own_child : (j : ℕ) (a : Node) → nodes j ≡ Some a → IsChild a j → ⊥

-- the node with these children, in the block at `base`, and with one child more, at four bits
abbrev pub with_children : Node → ℕ → ℕ → Node
with_children a external base = record a { external = external; child_base = base }

-- a node with one child more, and its children at this place
abbrev pub with_child : Node → ℕ → ℕ → Node
with_child a four base = with_children a (a.external + 2 ^ four) base

-- the node with these results, in the block at `base`, and with one result more
abbrev pub with_results : Node → ℕ → ℕ → Node
with_results a internal base = record a { internal = internal; result_base = base }

-- a node with one result more, and its results at this place
abbrev pub with_result : Node → ℕ → ℕ → Node
with_result a bit base = with_results a (a.internal + 2 ^ bit) base

-- what a tree's rows are: from the path of an address and a length to an entry
abbrev pub rows : {A : Type 0} → Tree A → ℕ → ℕ → Option Entry
rows tree = path_entry (cell tree.pool.nodes) (cell tree.pool.results)

-- the cells of a tree are sound
abbrev pub IsTreeLaidOut : {A : Type 0} → Tree A → Type 0
IsTreeLaidOut tree = IsLaidOut (cell tree.pool.nodes) (cell tree.pool.results)

-- where a tree's node for a path stands
abbrev pub node_place : {A : Type 0} → Tree A → ℕ → ℕ → Option ℕ
node_place tree = path_node (cell tree.pool.nodes)

-- the row of a path's first `len` bits is this now, or gone, and all others stay
pub record SetsRow (old new : ℕ → ℕ → Option Entry) (path len : ℕ) (entry : Option Entry) : Type 0 where
  pub hit : (q : ℕ) → path_top q len ≡ path_top path len → new q len ≡ entry
  pub miss : (q m : ℕ) → q < 2 ^ 36 → m < 36 → (m ≡ len → path_top q m ≡ path_top path m → ⊥) → new q m ≡ old q m

-- what a call for a child takes: nothing where it was there (so its parent isn't blank); else a block of at most 16 cells, of one cell
-- where the parent was blank, and the child is blank
abbrev pub IsChildCost : {A : Type 0} → Tree A → Tree A → ℕ → ℕ → Type 0
IsChildCost old new index kid =
    ((cell old.pool.nodes index ≡ Some blank → ⊥) × (room old.pool.nodes ≤ room new.pool.nodes))
    ⊎ ((cell new.pool.nodes kid ≡ Some blank) × (room old.pool.nodes ≤ room new.pool.nodes + 16) × (cell old.pool.nodes index ≡ Some blank → room old.pool.nodes ≤ room new.pool.nodes + 1))

-- the entry of a prefix's row, if it has one
abbrev pub tree_entry : {A : Type 0} → Tree A → Prefix → Option Entry
tree_entry tree p = rows tree (p.addr * 16) p.len

-- the rows of a tree, in the order of their prefixes
abbrev pub tree_rows : {A : Type 0} → Tree A → List (Prefix × Entry)
tree_rows tree = table_rows (tree_entry tree)
