use Rattle.std.proofs.Common.{◌≡◌, ◌∙◌, arith, Some}
use Rattle.node_pool.specs.Pool.{cell}
use Rattle.tree_bitmap.specs.Tree.{blank}
use Rattle.tree_bitmap.proofs.EmptyTree.{empty_rows, root_sound}
use Rattle.tree_bitmap.proofs.tree.Tree.new.Goals as goal
use Rattle.tree_bitmap.proofs.tree.Tree.new.Given as given

-- the first block of a pool lies at 0
abbrev root_place : (g : given.Over) (c : goal.In_ok-_root g) → c.in_ok-_root._root ≡ 0
root_place g c = (c.in_ok-_root.ensures.nodes.more (c.new-pool.ensures.nodes.no_block 1)).base_at_end ∙ c.new-pool.ensures.nodes.no_cell

abbrev root_cell : (g : given.Over) (c : goal.In_ok-_root g) → cell c.take_nodes.new.self.nodes 0 ≡ Some blank
root_cell g c = c.in_ok-_root.ensures.nodes.ok.filled.inside 0 (omega (arith, root_place g c)) (omega arith)

pub returns-clause-empty : goal.returns-clause-empty
returns-clause-empty g c = λ q m. empty_rows (cell c.take_nodes.new.self.nodes) (cell c.take_nodes.new.self.results) q m (root_cell g c)

pub returns-clause-sound : goal.returns-clause-sound
returns-clause-sound g c = root_sound (cell c.take_nodes.new.self.nodes) (cell c.take_nodes.new.self.results) (root_cell g c)
    (λ k past. c.in_ok-_root.ensures.nodes.ok.filled.above k (omega (arith, root_place g c, past)) ∙ c.new-pool.ensures.nodes.no_value k)
