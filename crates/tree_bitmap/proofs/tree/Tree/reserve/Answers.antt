use Rattle.node_pool.specs.Pool.{cell}
use Rattle.tree_bitmap.proofs.{Calls.same_sound, PrefixRows.same_rows_in}
use Rattle.tree_bitmap.proofs.tree.Tree.reserve.Goals as goal

pub returns-clause-sound : goal.returns-clause-sound
returns-clause-sound g c =
    same_sound (cell c.args.self.now.pool.nodes) (cell c.reserve.new.self.nodes) (cell c.args.self.now.pool.results) (cell c.reserve.new.self.results) c.reserve.ensures.nodes.values c.reserve.ensures.results.values c.requires.sound

pub returns-clause-rows : goal.returns-clause-rows
returns-clause-rows g c =
    same_rows_in (cell c.args.self.now.pool.nodes) (cell c.reserve.new.self.nodes) (cell c.args.self.now.pool.results) (cell c.reserve.new.self.results) c.reserve.ensures.nodes.values c.reserve.ensures.results.values
