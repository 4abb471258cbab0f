use Rattle.std.proofs.Common.{◌≡◌, ◌+◌, ◌*◌, min, sym, ap, subst, ◌∙◌, Some}
use Rattle.std.proofs.lemmas.Bool.{both_ways, false≢true}
use Rattle.node_pool.specs.Pool.{cell}
use Rattle.tree_bitmap.specs.{Tree.nibble, Lane.IsBest}
use Rattle.tree_bitmap.proofs.{Paths.node_used, Calls.child_place_after, Calls.child_used, Descent.hit_after, Descent.hit_last}
use Rattle.tree_bitmap.proofs.lanes.Lane.descend.Given as given
use Rattle.tree_bitmap.proofs.lanes.Lane.descend.Goals as goal
use Rattle.tree_bitmap.proofs.lanes.Lane.descend.Goals.{After-is_set}

pub read-node-requires-clause-used : goal.read-node-requires-clause-used
read-node-requires-clause-used g c =
    let l = c.args.self.now in
    node_used (cell c.args.tree.now.pool.nodes) (cell c.args.tree.now.pool.results) c.requires.sound (l.addr * 16) c.args.depth l.index (c.requires.lane.at c.if-not-self.false)

pub place-self-requires : goal.place-self-requires
place-self-requires g c =
    child_used (cell c.args.tree.now.pool.nodes) (cell c.args.tree.now.pool.results) c.args.self.now.index c.read-node.result c.nibble-four.result c.rank-below.result
    c.requires.sound c.read-node.ensures.node c.rank-below.ensures.value (c.is_set.ensures.0 c.if-is_set.true)

-- the four bits are those of the path
four_bits : (g : given.Over) (c : After-is_set g) → c.nibble-four.result ≡ nibble (c.args.self.now.addr * 16) c.args.depth
four_bits g c = c.nibble-four.ensures.value ∙ ap (λ p. nibble p c.args.depth) c.path_of.ensures

-- what is found with this node
found_after : (g : given.Over) (c : After-is_set g) → IsBest c.args.tree.now (c.args.self.now.addr * 16) (min (4 * (c.args.depth + 1)) 33) c.longer_hit-self.result
found_after g c =
    let l = c.args.self.now in
    subst (IsBest c.args.tree.now (l.addr * 16) (min (4 * (c.args.depth + 1)) 33)) (sym c.longer_hit-self.ensures)
    (hit_after c.args.tree.now (l.addr * 16) c.args.depth c.nibble-four.result l.index c.covers-cover.result c.read-node.result l.hit c.requires.deep
    (c.requires.lane.at c.if-not-self.false) c.read-node.ensures.node c.nibble-four.ensures.bound (four_bits g c) c.covers-cover.ensures (c.requires.lane.best c.if-not-self.false))

pub returns-then-is_set-clause-lane : goal.returns-then-is_set-clause-lane
returns-then-is_set-clause-lane g c =
    let l = c.args.self.now in
    let here = (goal.at.returns-then-is_set-clause-lane g c).After-is_set in
    record {
      at = λ e. child_place_after (cell c.args.tree.now.pool.nodes) (l.addr * 16) c.args.depth l.index c.read-node.result c.nibble-four.result c.rank-below.result
          (c.requires.lane.at c.if-not-self.false) c.read-node.ensures.node (four_bits g here) c.rank-below.ensures.value (c.is_set.ensures.0 c.if-is_set.true) ∙ ap Some (sym c.place-self.ensures);
      best = λ e. found_after g here;
      done = λ e. absurd (both_ways l.live e c.if-not-self.false);
    }

pub returns-else-is_set-clause-lane : goal.returns-else-is_set-clause-lane
returns-else-is_set-clause-lane g c =
    let l = c.args.self.now in
    let here = (goal.at.returns-else-is_set-clause-lane g c).After-is_set in
    record {
      at = λ e. absurd (false≢true e);
      best = λ e. absurd (false≢true e);
      done = λ e. hit_last c.args.tree.now (l.addr * 16) c.args.depth c.nibble-four.result l.index c.read-node.result c.longer_hit-self.result c.requires.deep
          (c.requires.lane.at c.if-not-self.false) c.read-node.ensures.node (four_bits g here) (λ h. both_ways c.is_set.result c.if-is_set.false (c.is_set.ensures.1 h)) (found_after g here);
    }
