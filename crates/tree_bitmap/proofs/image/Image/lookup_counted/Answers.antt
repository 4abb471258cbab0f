use Rattle.std.proofs.Common.{sym, subst}
use Rattle.tree_bitmap.specs.Lane.{IsReadTo}
use Rattle.tree_bitmap.proofs.Descent.{root_is_lane}
use Rattle.tree_bitmap.proofs.image.Image.lookup_counted.Goals as goal

pub descend_to_end-requires-clause-lane : goal.descend_to_end-requires-clause-lane
descend_to_end-requires-clause-lane g c =
    subst (IsReadTo c.self.inside.tree 0) (sym c.new-lane.ensures) (root_is_lane c.self.inside.tree c.args.addr)
