use Rattle.std.proofs.Common.{◌≡◌, ◌+◌, true}
use Rattle.tree_bitmap.specs.Lane.{IsReadTo}
use Rattle.tree_bitmap.proofs.lanes.Lane.descend_to_end.Given as goal

abbrev pub invariant-loop-depth : goal.invariant-loop-depth
invariant-loop-depth g l = record {
  lane : IsReadTo l.tree l.depth l.self;
  live : (l.self).live ≡ true;
  addr : (l.self).addr ≡ l.fn.self.addr;
  count : l.visits.count ≡ l.fn.visits.count + l.depth;
}
