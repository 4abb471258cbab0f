use Rattle.std.proofs.Common.{inr, ap, Some, arith, subst, ◌∙◌, sym}
use Rattle.node_pool.specs.Pool.{cell}
use Rattle.tree_bitmap.specs.Tree.{IsLaidOut}
use Rattle.bitmaps.proofs.{Ranks.rank_le, Options.refused}
use Rattle.tree_bitmap.proofs.Paths.{node_used}
use Rattle.tree_bitmap.proofs.Calls.{few_from, child_place_after, child_used, same_cells, made_sound, made_rows, made_place, made_blank, blank_count}
use Rattle.std.proofs.lemmas.Bool.{both_ways}
use Rattle.tree_bitmap.proofs.tree.Tree.child.Goals as goal

pub get-node-requires : goal.get-node-requires
get-node-requires g c =
    node_used (cell c.args.self.now.pool.nodes) (cell c.args.self.now.pool.results) c.requires.sound c.args.path c.args.depth c.args.index c.requires.at

pub returns-then-is_set-clause-ok : goal.returns-then-is_set-clause-ok
returns-then-is_set-clause-ok g c =
    child_place_after (cell c.args.self.now.pool.nodes) c.args.path c.args.depth c.args.index c.get-node.result c.nibble-four.result c.rank-below.result
    c.requires.at c.get-node.ensures c.nibble-four.ensures.value c.rank-below.ensures.value (c.is_set.ensures.0 c.if-is_set.true)
    ∙ ap Some (sym c.place.ensures)

pub grow-requires-clause-gap_in : goal.grow-requires-clause-gap_in
grow-requires-clause-gap_in g c =
    omega (arith, c.rank-below.ensures.value, c.count.ensures.value, rank_le c.get-node.result.external c.nibble-four.result)

pub grow-requires-clause-few : goal.grow-requires-clause-few
grow-requires-clause-few g c =
    omega (
      arith,
      c.count.ensures.value,
      few_from c.get-node.result.external c.nibble-four.result c.with_bit-external.result c.with_bit-external.type_inv c.with_bit-external.ensures
          (λ h. both_ways c.is_set.result c.if-is_set.false (c.is_set.ensures.1 h)),
    )

pub returns-in_err-base-clause-sound : goal.returns-in_err-base-clause-sound
returns-in_err-base-clause-sound g c =
    subst (λ n. IsLaidOut n (cell c.args.self.now.pool.results)) (sym (same_cells (cell c.args.self.now.pool.nodes) (cell c.grow.new.self) c.in_err-base.ensures.err.values)) c.requires.sound

pub returns-clause-sound : goal.returns-clause-sound
returns-clause-sound g c =
    made_sound (cell c.args.self.now.pool.nodes) (cell c.grow.new.self) (cell c.set.new.self) (cell c.args.self.now.pool.results)
    c.args.index c.args.path c.args.depth c.get-node.result c.nibble-four.result c.rank-below.result c.count.result c.with_bit-external.result c.in_ok-base.base
    c.requires.sound c.requires.at c.get-node.ensures c.nibble-four.ensures.value c.rank-below.ensures.value c.count.ensures.value c.with_bit-external.ensures
    (λ h. both_ways c.is_set.result c.if-is_set.false (c.is_set.ensures.1 h)) c.in_ok-base.ensures.ok c.set.ensures.written

pub returns-clause-rows : goal.returns-clause-rows
returns-clause-rows g c =
    made_rows (cell c.args.self.now.pool.nodes) (cell c.grow.new.self) (cell c.set.new.self) (cell c.args.self.now.pool.results)
    c.args.index c.args.path c.args.depth c.get-node.result c.nibble-four.result c.rank-below.result c.count.result c.with_bit-external.result c.in_ok-base.base
    c.requires.sound c.requires.at c.get-node.ensures c.nibble-four.ensures.value c.rank-below.ensures.value c.count.ensures.value c.with_bit-external.ensures
    (λ h. both_ways c.is_set.result c.if-is_set.false (c.is_set.ensures.1 h)) c.in_ok-base.ensures.ok c.set.ensures.written

pub returns-clause-ok : goal.returns-clause-ok
returns-clause-ok g c =
    rw c.place-2.ensures
    (made_place (cell c.args.self.now.pool.nodes) (cell c.grow.new.self) (cell c.set.new.self) (cell c.args.self.now.pool.results)
    c.args.index c.args.path c.args.depth c.get-node.result c.nibble-four.result c.rank-below.result c.count.result c.with_bit-external.result c.in_ok-base.base
    c.requires.sound c.requires.at c.get-node.ensures c.nibble-four.ensures.value c.rank-below.ensures.value c.count.ensures.value c.with_bit-external.ensures
    (λ h. both_ways c.is_set.result c.if-is_set.false (c.is_set.ensures.1 h)) c.in_ok-base.ensures.ok c.set.ensures.written)

pub place-requires : goal.place-requires
place-requires g c =
    child_used (cell c.args.self.now.pool.nodes) (cell c.args.self.now.pool.results) c.args.index c.get-node.result c.nibble-four.result c.rank-below.result
    c.requires.sound c.get-node.ensures c.rank-below.ensures.value (c.is_set.ensures.0 c.if-is_set.true)

pub returns-in_err-base-clause-full : goal.returns-in_err-base-clause-full
returns-in_err-base-clause-full g c =
    let few = (few_from c.get-node.result.external c.nibble-four.result c.with_bit-external.result c.with_bit-external.type_inv c.with_bit-external.ensures (λ h. both_ways c.is_set.result c.if-is_set.false (c.is_set.ensures.1 h))) in
    refused c.from_residual.result (omega (arith, few, c.count.ensures.value, c.in_err-base.ensures.full))

pub returns-clause-cost : goal.returns-clause-cost
returns-clause-cost g c =
    let few = (few_from c.get-node.result.external c.nibble-four.result c.with_bit-external.result c.with_bit-external.type_inv c.with_bit-external.ensures (λ h. both_ways c.is_set.result c.if-is_set.false (c.is_set.ensures.1 h))) in
    inr (
      rw c.place-2.ensures (made_blank (cell c.args.self.now.pool.nodes) (cell c.grow.new.self) (cell c.set.new.self) (cell c.args.self.now.pool.results)
          c.args.index c.args.path c.args.depth c.get-node.result c.nibble-four.result c.rank-below.result c.count.result c.with_bit-external.result c.in_ok-base.base
          c.requires.sound c.requires.at c.get-node.ensures c.nibble-four.ensures.value c.rank-below.ensures.value c.count.ensures.value c.with_bit-external.ensures
          (λ h. both_ways c.is_set.result c.if-is_set.false (c.is_set.ensures.1 h)) c.in_ok-base.ensures.ok c.set.ensures.written),
      omega (arith, few, c.count.ensures.value, c.in_ok-base.ensures.room, c.set.ensures.room),
      λ e. omega (arith, blank_count (cell c.args.self.now.pool.nodes c.args.index) c.get-node.result c.get-node.ensures e, c.count.ensures.value, c.in_ok-base.ensures.room, c.set.ensures.room),
    )
