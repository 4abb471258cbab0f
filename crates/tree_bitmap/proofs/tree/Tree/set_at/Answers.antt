use Rattle.std.proofs.Common.{Some, arith, subst}
use Rattle.node_pool.specs.Pool.{cell, IsCellWritten}
use Rattle.tree_bitmap.specs.Tree.{with_result}
use Rattle.bitmaps.proofs.{Ranks.rank_le, Options.refused}
use Rattle.tree_bitmap.proofs.Paths.{node_used}
use Rattle.tree_bitmap.proofs.Calls.{few_results, sets_row, put_sound, put_sets, result_used, over_sound, over_sets}
use Rattle.std.proofs.lemmas.Bool.{both_ways}
use Rattle.tree_bitmap.proofs.tree.Tree.set_at.Goals as goal

pub get-node-requires : goal.get-node-requires
get-node-requires g c =
    node_used (cell c.args.self.now.pool.nodes) (cell c.args.self.now.pool.results) c.requires.sound c.args.path c.args.depth c.args.index c.requires.at

pub place-place-requires : goal.place-place-requires
place-place-requires g c =
    result_used (cell c.args.self.now.pool.nodes) (cell c.args.self.now.pool.results) c.args.index c.get-node.result c.args.bit c.rank-below.result
    c.requires.sound c.get-node.ensures c.rank-below.ensures.value (c.is_set.ensures.0 c.if-is_set.true)

pub set-requires : goal.set-requires
set-requires g c =
    rw c.place-place.ensures
    (result_used (cell c.args.self.now.pool.nodes) (cell c.args.self.now.pool.results) c.args.index c.get-node.result c.args.bit c.rank-below.result
    c.requires.sound c.get-node.ensures c.rank-below.ensures.value (c.is_set.ensures.0 c.if-is_set.true))

pub returns-then-is_set-clause-ok : goal.returns-then-is_set-clause-ok
returns-then-is_set-clause-ok g c =
    let N = cell c.args.self.now.pool.nodes in
    let G = cell c.args.self.now.pool.results in
    let G' = cell c.set.new.self in
    sets_row N N G G' c.args.index c.args.bit (Some c.args.entry) c.get-node.result c.get-node.result c.args.path c.args.depth c.args.len
    c.requires.sound c.requires.deep c.requires.short c.requires.fits c.requires.at c.requires.bit
    (over_sets N G G' c.args.index c.args.bit c.args.entry c.get-node.result c.rank-below.result
    c.requires.sound c.get-node.ensures c.rank-below.ensures.value (c.is_set.ensures.0 c.if-is_set.true)
    (subst (λ k. IsCellWritten G G' k c.args.entry) c.place-place.ensures c.set.ensures.written))

pub grow-requires-clause-gap_in : goal.grow-requires-clause-gap_in
grow-requires-clause-gap_in g c =
    omega (arith, c.rank-below.ensures.value, c.count.ensures.value, rank_le c.get-node.result.internal c.args.bit)

pub grow-requires-clause-few : goal.grow-requires-clause-few
grow-requires-clause-few g c =
    let few = (few_results c.get-node.result.internal c.args.bit (c.requires.sound.fifteen_bits c.args.index c.get-node.result c.get-node.ensures) c.requires.small (λ h. both_ways c.is_set.result c.if-is_set.false (c.is_set.ensures.1 h))) in
    omega (arith, few, c.count.ensures.value)

pub returns-clause-sound : goal.returns-clause-sound
returns-clause-sound g c =
    put_sound (cell c.args.self.now.pool.nodes) (cell c.set-2.new.self) (cell c.args.self.now.pool.results) (cell c.grow.new.self)
    c.args.index c.args.bit c.args.entry c.get-node.result c.rank-below.result c.count.result c.with_bit-internal.result c.in_ok-base.base
    c.requires.sound c.get-node.ensures c.rank-below.ensures.value c.count.ensures.value c.with_bit-internal.ensures
    (λ h. both_ways c.is_set.result c.if-is_set.false (c.is_set.ensures.1 h)) c.in_ok-base.ensures.ok c.set-2.ensures.written c.requires.small

pub returns-clause-ok : goal.returns-clause-ok
returns-clause-ok g c =
    let N = cell c.args.self.now.pool.nodes in
    let N' = cell c.set-2.new.self in
    let G = cell c.args.self.now.pool.results in
    let G' = cell c.grow.new.self in
    sets_row N N' G G' c.args.index c.args.bit (Some c.args.entry) c.get-node.result (with_result c.get-node.result c.args.bit c.in_ok-base.base) c.args.path c.args.depth c.args.len
    c.requires.sound c.requires.deep c.requires.short c.requires.fits c.requires.at c.requires.bit
    (put_sets N N' G G'
    c.args.index c.args.bit c.args.entry c.get-node.result c.rank-below.result c.count.result c.with_bit-internal.result c.in_ok-base.base
    c.requires.sound c.get-node.ensures c.rank-below.ensures.value c.count.ensures.value c.with_bit-internal.ensures
    (λ h. both_ways c.is_set.result c.if-is_set.false (c.is_set.ensures.1 h)) c.in_ok-base.ensures.ok c.set-2.ensures.written)

pub returns-then-is_set-clause-sound : goal.returns-then-is_set-clause-sound
returns-then-is_set-clause-sound g c =
    let G = cell c.args.self.now.pool.results in
    let G' = cell c.set.new.self in
    over_sound (cell c.args.self.now.pool.nodes) G G' c.args.index c.args.bit c.args.entry c.get-node.result c.rank-below.result
    c.requires.sound c.get-node.ensures c.rank-below.ensures.value (c.is_set.ensures.0 c.if-is_set.true)
    (subst (λ k. IsCellWritten G G' k c.args.entry) c.place-place.ensures c.set.ensures.written)

pub returns-in_err-base-clause-full : goal.returns-in_err-base-clause-full
returns-in_err-base-clause-full g c =
    let few = (few_results c.get-node.result.internal c.args.bit (c.requires.sound.fifteen_bits c.args.index c.get-node.result c.get-node.ensures) c.requires.small (λ h. both_ways c.is_set.result c.if-is_set.false (c.is_set.ensures.1 h))) in
    refused c.from_residual.result (omega (arith, few, c.count.ensures.value, c.in_err-base.ensures.full))

pub returns-in_err-base-clause-cost : goal.returns-in_err-base-clause-cost
returns-in_err-base-clause-cost g c =
    let few = (few_results c.get-node.result.internal c.args.bit (c.requires.sound.fifteen_bits c.args.index c.get-node.result c.get-node.ensures) c.requires.small (λ h. both_ways c.is_set.result c.if-is_set.false (c.is_set.ensures.1 h))) in
    omega (arith, few, c.count.ensures.value, c.in_err-base.ensures.room)

pub returns-clause-cost : goal.returns-clause-cost
returns-clause-cost g c =
    let few = (few_results c.get-node.result.internal c.args.bit (c.requires.sound.fifteen_bits c.args.index c.get-node.result c.get-node.ensures) c.requires.small (λ h. both_ways c.is_set.result c.if-is_set.false (c.is_set.ensures.1 h))) in
    omega (arith, few, c.count.ensures.value, c.in_ok-base.ensures.room)
