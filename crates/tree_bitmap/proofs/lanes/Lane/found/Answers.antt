use Rattle.std.proofs.Common.{◌≡◌, ◌+◌, ◌*◌, ◌∙◌, sym, ap, subst, is_some, true, Some, None}
use Rattle.node_pool.specs.Pool.{cell}
use Rattle.bitmaps.specs.Bits.{rank}
use Rattle.tree_bitmap.specs.Bits.{length_of}
use Rattle.tree_bitmap.proofs.{LongestRow.best_row, LongestRow.no_row, LongestRow.place_used, Descent.lane_best}
use Rattle.tree_bitmap.proofs.lanes.Lane.found.Goals as goal

pub returns-in_err-bit : goal.returns-in_err-bit
returns-in_err-bit g c =
    let lane = c.args.self.now in
    rw c.from_residual.ensures (no_row (cell c.args.tree.now.pool.nodes) (cell c.args.tree.now.pool.results) (lane.addr * 16)
    (lane_best c.args.tree.now lane c.requires.lane None c.in_err-bit.ensures))

pub place-place-requires : goal.place-place-requires
place-place-requires g c =
    let R = cell c.args.tree.now.pool.results in
    let lane = c.args.self.now in
    let h = lane.hit in
    let bit = c.in_ok-bit.bit in
    let best = lane_best c.args.tree.now lane c.requires.lane (Some bit) c.in_ok-bit.ensures in
    subst (λ r. is_some (R (h.result_base + r)) ≡ true) (sym c.rank-below.ensures.value)
    (place_used (cell c.args.tree.now.pool.nodes) R c.requires.sound (lane.addr * 16) (4 * h.depth + length_of bit) (h.result_base + rank h.internal bit) best.1)

pub get-requires : goal.get-requires
get-requires g c =
    let R = cell c.args.tree.now.pool.results in
    let lane = c.args.self.now in
    let h = lane.hit in
    let bit = c.in_ok-bit.bit in
    let best = lane_best c.args.tree.now lane c.requires.lane (Some bit) c.in_ok-bit.ensures in
    let at : c.place-place.result ≡ h.result_base + rank h.internal bit = c.place-place.ensures ∙ ap (λ r. h.result_base + r) c.rank-below.ensures.value in
    subst (λ k. is_some (R k) ≡ true) (sym at)
    (place_used (cell c.args.tree.now.pool.nodes) R c.requires.sound (lane.addr * 16) (4 * h.depth + length_of bit) (h.result_base + rank h.internal bit) best.1)

pub returns : goal.returns
returns g c =
    let N = cell c.args.tree.now.pool.nodes in
    let R = cell c.args.tree.now.pool.results in
    let lane = c.args.self.now in
    let h = lane.hit in
    let bit = c.in_ok-bit.bit in
    let best = lane_best c.args.tree.now lane c.requires.lane (Some bit) c.in_ok-bit.ensures in
    let at : c.place-place.result ≡ h.result_base + rank h.internal bit = c.place-place.ensures ∙ ap (λ r. h.result_base + r) c.rank-below.ensures.value in
    rw c.length_of.ensures.value
    (best_row N R (lane.addr * 16) (4 * h.depth + length_of bit) (h.result_base + rank h.internal bit) c.get.result
    best (ap R (sym at) ∙ c.get.ensures))
