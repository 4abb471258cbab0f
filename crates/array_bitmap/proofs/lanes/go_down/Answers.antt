use Rattle.std.proofs.Common.{◌≡◌, ◌+◌, ◌<◌, ◌∙◌, length, slice_index, refl, arith, sym, ap, subst, length-set}
use Rattle.array_bitmap.specs.{Image.cells_of, Tree.words_at, Blocks.IsHead, Lane.IsLane, Lane.lane_at, Lane.head_at, declared.lanes.Lane.Lane}
use Rattle.array_bitmap.proofs.LanesDown.{cared_first, cared_last, cared_next, each_next, lane_other}
use Rattle.array_bitmap.proofs.lanes.go_down.Goals as goal

pub loop-i-init : goal.loop-i-init
loop-i-init g c = record {
  fewer = omega arith;
  many = refl;
  words = refl;
  lane = λ k l. absurd (omega (arith, l));
  at = λ k l. absurd (omega (arith, l));
  addr = λ k l. absurd (omega (arith, l));
  left = λ k l. refl;
  cared = λ a l. cared_first (cells_of c.args.tree.now) c.args.level c.args.addrs.now c.args.lanes.now c.args.words.now c.args.live a (c.requires.cared a l);
}

pub below-step-requires-clause-lane : goal.below-step-requires-clause-lane
below-step-requires-clause-lane g c =
    subst (IsLane (cells_of c.args.tree.now) c.args.level) (sym (c.loop-i.invariant.left c.loop-i.i (omega arith))) (c.requires.lanes.lane c.loop-i.i c.loop-i-test.true)

pub below-step-requires-clause-head : goal.below-step-requires-clause-head
below-step-requires-clause-head g c =
    subst (λ (x : Lane). IsHead (words_at (cells_of c.args.tree.now) x.block) (head_at c.args.heads.now c.loop-i.i)) (sym (c.loop-i.invariant.left c.loop-i.i (omega arith))) (c.requires.heads c.loop-i.i c.loop-i-test.true)

pub loop-i-preserved : goal.loop-i-preserved
loop-i-preserved g c =
    let t = cells_of c.args.tree.now in
    let i = c.loop-i.i in
    let left = c.loop-i.invariant.left c.loop-i.i (omega arith) in
    let at : c.below-step.result.lane.at ≡ (lane_at c.args.lanes.now c.loop-i.i).at = c.below-step.ensures.at ∙ ap (λ (x : Lane). x.at) left in
    let within : c.below-step.result.lane.at < length c.args.addrs.now = omega (arith, at, c.requires.lanes.at c.loop-i.i c.loop-i-test.true) in
    let addr : c.below-step.result.lane.addr ≡ slice_index c.args.addrs.now c.below-step.result.lane.at =
    c.below-step.ensures.addr ∙ ap (λ (x : Lane). x.addr) left ∙ c.requires.lanes.addr c.loop-i.i c.loop-i-test.true ∙ ap (slice_index c.args.addrs.now) (sym at) in
    let step = c.below-step.ensures.step in
    let few = step.bit in
    let inside : c.loop-i.still < length c.loop-i.lanes = omega (arith, c.loop-i.invariant.fewer, c.loop-i-test.true, c.requires.lanes.within, c.loop-i.invariant.many) in
    let room : c.below-step.result.lane.at < length c.loop-i.words = omega (arith, within, c.requires.room, c.loop-i.invariant.words) in
    let each = λ (P : Lane → Type 0).
    each_next (cells_of c.args.tree.now) c.requires.sound.cells c.args.level c.args.addrs.now c.loop-i.lanes c.loop-i.words c.args.live c.loop-i.still c.loop-i.i c.below-step.result.lane c.below-step.result.goes_on
    c.requires.low c.requires.deep c.loop-i.invariant.fewer inside room c.below-step.ensures.step addr c.below-step.ensures.at P (c.loop-i.still + c.below-step.result.goes_on) refl in
    record {
      fewer = omega (arith, few, c.loop-i.invariant.fewer);
      many = length-set c.loop-i.lanes c.loop-i.still c.below-step.result.lane ∙ c.loop-i.invariant.many;
      words = length-set c.loop-i.words c.below-step.result.lane.at c.below-step.result.lane.best ∙ c.loop-i.invariant.words;
      lane = each (IsLane (cells_of c.args.tree.now) (c.args.level + 1)) c.loop-i.invariant.lane (λ one. record { at = step.on one; best = step.best });
      at = each (λ (x : Lane). x.at < length c.args.addrs.now) c.loop-i.invariant.at (λ one. within);
      addr = each (λ (x : Lane). x.addr ≡ slice_index c.args.addrs.now x.at) c.loop-i.invariant.addr (λ one. addr);
      left = λ k l.
          lane_other (cells_of c.args.tree.now) c.requires.sound.cells c.args.level c.args.addrs.now c.loop-i.lanes c.loop-i.words c.args.live c.loop-i.still c.loop-i.i c.below-step.result.lane c.below-step.result.goes_on
          c.requires.low c.requires.deep c.loop-i.invariant.fewer inside room c.below-step.ensures.step addr c.below-step.ensures.at k (omega (arith, l, c.loop-i.invariant.fewer))
          ∙ c.loop-i.invariant.left k (omega (arith, l));
      cared = λ a l.
          cared_next (cells_of c.args.tree.now) c.requires.sound.cells c.args.level c.args.addrs.now c.loop-i.lanes c.loop-i.words c.args.live c.loop-i.still c.loop-i.i c.below-step.result.lane c.below-step.result.goes_on
          c.requires.low c.requires.deep c.loop-i.invariant.fewer inside room c.below-step.ensures.step addr c.below-step.ensures.at a (c.loop-i.still + c.below-step.result.goes_on) refl
          (c.loop-i.invariant.cared a l);
    }

pub returns-clause-cared : goal.returns-clause-cared
returns-clause-cared g c = λ a l.
    cared_last (cells_of c.args.tree.now) c.args.level c.args.addrs.now c.loop-i.lanes c.loop-i.words c.args.live c.loop-i.still c.loop-i.i a c.loop-i-test.false (c.loop-i.invariant.cared a l)
