use Rattle.std.proofs.Common.{◌≡◌, ◌∙◌, ◌+◌, ◌*◌, ◌<◌, ℕ, List, arith, inl, inr, length, refl, sym, ap, subst}
use Rattle.ipv4_prefix.specs.Prefix.{Prefix}
use Rattle.reachability.specs.Ways.{IsCutOff}
use Rattle.timed_reports.specs.{Looks.AreLookedFurther, Looks.IsStill, Looks.IsSpared, Records.AreLooked}
use Rattle.timed_reports.proofs.{Blocks.block_fits, Blocks.many_watched, OneByOne.looked_aside, OneByOne.looked_beside_more, OneByOne.looked_none}
use Rattle.timed_reports.proofs.looks.look_for_outages.Goals as goal

pub loop-number-init : goal.loop-number-init
loop-number-init g c =
    let none : 0 ≡ 0 * length c.args.world.now.routers = omega arith in
    let room = c.requires.room in
    record {
      looked = subst (λ (m : ℕ). AreLooked IsCutOff c.args.world.now c.args.now (IsSpared c.args.world.now c.args.step.now c.args.world.now.prefixes c.args.marks.now) m c.args.all.now.items c.args.all.now.items c.args.ended.now.items c.args.ended.now.items) none
          (looked_none IsCutOff c.args.world.now c.args.now (IsSpared c.args.world.now c.args.step.now c.args.world.now.prefixes c.args.marks.now) c.args.all.now.items c.args.ended.now.items);
      room = omega (arith, room);
      size = refl;
    }

pub look_at_prefix-requires-clause-within : goal.look_at_prefix-requires-clause-within
look_at_prefix-requires-clause-within g c =
    let below : c.loop-number.number < length c.args.world.now.prefixes = subst (λ (ps : List Prefix). c.loop-number.number < length ps) c.prefixes-prefixes.ensures c.loop-number-test.true in
    let fits = block_fits (length c.args.world.now.routers) c.args.world.now.prefixes c.args.all.now.items c.requires.order c.loop-number.number below in
    let as_many = c.loop-number.invariant.looked.as_many in
    omega (arith, fits, as_many)

pub look_at_prefix-requires-clause-room : goal.look_at_prefix-requires-clause-room
look_at_prefix-requires-clause-room g c =
    let below : c.loop-number.number < length c.args.world.now.prefixes = subst (λ (ps : List Prefix). c.loop-number.number < length ps) c.prefixes-prefixes.ensures c.loop-number-test.true in
    let fits = block_fits (length c.args.world.now.routers) c.args.world.now.prefixes c.args.all.now.items c.requires.order c.loop-number.number below in
    let before = c.loop-number.invariant.room in
    omega (arith, fits, before)

pub loop-number-preserved : goal.loop-number-preserved
loop-number-preserved g c =
    let w = c.args.world.now in
    let k = c.loop-number.number in
    let further : AreLookedFurther w c.args.step.now c.args.now w.prefixes c.args.marks.now k c.loop-number.all.items c.look_at_prefix.new.all.items c.loop-number.ended.items c.look_at_prefix.new.ended.items
    = subst (λ (ps : List Prefix). AreLookedFurther w c.args.step.now c.args.now ps c.args.marks.now k c.loop-number.all.items c.look_at_prefix.new.all.items c.loop-number.ended.items c.look_at_prefix.new.ended.items) c.prefixes-prefixes.ensures c.look_at_prefix.ensures.looked in
    let more : k * length w.routers + length w.routers ≡ (k + 1) * length w.routers = omega arith in
    let before = c.loop-number.invariant.room in
    let room = c.look_at_prefix.ensures.room in
    let capacity = c.look_at_prefix.ensures.capacity in
    record {
      looked = subst (λ (m : ℕ). AreLooked IsCutOff w c.args.now (IsSpared w c.args.step.now w.prefixes c.args.marks.now) m c.args.all.now.items c.look_at_prefix.new.all.items c.args.ended.now.items c.look_at_prefix.new.ended.items) more
          (further c.args.all.now.items c.args.ended.now.items c.requires.order c.loop-number.invariant.looked);
      room = omega (arith, before, room, capacity);
      size = c.look_at_prefix.ensures.size ∙ c.loop-number.invariant.size;
    }

pub returns-clause-looked : goal.returns-clause-looked
returns-clause-looked g c =
    let w = c.args.world.now in
    let ends = ap (λ (ps : List Prefix). length ps) c.prefixes-prefixes.ensures in
    let over = c.loop-number-test.false in
    let up_to = c.loop-number.auto.number-end in
    let last : c.loop-number.number ≡ length w.prefixes = omega (arith, over, up_to, ends) in
    let all : c.loop-number.number * length w.routers ≡ length c.args.all.now.items = ap (λ (m : ℕ). m * length w.routers) last ∙ sym (many_watched (length w.routers) w.prefixes c.args.all.now.items c.requires.order) in
    looked_beside_more IsCutOff w c.args.now (IsSpared w c.args.step.now w.prefixes c.args.marks.now) (IsStill w c.args.step.now c.args.marks.now) (λ d spared. inr spared) (length c.args.all.now.items) c.args.all.now.items c.loop-number.all.items c.args.ended.now.items c.loop-number.ended.items
    (subst (λ (m : ℕ). AreLooked IsCutOff w c.args.now (IsSpared w c.args.step.now w.prefixes c.args.marks.now) m c.args.all.now.items c.loop-number.all.items c.args.ended.now.items c.loop-number.ended.items) all c.loop-number.invariant.looked)

pub returns-then-not-moves_ways-clause-looked : goal.returns-then-not-moves_ways-clause-looked
returns-then-not-moves_ways-clause-looked g c =
    looked_aside IsCutOff c.args.world.now c.args.now (IsStill c.args.world.now c.args.step.now c.args.marks.now) c.args.all.now.items c.args.ended.now.items (λ d. inl (sym c.moves_ways.ensures ∙ c.if-not-moves_ways.true))
