use Rattle.std.proofs.Common.{◌≡◌, ◌∙◌, ◌+◌, ◌*◌, ◌≤◌, ℕ, List, Some, false, arith, inl, inr, length, refl, sym, ap, subst, slice_get, slice_set}
use Rattle.std.proofs.lemmas.Option.{slice_get_read}
use Rattle.timed_reports.specs.{declared.spells.Watched.Watched, Going.IsComputing, Looks.IsUnmet, Records.AreLooked, Records.IsLooked, Records.seen}
use Rattle.timed_reports.proofs.Blocks.{block_fits, many_watched, of_block, of_other}
use Rattle.timed_reports.proofs.OneByOne.{looked_among, looked_none}
use Rattle.timed_reports.proofs.looks.look_at_router.Goals as goal

pub loop-number-init : goal.loop-number-init
loop-number-init g c =
    let none : 0 ≡ 0 * c.args.routers = omega arith in
    let room = c.requires.room in
    record {
      looked = subst (λ (m : ℕ). AreLooked IsComputing c.args.world.now c.args.now (IsUnmet c.args.router c.args.told.now) m c.args.all.now.items c.args.all.now.items c.args.ended.now.items c.args.ended.now.items) none
          (looked_none IsComputing c.args.world.now c.args.now (IsUnmet c.args.router c.args.told.now) c.args.all.now.items c.args.ended.now.items);
      room = omega (arith, room);
    }

-- the place is one of those that are watched
pub place_of-place-requires : goal.place_of-place-requires
place_of-place-requires g c =
    let fits = block_fits c.args.routers c.args.prefixes.now c.args.all.now.items c.requires.order c.loop-number.number c.loop-number-test.true in
    let known = c.requires.known in
    let from = c.from.ensures in
    let len = c.args.all.now.ok.0 in
    let cap = c.args.all.now.ok.1 in
    let small = c.args.all.now.small in
    omega (arith, fits, known, from, len, cap, small)

pub look_for_computation-requires-clause-place : goal.look_for_computation-requires-clause-place
look_for_computation-requires-clause-place g c =
    let fits = block_fits c.args.routers c.args.prefixes.now c.args.all.now.items c.requires.order c.loop-number.number c.loop-number-test.true in
    let known = c.requires.known in
    let from = c.from.ensures in
    let place = c.place_of-place.ensures in
    let as_many = c.loop-number.invariant.looked.as_many in
    omega (arith, fits, known, from, place, as_many)

pub look_for_computation-requires-clause-of : goal.look_for_computation-requires-clause-of
look_for_computation-requires-clause-of g c = λ d there.
    let k = c.loop-number.number in
    let n = c.args.routers in
    let ps = c.args.prefixes.now in
    let old : List Watched = c.args.all.now.items in
    let at : slice_get ps k ≡ Some c.index-prefixes-number.result = slice_get_read ps (length ps) k c.index-prefixes-number.result refl c.loop-number-test.true c.index-prefixes-number.is in
    let known = c.requires.known in
    let from = c.from.ensures in
    let place = c.place_of-place.ensures in
    let rest = c.loop-number.invariant.looked.rest c.place_of-place.result (omega (arith, place)) in
    (of_block n ps old c.requires.order k c.index-prefixes-number.result at c.place_of-place.result d (omega (arith, place)) (omega (arith, place, known, from)) (sym rest ∙ there)).0

pub look_for_computation-requires-clause-room : goal.look_for_computation-requires-clause-room
look_for_computation-requires-clause-room g c =
    let fits = block_fits c.args.routers c.args.prefixes.now c.args.all.now.items c.requires.order c.loop-number.number c.loop-number-test.true in
    let known = c.requires.known in
    let before = c.loop-number.invariant.room in
    omega (arith, fits, known, before)

pub loop-number-preserved : goal.loop-number-preserved
loop-number-preserved g c =
    let k = c.loop-number.number in
    let n = c.args.routers in
    let i = c.args.router in
    let ps = c.args.prefixes.now in
    let old : List Watched = c.args.all.now.items in
    let cs : List Watched = c.loop-number.all.items in
    let ds : List Watched = c.look_for_computation.new.all.items in
    let at : slice_get ps k ≡ Some c.index-prefixes-number.result = slice_get_read ps (length ps) k c.index-prefixes-number.result refl c.loop-number-test.true c.index-prefixes-number.is in
    let fits : k * n + n ≤ length old = block_fits n ps old c.requires.order k c.loop-number-test.true in
    let as_many = c.loop-number.invariant.looked.as_many in
    let place : c.place_of-place.result ≡ k * n + i = c.place_of-place.ensures ∙ ap (λ (m : ℕ). k * n + m) c.from.ensures in
    let one : IsLooked IsComputing c.args.world.now c.args.now (IsUnmet i c.args.told.now) (k * n + i) cs ds c.loop-number.ended.items c.look_for_computation.new.ended.items
    = λ d there. elim (c.look_for_computation.ensures.looked d (ap (slice_get cs) place ∙ there)) [
      | inl (unmet, same, none) ↦ inl (inr unmet, same, none)
      | inr (holds, is, written, ended) ↦ inr (holds, is, written ∙ ap (λ (m : ℕ). slice_set cs m (seen c.args.now holds d)) place, ended)
    ] in
    let next = looked_among IsComputing c.args.world.now c.args.now (IsUnmet i c.args.told.now) old c.args.ended.now.items (k * n) n i cs ds c.loop-number.ended.items c.look_for_computation.new.ended.items c.requires.known c.loop-number.invariant.looked (omega (arith, fits, as_many))
    (λ x d from below apart there. inl (of_other n ps old c.requires.order k c.index-prefixes-number.result at x d from below there i apart)) one in
    let more : k * n + n ≡ (k + 1) * n = omega arith in
    let known = c.requires.known in
    let before = c.loop-number.invariant.room in
    let room = c.look_for_computation.ensures.room in
    let capacity = c.look_for_computation.ensures.capacity in
    record {
      looked = subst (λ (m : ℕ). AreLooked IsComputing c.args.world.now c.args.now (IsUnmet i c.args.told.now) m old ds c.args.ended.now.items c.look_for_computation.new.ended.items) more next;
      room = omega (arith, before, room, capacity, known);
    }

pub returns : goal.returns
returns g c =
    let over = c.loop-number-test.false in
    let up_to = c.loop-number.auto.number-end in
    let last : c.loop-number.number ≡ length c.args.prefixes.now = omega (arith, over, up_to) in
    let all : c.loop-number.number * c.args.routers ≡ length c.args.all.now.items = ap (λ (m : ℕ). m * c.args.routers) last ∙ sym (many_watched c.args.routers c.args.prefixes.now c.args.all.now.items c.requires.order) in
    subst (λ (m : ℕ). AreLooked IsComputing c.args.world.now c.args.now (IsUnmet c.args.router c.args.told.now) m c.args.all.now.items c.loop-number.all.items c.args.ended.now.items c.loop-number.ended.items) all c.loop-number.invariant.looked
