use Rattle.std.proofs.Common.{◌≡◌, ◌∙◌, ◌+◌, ◌-◌, ◌*◌, ◌<◌, ◌↔◌, IsTrue, Bool, ℕ, List, Some, true, false, arith, inl, inr, length, refl, sym, ap, subst, get_or, slice_get, slice_set}
use Rattle.std.proofs.{lemmas.Bool.false≢true, lemmas.Option.slice_get_read}
use Rattle.no_packet_loops.proofs.Common.{element_there, Prefix, Router, Step}
use Rattle.reachability.specs.{Marks.is_marked, Rounds.IsLast, Ways.HasWay, Ways.IsCutOff}
use Rattle.timed_reports.specs.{declared.spells.Watched.Watched, Looks.IsBeside, Looks.IsSpared, Records.AreLooked, Records.IsLooked, Records.seen}
use Rattle.timed_reports.proofs.{Blocks.of_other, Blocks.of_block, Watching.read_is}
use Rattle.timed_reports.proofs.OneByOne.{looked_among, looked_next, looked_over}
use Rattle.timed_reports.proofs.looks.look_at_prefix.Goals as goal

-- no mark says that ways to it moved
pub returns-then-not-is_marked-clause-looked : goal.returns-then-not-is_marked-clause-looked
returns-then-not-is_marked-clause-looked g c = λ old before order L.
    let n = length c.args.world.now.routers in
    let ps : List Prefix = c.args.prefixes.now in
    let P = element_there ps c.args.number c.requires.known in
    let unmarked : get_or c.args.marks.now c.args.number false ≡ false = sym c.is_marked.ensures ∙ c.if-not-is_marked.true in
    looked_over IsCutOff c.args.world.now c.args.now (IsSpared c.args.world.now c.args.step.now ps c.args.marks.now) old before n (c.args.number * n) c.args.all.now.items c.args.ended.now.items L c.requires.within
    (λ x d from below there. inl (c.args.number, P.1 ∙ ap Some (sym (of_block n ps old order c.args.number P.0 P.1 x d from below there).0), unmarked))

pub loop-place-init : goal.loop-place-init
loop-place-init g c =
    let n : length c.routers-routers.result.now ≡ length c.args.world.now.routers = ap (λ (rs : List Router). length rs) c.routers-routers.ensures.routers in
    let none : c.args.number * length c.args.world.now.routers + 0 ≡ c.args.number * length c.args.world.now.routers = omega arith in
    let first : c.place_of-first.result ≡ c.args.number * length c.args.world.now.routers = c.place_of-first.ensures ∙ ap (λ (m : ℕ). c.args.number * m + 0) n ∙ none in
    record {
      further = λ old before order L. subst (λ (m : ℕ). AreLooked IsCutOff c.args.world.now c.args.now (IsSpared c.args.world.now c.args.step.now c.args.prefixes.now c.args.marks.now) m old c.args.all.now.items before c.args.ended.now.items) (sym first) L;
      many = refl;
      from = omega (arith, first);
      room = omega (arith, first);
      capacity = omega arith;
    }

pub loop-place-preserved : goal.loop-place-preserved
loop-place-preserved g c =
    let n : length c.routers-routers.result.now ≡ length c.args.world.now.routers = ap (λ (rs : List Router). length rs) c.routers-routers.ensures.routers in
    let none : c.args.number * length c.args.world.now.routers + 0 ≡ c.args.number * length c.args.world.now.routers = omega arith in
    let first : c.place_of-first.result ≡ c.args.number * length c.args.world.now.routers = c.place_of-first.ensures ∙ ap (λ (m : ℕ). c.args.number * m + 0) n ∙ none in
    let w = c.args.world.now in
    let ps : List Prefix = c.args.prefixes.now in
    let p : Prefix = c.index-prefixes-number-2.result in
    let at : slice_get ps c.args.number ≡ Some p = slice_get_read ps (length ps) c.args.number p refl c.requires.known c.index-prefixes-number-2.is in
    let place = c.loop-place.place in
    let cs : List Watched = c.loop-place.all.items in
    let test = c.loop-place-test.true in
    let within = c.requires.within in
    let many = c.loop-place.invariant.many in
    let from = c.loop-place.invariant.from in
    let before = c.loop-place.invariant.room in
    let room = c.note-in-loop-place.ensures.room in
    let capacity = c.note-in-loop-place.ensures.capacity in
    let more = c.loop-place.invariant.capacity in
    record {
      further = λ old then order L. (let M = c.loop-place.invariant.further old then order L in
          looked_next IsCutOff w c.args.now (IsSpared w c.args.step.now ps c.args.marks.now) old then place cs c.loop-place.ended.items M (omega (arith, test, n, first, within, many)) c.note-in-loop-place.new.all.items c.note-in-loop-place.new.ended.items
          (λ d there.
          let holds : c.is_cut_off-holds.result ≡ is_marked c.look.new.self d.router = c.is_cut_off-holds.ensures ∙ ap (λ (x : Watched). is_marked c.look.new.self x.router) (read_is cs place c.index-one.result.now d c.index-one.ensures there) in
          let prefix : d.prefix ≡ p = (of_block (length w.routers) ps old order c.args.number p at place d from (omega (arith, test, n, first)) (sym (M.rest place (omega arith)) ∙ there)).0 in
          let rightly : (is_marked c.look.new.self d.router ≡ true) ↔ IsCutOff d.prefix d.router w = subst (λ (q : Prefix). (is_marked c.look.new.self d.router ≡ true) ↔ IsCutOff q d.router w) (sym prefix) (c.look.ensures.cut_off d.router) in
          inr (c.is_cut_off-holds.result, subst (λ (b : Bool). IsTrue b ↔ IsCutOff d.prefix d.router w) (sym holds) rightly, c.note-in-loop-place.ensures.written d there, c.note-in-loop-place.ensures.ended d there)));
      many = c.note-in-loop-place.ensures.many ∙ many;
      from = omega (arith, from);
      room = omega (arith, before, room);
      capacity = omega (arith, capacity, more);
    }

pub returns-2-clause-looked : goal.returns-2-clause-looked
returns-2-clause-looked g c = λ old before order L.
    let n : length c.routers-routers.result.now ≡ length c.args.world.now.routers = ap (λ (rs : List Router). length rs) c.routers-routers.ensures.routers in
    let first : c.place_of-first.result ≡ c.args.number * length c.args.world.now.routers + 0 = c.place_of-first.ensures ∙ ap (λ (m : ℕ). c.args.number * m + 0) n in
    let over = c.loop-place-test.false in
    let up_to = c.loop-place.auto.place-end (omega arith) in
    let all : c.loop-place.place ≡ c.args.number * length c.args.world.now.routers + length c.args.world.now.routers = omega (arith, over, up_to, first, n) in
    subst (λ (m : ℕ). AreLooked IsCutOff c.args.world.now c.args.now (IsSpared c.args.world.now c.args.step.now c.args.prefixes.now c.args.marks.now) m old c.loop-place.all.items before c.loop-place.ended.items) all (c.loop-place.invariant.further old before order L)

-- the router that published was looked at alone
pub returns-clause-looked : goal.returns-clause-looked
returns-clause-looked g c = λ old before order L.
    let w = c.args.world.now in
    let k = c.args.number in
    let n = length w.routers in
    let i = c.in-Publish.router in
    let ps : List Prefix = c.args.prefixes.now in
    let p : Prefix = c.index-prefixes-number.result in
    let cs : List Watched = c.args.all.now.items in
    let ds : List Watched = c.note.new.all.items in
    let many : length c.routers-routers.result.now ≡ n = ap (λ (rs : List Router). length rs) c.routers-routers.ensures.routers in
    let at : slice_get ps k ≡ Some p = slice_get_read ps (length ps) k p refl c.requires.known c.index-prefixes-number.is in
    let test = c.if-from-routers.true in
    let from = c.from.ensures in
    let known : i < n = omega (arith, test, from, many) in
    let first : c.place_of-first.result ≡ k * n + 0 = c.place_of-first.ensures ∙ ap (λ (m : ℕ). k * m + 0) many in
    let from_too = c.from-2.ensures in
    let place : c.place_of-first.result + c.from-2.result ≡ k * n + i = omega (arith, first, from_too) in
    let last : IsLast w p i = c.is_last.ensures c.if-is_last.true in
    let routed : (d : Watched) → slice_get cs (k * n + i) ≡ Some d → IsCutOff d.prefix d.router w → ⊥ = λ d there cut.
    let was : slice_get old (k * n + i) ≡ Some d = sym (L.rest (k * n + i) (omega arith)) ∙ there in
    let B = of_block n ps old order k p at (k * n + i) d (omega arith) (omega (arith, known)) was in
    let number : (k * n + i) - k * n ≡ i = omega arith in
    let router : d.router ≡ i = B.1 ∙ number in
    let prefix : d.prefix ≡ p = B.0 in
    cut.no_way (subst (λ (q : Prefix). HasWay w q d.router) (sym prefix) (subst (HasWay w p) (sym router) last.0)) in
    let one : IsLooked IsCutOff w c.args.now (IsSpared w c.args.step.now ps c.args.marks.now) (k * n + i) cs ds c.args.ended.now.items c.note.new.ended.items
    = λ d there. (let here : slice_get cs (c.place_of-first.result + c.from-2.result) ≡ Some d = ap (slice_get cs) place ∙ there in
    inr (false, ((λ no. absurd (false≢true no)), (λ cut. absurd (routed d there cut))), subst (λ (m : ℕ). ds ≡ slice_set cs m (seen c.args.now false d)) place (c.note.ensures.written d here), c.note.ensures.ended d here)) in
    looked_among IsCutOff w c.args.now (IsSpared w c.args.step.now ps c.args.marks.now) old before (k * n) n i cs ds c.args.ended.now.items c.note.new.ended.items known L c.requires.within
    (λ x d from_it below apart there. inr (subst (λ (s : Step). IsBeside w s d) (sym c.in-Publish.is) (
      of_other n ps old order k p at x d from_it below there i apart,
      subst (λ (q : Prefix). IsLast w q i) (sym ((of_block n ps old order k p at x d from_it below there).0)) last,
    ))) one
