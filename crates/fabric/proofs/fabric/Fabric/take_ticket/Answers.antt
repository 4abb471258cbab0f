use Rattle.std.proofs.Common.{rules, ◌≡◌, ◌∙◌, ◌+◌, ◌<◌, ◌≤◌, ◌++◌, [], ◌∷◌, length, length-append, vec_len, None, Some, refl, sym, ap, subst, arith, true, false, IsOk, MatchBool, MatchOption, Err, slice_get, set, vec_capacity}
use Rattle.no_packet_loops.proofs.Common.{false≢true, slice_get_past, err_from_is_err_and, Lawful, next, Lawful_to_refusal, None_not_Some, Publish, Fits, most_steps, step_number}
use Rattle.router_core.proofs.Refused.{gave_up}
use Rattle.publication.specs.Lists.{Writing}
use Rattle.publication.proofs.Places.{each_there}
use Rattle.fabric.specs.Desks.{all_lent, desk_in, writings}
use Rattle.fabric.specs.Fabric.{Fabric, after_step, count_lent, fabric_of, lent_at, with_lent, IsFabric}
use Rattle.fabric.specs.Writers.{ArePending, AreReaders, AreWriters, shown_images, fabric_seen}
use Rattle.fabric.proofs.{Fabrics.kept_as, Fabrics.summed_more, WritersOut.lent_there, Publications.readers_next, Publications.writers_next}
use Rattle.fabric.proofs.Seats.{count_back, set_again, images_back, kept_back, lawful_back, lent_was, none_lent_at, pending_back, pending_on, published_is, seat, short_back, shown_back, unpublished_is, writers_back, writing_there}
use Rattle.fabric.proofs.fabric.Fabric.take_ticket.Given as given
use Rattle.fabric.proofs.fabric.Fabric.take_ticket.Goals as goal
use Rattle.fabric.proofs.fabric.Fabric.take_ticket.Goals.{then-published, else-published}

-- the writer's place
place : (g : given.Over) (c : goal.In_ok-take_back g) → c.from-place.result ≡ c.args.ticket.before.router
place g c = c.from-place.ensures ∙ c.router-router.ensures

at_desk : (g : given.Over) (c : goal.In_ok-take_back g) → slice_get c.self.inside.desks.items c.args.ticket.before.router ≡ Some c.index_mut.result.now
at_desk g c =
    let count : length c.self.inside.desks.items ≡ vec_len c.self.inside.desks = search rules in
    seat c.self.inside.desks.items c.args.ticket.before.router c.from-place.result c.index_mut.result.now (omega (arith, count, c.len.ensures, c.if-place-len.false)) c.index_mut.ensures.value (place g c)

-- it is the one that is out, and the desks afterwards have it
out : (g : given.Over) (c : goal.In_ok-take_back g) → c.index_mut.result.now.out ≡ Some c.args.ticket.patch
out g c = (c.in_ok-take_back.ensures.its.0 refl).0

list : (g : given.Over) (c : goal.In_ok-take_back g) → c.index_mut.result.now.writing.published ≡ c.args.ticket.before
list g c = c.in_ok-take_back.ensures.list

left : (g : given.Over) (c : goal.In_ok-take_back g) → set c.self.inside.desks.items c.from-place.result c.take_back.new.self ≡ set c.self.inside.desks.items c.args.ticket.before.router (desk_in c.args.ticket.writing)
left g c = ap (λ k. set c.self.inside.desks.items k c.take_back.new.self) (place g c) ∙ ap (set c.self.inside.desks.items c.args.ticket.before.router) c.in_ok-take_back.ensures.desk

pub overflow_sub-self : goal.overflow_sub-self
overflow_sub-self g c =
    let s = c.self.inside in
    let count = count_back s.course.world g.B.FabricName.openings s.desks.items c.args.ticket.before.router c.index_mut.result.now c.args.ticket (at_desk g c) (out g c) (list g c) c.in_ok-take_back.ensures.kept c.self.invariant.0.2 c.self.invariant.0.1 in
    let aside = c.self.invariant.0.5 in
    omega (arith, count, aside)

-- ---- refused

at_refused : (g : given.Over) (c : goal.After-from_residual g) → slice_get c.self.inside.desks.items c.args.ticket.before.router ≡ Some c.index_mut.result.now
at_refused g c =
    let count : length c.self.inside.desks.items ≡ vec_len c.self.inside.desks = search rules in
    seat c.self.inside.desks.items c.args.ticket.before.router c.from-place.result c.index_mut.result.now (omega (arith, count, c.len.ensures, c.if-place-len.false)) c.index_mut.ensures.value (c.from-place.ensures ∙ c.router-router.ensures)

-- the desks stay
unchanged : (g : given.Over) (c : goal.After-from_residual g) → set c.self.inside.desks.items c.from-place.result c.take_back.new.self ≡ c.self.inside.desks.items
unchanged g c = ap (set c.self.inside.desks.items c.from-place.result) (c.in_err-take_back.ensures.same ∙ c.index_mut.ensures.value) ∙ set_again c.self.inside.desks.items c.from-place.result c.index_mut.result.now

pub invariant_of-self : goal.invariant_of-self
invariant_of-self g c =
    let s = c.self.inside in (
      (
        subst (λ ds. IsFabric (fabric_seen g.B.FabricName.openings s.course.network s.journal.items s.course.world ds) (vec_capacity s.journal)) (sym (unchanged g c)) c.self.invariant.0.0,
        subst (λ ds. AreWriters s.course.world (writings ds)) (sym (unchanged g c)) c.self.invariant.0.1,
        subst (ArePending s.course.world) (sym (unchanged g c)) c.self.invariant.0.2,
        c.self.invariant.0.3,
        c.self.invariant.0.4,
        c.self.invariant.0.5 ∙ sym (ap (λ ds. count_lent (all_lent ds)) (unchanged g c)),
      ),
      c.self.invariant.1,
    )

pub returns-in_err-take_back-clause-its : goal.returns-in_err-take_back-clause-its
returns-in_err-take_back-clause-its g c =
    let p = err_from_is_err_and c.from_residual.result c.from_residual.ensures.1 in (
      λ ok. absurd (false≢true (subst IsOk p.1 ok)),
      λ same. absurd (false≢true (c.in_err-take_back.ensures.its.1 (
        sym (lent_there c.self.inside.desks.items c.args.ticket.before.router c.index_mut.result.now (at_refused g c)) ∙ ap (λ (f : Fabric). lent_at f.lent c.args.ticket.before.router) c.self.view_is ∙ same,
        each_there (λ k (x : Writing). (x.published).router ≡ k) (writings c.self.inside.desks.items) (c.self.invariant.0.1).numbered c.args.ticket.before.router c.index_mut.result.now.writing
            (writing_there c.self.inside.desks.items c.args.ticket.before.router c.index_mut.result.now (at_refused g c)),
      ))),
    )

-- ---- published

pub step_on-requires : goal.step_on-requires
step_on-requires g c = let same = c.self.invariant.1 in let short = c.self.invariant.0.0.short in omega (arith, same, short)

pub unwrap-requires : goal.unwrap-requires
unwrap-requires g c =
    let b : goal.In_ok-take_back g = c.before.before.before.before in
    let s = c.self.inside in
    let lawful : Lawful s.course.world (Publish c.args.ticket.before.router) = lawful_back s.course.world g.B.FabricName.openings s.desks.items c.args.ticket.before.router c.index_mut.result.now c.args.ticket (at_desk g b) (out g b) (list g b) c.in_ok-take_back.ensures.kept c.self.invariant.0.2 c.self.invariant.0.1
    s.course.network s.journal.items (vec_capacity s.journal) c.self.invariant.0.0 in
    subst (λ o. MatchOption o (IsOk c.step_on.result) (λ e. c.step_on.result ≡ Err e))
    (Lawful_to_refusal s.course.world (Publish c.router-router.result) (subst (λ i. Lawful s.course.world (Publish i)) (sym c.router-router.ensures) lawful))
    (c.step_on.ensures.publication c.router-router.result refl)

pub unwrap-requires-then-published : goal.unwrap-requires-then-published
unwrap-requires-then-published g c =
    let b : goal.In_ok-take_back g = c.before.before.before.before.before.before.before.before.before.before in
    let s = c.self.inside in
    let short : length s.journal.items + count_lent (all_lent (set s.desks.items c.args.ticket.before.router (desk_in c.args.ticket.writing))) < most_steps
    = short_back s.course.world g.B.FabricName.openings s.desks.items c.args.ticket.before.router c.index_mut.result.now c.args.ticket (at_desk g b) (out g b) (list g b) c.in_ok-take_back.ensures.kept c.self.invariant.0.2 c.self.invariant.0.1
    s.course.network s.journal.items (vec_capacity s.journal) c.self.invariant.0.0 in
    let room : most_steps ≤ vec_capacity s.journal = c.self.invariant.0.0.room in
    let len : length s.journal.items ≡ vec_len s.journal = search rules in
    c.push.ensures.succeeds (omega (arith, short, room, len))

-- what is left once the step is done
record IsDone (g : given.Over) (c : goal.After-unwrap-then-published g) : Type 0 where
  lawful : Lawful c.self.inside.course.world (Publish c.args.ticket.before.router)
  after : after_step (fabric_of c.self.inside.course.network c.self.inside.journal.items c.self.inside.course.world (shown_images g.B.FabricName.openings (writings c.self.inside.desks.items)) (all_lent (set c.self.inside.desks.items c.args.ticket.before.router (desk_in c.args.ticket.writing)))) (Publish c.args.ticket.before.router)
      ≡ fabric_seen g.B.FabricName.openings c.self.inside.course.network c.push.new.self.items c.step_on.new.self.world (set c.self.inside.desks.items c.from-place.result c.take_back.new.self)
  world : c.step_on.new.self.world ≡ next c.self.inside.course.world (Publish c.args.ticket.before.router)
  pushed : c.push.new.self.items ≡ c.self.inside.journal.items ++ Publish c.args.ticket.before.router ∷ []

done : (g : given.Over) (c : goal.After-unwrap-then-published g) → IsDone g c
done g c =
    let b : goal.In_ok-take_back g = c.before.before.before.before.before.before.before.before.before.before.before in
    let s = c.self.inside in
    let i = c.args.ticket.before.router in
    let published : c.args.ticket.is_published ≡ true = sym c.is_published-published.ensures ∙ c.if-published.true in
    let ok : Lawful s.course.world (Publish c.router-router.result) × (c.step_on.new.self.world ≡ next s.course.world (Publish c.router-router.result)) = rw c.unwrap.ensures at c.step_on.ensures.ok in
    let world : c.step_on.new.self.world ≡ next s.course.world (Publish i) = ok.1 ∙ ap (λ k. next s.course.world (Publish k)) c.router-router.ensures in
    let items : c.push.new.self.items ≡ s.journal.items ++ Publish c.router-router.result ∷ [] = rw c.unwrap-then-published.ensures at c.push.ensures.items in
    let pushed : c.push.new.self.items ≡ s.journal.items ++ Publish i ∷ [] = items ∙ ap (λ k. s.journal.items ++ Publish k ∷ []) c.router-router.ensures in
    let images = images_back s.course.world g.B.FabricName.openings s.desks.items i c.index_mut.result.now c.args.ticket (at_desk g b) (out g b) (list g b) c.in_ok-take_back.ensures.kept c.self.invariant.0.2 c.self.invariant.0.1
    s.course.network s.journal.items (vec_capacity s.journal) c.self.invariant.0.0 published ∙ ap (λ ds. shown_images g.B.FabricName.openings (writings ds)) (sym (left g b)) in
    let lent = ap all_lent (sym (left g b)) in
    record {
      lawful = lawful_back s.course.world g.B.FabricName.openings s.desks.items i c.index_mut.result.now c.args.ticket (at_desk g b) (out g b) (list g b) c.in_ok-take_back.ensures.kept c.self.invariant.0.2 c.self.invariant.0.1
          s.course.network s.journal.items (vec_capacity s.journal) c.self.invariant.0.0;
      after = λ k. fabric_of s.course.network (sym pushed k) (sym world k) (images k) (lent k);
      world = world;
      pushed = pushed;
    }

-- the count of steps has it, too
counted_on : (g : given.Over) (c : goal.After-unwrap-then-published g) → c.step_on.new.self.steps ≡ length c.push.new.self.items
counted_on g c =
    let D = done g c in
    let count : c.step_on.new.self.steps ≡ c.self.inside.course.steps + 1 = rw c.unwrap.ensures at c.step_on.ensures.count in
    let longer : length c.push.new.self.items ≡ length c.self.inside.journal.items + 1 = ap length D.pushed ∙ length-append c.self.inside.journal.items (Publish c.args.ticket.before.router ∷ []) in
    let same = c.self.invariant.1 in
    omega (arith, count, same, longer)

pub invariant_of-self-then-published : goal.invariant_of-self-then-published
invariant_of-self-then-published g c =
    let b : goal.In_ok-take_back g = c.before.before.before.before.before.before.before.before.before.before.before in
    let s = c.self.inside in
    let i = c.args.ticket.before.router in
    let D = done g c in
    let kept = kept_back s.course.world g.B.FabricName.openings s.desks.items i c.index_mut.result.now c.args.ticket (at_desk g b) (out g b) (list g b) c.in_ok-take_back.ensures.kept c.self.invariant.0.2 c.self.invariant.0.1
    s.course.network s.journal.items (vec_capacity s.journal) c.self.invariant.0.0 in
    let short = short_back s.course.world g.B.FabricName.openings s.desks.items i c.index_mut.result.now c.args.ticket (at_desk g b) (out g b) (list g b) c.in_ok-take_back.ensures.kept c.self.invariant.0.2 c.self.invariant.0.1
    s.course.network s.journal.items (vec_capacity s.journal) c.self.invariant.0.0 in
    let count = count_back s.course.world g.B.FabricName.openings s.desks.items i c.index_mut.result.now c.args.ticket (at_desk g b) (out g b) (list g b) c.in_ok-take_back.ensures.kept c.self.invariant.0.2 c.self.invariant.0.1 in
    let numbered : c.number.result ≡ step_number (Publish i) = c.number.ensures.number ∙ ap (λ k. step_number (Publish k)) c.router-router.ensures in (
      (
        subst (λ n. IsFabric (fabric_seen g.B.FabricName.openings n c.push.new.self.items c.step_on.new.self.world (set s.desks.items c.from-place.result c.take_back.new.self)) (vec_capacity c.push.new.self)) (sym c.step_on.ensures.network)
            (kept_as (fabric_of s.course.network s.journal.items s.course.world (shown_images g.B.FabricName.openings (writings s.desks.items)) (all_lent (set s.desks.items i (desk_in c.args.ticket.writing))))
            (fabric_seen g.B.FabricName.openings s.course.network c.push.new.self.items c.step_on.new.self.world (set s.desks.items c.from-place.result c.take_back.new.self))
            (Publish i) (vec_capacity s.journal) (vec_capacity c.push.new.self) kept D.lawful short D.after c.push.ensures.capacity),
        subst (λ v. AreWriters v (writings (set s.desks.items c.from-place.result c.take_back.new.self))) (sym D.world)
            (subst (λ ds. AreWriters (next s.course.world (Publish i)) (writings ds)) (sym (left g b))
            (writers_next s.course.world (Publish i) (writings (set s.desks.items i (desk_in c.args.ticket.writing)))
            (writers_back s.course.world g.B.FabricName.openings s.desks.items i c.index_mut.result.now c.args.ticket (at_desk g b) (out g b) (list g b) c.in_ok-take_back.ensures.kept c.self.invariant.0.2 c.self.invariant.0.1))),
        subst (λ v. ArePending v (set s.desks.items c.from-place.result c.take_back.new.self)) (sym D.world)
            (subst (ArePending (next s.course.world (Publish i))) (sym (left g b))
            (pending_on s.course.world g.B.FabricName.openings s.desks.items i c.index_mut.result.now c.args.ticket (at_desk g b) (out g b) (list g b) c.in_ok-take_back.ensures.kept c.self.invariant.0.2 c.self.invariant.0.1
            s.course.network s.journal.items (vec_capacity s.journal) c.self.invariant.0.0)),
        subst (λ v. AreReaders v s.readers.items) (sym D.world) (readers_next s.course.world (Publish i) s.readers.items c.self.invariant.0.3),
        summed_more s.journal.items (Publish i) c.push.new.self.items s.sum c.number.result c.self.invariant.0.4 numbered c.number.ensures.below (subst (λ k. Fits (Publish k)) c.router-router.ensures c.number.ensures.fits) D.pushed,
        (let same = ap (λ ds. count_lent (all_lent ds)) (left g b) in let aside = c.self.invariant.0.5 in omega (arith, count, same, aside)),
      ),
      counted_on g c,
    )

-- ---- not published

pub invariant_of-self-else-published : goal.invariant_of-self-else-published
invariant_of-self-else-published g c =
    let b : goal.In_ok-take_back g = c.before.before in
    let s = c.self.inside in
    let i = c.args.ticket.before.router in
    let not_yet : c.args.ticket.is_published ≡ false = sym c.is_published-published.ensures ∙ c.if-published.false in
    let shown = shown_back s.course.world g.B.FabricName.openings s.desks.items i c.index_mut.result.now c.args.ticket (at_desk g b) (out g b) (list g b) c.in_ok-take_back.ensures.kept c.self.invariant.0.2 c.self.invariant.0.1 not_yet in
    let kept = kept_back s.course.world g.B.FabricName.openings s.desks.items i c.index_mut.result.now c.args.ticket (at_desk g b) (out g b) (list g b) c.in_ok-take_back.ensures.kept c.self.invariant.0.2 c.self.invariant.0.1
    s.course.network s.journal.items (vec_capacity s.journal) c.self.invariant.0.0 in
    let count = count_back s.course.world g.B.FabricName.openings s.desks.items i c.index_mut.result.now c.args.ticket (at_desk g b) (out g b) (list g b) c.in_ok-take_back.ensures.kept c.self.invariant.0.2 c.self.invariant.0.1 in (
      (
        subst (λ ds. IsFabric (fabric_seen g.B.FabricName.openings s.course.network s.journal.items s.course.world ds) (vec_capacity s.journal)) (sym (left g b))
            (subst (λ images. IsFabric (fabric_of s.course.network s.journal.items s.course.world images (all_lent (set s.desks.items i (desk_in c.args.ticket.writing)))) (vec_capacity s.journal)) (sym shown) kept),
        subst (λ ds. AreWriters s.course.world (writings ds)) (sym (left g b))
            (writers_back s.course.world g.B.FabricName.openings s.desks.items i c.index_mut.result.now c.args.ticket (at_desk g b) (out g b) (list g b) c.in_ok-take_back.ensures.kept c.self.invariant.0.2 c.self.invariant.0.1),
        subst (ArePending s.course.world) (sym (left g b))
            (pending_back s.course.world g.B.FabricName.openings s.desks.items i c.index_mut.result.now c.args.ticket (at_desk g b) (out g b) (list g b) c.in_ok-take_back.ensures.kept c.self.invariant.0.2 c.self.invariant.0.1),
        c.self.invariant.0.3,
        c.self.invariant.0.4,
        (let same = ap (λ ds. count_lent (all_lent ds)) (left g b) in let aside = c.self.invariant.0.5 in omega (arith, count, same, aside)),
      ),
      c.self.invariant.1,
    )

-- ---- the answer

pub returns-clause-its : goal.returns-clause-its
returns-clause-its g c =
    let b : goal.In_ok-take_back g = c.before.before in
    let s = c.self.inside in (
      λ _. ap (λ (f : Fabric). lent_at f.lent c.args.ticket.before.router) (sym c.self.view_is)
          ∙ lent_was s.course.world g.B.FabricName.openings s.desks.items c.args.ticket.before.router c.index_mut.result.now c.args.ticket (at_desk g b) (out g b) (list g b) c.in_ok-take_back.ensures.kept c.self.invariant.0.2 c.self.invariant.0.1,
      λ _. refl,
    )

pub returns-clause-done : goal.returns-clause-done
returns-clause-done g c =
    let b : goal.In_ok-take_back g = c.before.before in
    let s = c.self.inside in
    let i = c.args.ticket.before.router in
    elim c.if-published.branch [
      | then-published w ↦
          let published : c.args.ticket.is_published ≡ true = sym c.is_published-published.ensures ∙ w.if-published.true in
          let ok : Lawful s.course.world (Publish c.router-router.result) × (w.step_on.new.self.world ≡ next s.course.world (Publish c.router-router.result)) = rw w.unwrap.ensures at w.step_on.ensures.ok in
          let world : w.step_on.new.self.world ≡ next s.course.world (Publish i) = ok.1 ∙ ap (λ k. next s.course.world (Publish k)) c.router-router.ensures in
          let items : w.push.new.self.items ≡ s.journal.items ++ Publish c.router-router.result ∷ [] = rw w.unwrap-then-published.ensures at w.push.ensures.items in
          let pushed : w.push.new.self.items ≡ s.journal.items ++ Publish i ∷ [] = items ∙ ap (λ k. s.journal.items ++ Publish k ∷ []) c.router-router.ensures in
          let lawful : Lawful s.course.world (Publish i) = subst (λ k. Lawful s.course.world (Publish k)) c.router-router.ensures ok.0 in
          subst (λ flag. MatchBool flag (Lawful c.args.self.now.world (Publish i) × (c.if-published.self ≡ after_step (with_lent c.args.self.now i None) (Publish i))) (c.if-published.self ≡ with_lent c.args.self.now i None)) (sym published) (
            subst (λ (f : Fabric). Lawful f.world (Publish i)) c.self.view_is lawful,
            w.self-is
                ∙ ap (λ n. fabric_seen g.B.FabricName.openings n w.push.new.self.items w.step_on.new.self.world (set s.desks.items c.from-place.result c.take_back.new.self)) w.step_on.ensures.network
                ∙ published_is s.course.world g.B.FabricName.openings s.desks.items i c.index_mut.result.now c.args.ticket (at_desk g b) (out g b) (list g b) c.in_ok-take_back.ensures.kept c.self.invariant.0.2 c.self.invariant.0.1
                s.course.network s.journal.items (vec_capacity s.journal) c.self.invariant.0.0 published w.push.new.self.items w.step_on.new.self.world (set s.desks.items c.from-place.result c.take_back.new.self) pushed world (left g b)
                ∙ ap (λ (f : Fabric). after_step (with_lent f i None) (Publish i)) c.self.view_is,
          )
      | else-published w ↦
          let not_yet : c.args.ticket.is_published ≡ false = sym c.is_published-published.ensures ∙ w.if-published.false in
          subst (λ flag. MatchBool flag (Lawful c.args.self.now.world (Publish i) × (c.if-published.self ≡ after_step (with_lent c.args.self.now i None) (Publish i))) (c.if-published.self ≡ with_lent c.args.self.now i None)) (sym not_yet)
          (w.self-is
          ∙ unpublished_is s.course.world g.B.FabricName.openings s.desks.items i c.index_mut.result.now c.args.ticket (at_desk g b) (out g b) (list g b) c.in_ok-take_back.ensures.kept c.self.invariant.0.2 c.self.invariant.0.1
          s.course.network s.journal.items (vec_capacity s.journal) c.self.invariant.0.0 not_yet (set s.desks.items c.from-place.result c.take_back.new.self) (left g b)
          ∙ ap (λ (f : Fabric). with_lent f i None) c.self.view_is)
    ]

pub returns-then-place-len-clause-its : goal.returns-then-place-len-clause-its
returns-then-place-len-clause-its g c =
    let s = c.self.inside in
    let i = c.args.ticket.before.router in
    let count = s.desks.ok.0 in
    let past : length s.desks.items ≤ i = omega (arith, c.if-place-len.true, c.len.ensures, count, c.from-place.ensures, c.router-router.ensures) in
    let none : lent_at c.args.self.now.lent i ≡ None = ap (λ (f : Fabric). lent_at f.lent i) (sym c.self.view_is) ∙ none_lent_at s.desks.items i (slice_get_past s.desks.items i past) in
    (λ no. absurd (false≢true no), λ lent. absurd (None_not_Some (sym none ∙ lent)))

pub returns-in_err-take_back-clause-same : goal.returns-in_err-take_back-clause-same
returns-in_err-take_back-clause-same g c =
    let s = c.self.inside in
    gave_up c.from_residual.result
    (ap (λ ds. fabric_seen g.B.FabricName.openings s.course.network s.journal.items s.course.world ds)
    (ap (set s.desks.items c.from-place.result) (c.in_err-take_back.ensures.same ∙ c.index_mut.ensures.value) ∙ set_again s.desks.items c.from-place.result c.index_mut.result.now)
    ∙ c.self.view_is)
