use Rattle.std.proofs.Common.{rules, Ok, Err, Result, None, ◌≡◌, ◌+◌, ◌<◌, ◌≤◌, ◌++◌, [], ◌∷◌, length, vec_len, length-append, refl, sym, ap, subst, ◌∙◌, arith, Some, IsOk, IsSome, MatchOption, false, is_some, slice_get, vec_capacity, set}
use Rattle.no_packet_loops.proofs.Common.{IsNetwork, false≢true, err_from_is_err_and, most_steps, Lawful, next, refusal, Refusal, release_at, Lawful_to_refusal, None_not_Some, Step, Publish}
use Rattle.router_core.proofs.Refused.{gave_up, not_ok}
use Rattle.world.specs.Steps.{DeliveryNeedsMemory, HasRoomForSteps, is_stale}
use Rattle.world.proofs.Done.{memory_lacked, not_caused, only_cause}
use Rattle.publication.specs.declared.known.Known.{Known}
use Rattle.image_patch.specs.Patches.{patched}
use Rattle.course.specs.{Course.Course, Images.due_at, Images.image_in_force, Images.images_in_force}
use Rattle.fabric.specs.{Desks.all_lent, Desks.writings, Patches.IsPatchDue}
use Rattle.fabric.specs.Fabric.{Fabric, awaits_writer, count_lent, fabric_of, after_step, fabric_refusal, lent_at, IsFabric, IsSumOf}
use Rattle.fabric.specs.Writers.{FitTogether, ArePending, AreReaders, AreWriters, shown_images, waiting_at, fabric_seen}
use Rattle.course.proofs.Images.{due_lawful, due_of}
use Rattle.fabric.proofs.{Causes.admitted, Causes.due_seen, Causes.passed_on, WritersOut.all_pending_next}
use Rattle.fabric.proofs.Fabrics.{room_left, images_stay, images_due, kept_as, summed_more}
use Rattle.fabric.proofs.Seats.{desk_within, due_desk, is_in, lent_same, none_kept, pending_same, seat, writings_set}
use Rattle.fabric.proofs.Publications.{IsDue, due_there, none_heard, number_is, names_all, next_number, readers_next, shown_done, still_heard, unseen_shown, writers_next, writers_set}
use Rattle.fabric.proofs.fabric.Fabric.do_step.Given as given
use Rattle.fabric.proofs.fabric.Fabric.do_step.Goals as goal
use Rattle.fabric.proofs.fabric.Fabric.do_step.Goals.{in-Publish+in_ok-patch-in-Publish+in-Some+in_ok-publish-in-Some, in-Publish+in_ok-patch-in-Publish+in-None+in_ok-step_on-in-None, in_default+in_ok-step_on-in_default}

pub patch_due-requires : goal.patch_due-requires
patch_due-requires g c = subst (HasRoomForSteps 1) (sym c.world.ensures)
    (room_left (fabric_seen g.B.FabricName.openings c.self.inside.course.network c.self.inside.journal.items c.self.inside.course.world c.self.inside.desks.items) (vec_capacity c.self.inside.journal) c.self.invariant.0.0)

pub step_on-requires : goal.step_on-requires
step_on-requires g c = let same = c.self.invariant.1 in let short = c.self.invariant.0.0.short in omega (arith, same, short)

pub step_on-requires-in_default : goal.step_on-requires-in_default
step_on-requires-in_default g c = let same = c.self.invariant.1 in let short = c.self.invariant.0.0.short in omega (arith, same, short)

pub step_on-requires-in-None : goal.step_on-requires-in-None
step_on-requires-in-None g c = let same = c.self.invariant.1 in let short = c.self.invariant.0.0.short in omega (arith, same, short)

-- no writer of the router is out
free : (g : given.Over) (c : goal.After-from g) → is_some (lent_at (all_lent c.self.inside.desks.items) c.in-Publish.router) ≡ false
free g c = ap (λ (f : Fabric). is_some (lent_at f.lent c.in-Publish.router)) c.self.view_is ∙ ap (awaits_writer c.args.self.now) (sym c.in-Publish.is) ∙ c.in_ok-admits.ensures.free

due : (g : given.Over) (c : goal.After-from g) → IsPatchDue c.self.inside.course.world c.in-Publish.router (waiting_at (writings c.self.inside.desks.items) c.in-Publish.router) (Some c.in-Some.patch)
due g c =
    due_there c.world.result.now c.self.inside.course.world (writings c.deref.result.now) (writings c.self.inside.desks.items) c.in-Publish.router c.waiting_at-waiting.result.now c.in_ok-patch-in-Publish.field-0 c.in-Some.patch
    c.world.ensures (c.waiting_at-waiting.ensures (ap (λ ds. lent_at (all_lent ds) c.in-Publish.router) c.deref.ensures.value ∙ none_kept _ (free g c))) (ap writings c.deref.ensures.value) c.in-Some.is c.in_ok-patch-in-Publish.ensures.due

within : (g : given.Over) (c : goal.After-from g) → c.in-Publish.router < length c.self.inside.desks.items
within g c =
    let s = c.self.inside in
    desk_within s.course.network s.journal.items s.course.world g.B.FabricName.openings s.desks.items (vec_capacity s.journal) c.self.invariant.0.0 c.self.invariant.0.1 c.in-Publish.router (due g c).0 (due g c).1

pub index_mut-requires : goal.index_mut-requires
index_mut-requires g c =
    let less = within g c in
    let count : length c.self.inside.desks.items ≡ vec_len c.self.inside.desks = search rules in
    omega (arith, less, count, c.from.ensures)

-- the desk, and the patch that is due there
at_desk : (g : given.Over) (c : goal.After-index_mut g) → slice_get c.self.inside.desks.items c.in-Publish.router ≡ Some c.index_mut.result.now
at_desk g c = seat c.self.inside.desks.items c.in-Publish.router c.from.result c.index_mut.result.now (let less = within g c.before in omega (arith, less, c.from.ensures)) c.index_mut.ensures.value c.from.ensures

due_before : (g : given.Over) (c : goal.After-index_mut g) → IsDue c.self.inside.course.network c.self.inside.journal.items c.self.inside.course.world g.B.FabricName.openings (writings c.self.inside.desks.items) c.in-Publish.router c.index_mut.result.now.writing c.in-Some.patch
due_before g c =
    let s = c.self.inside in
    due_desk s.course.network s.journal.items s.course.world g.B.FabricName.openings s.desks.items (vec_capacity s.journal) c.self.invariant.0.0 c.self.invariant.0.1 (subst IsNetwork c.network.ensures.network c.routers-routers.ensures.valid) c.in-Publish.router c.index_mut.result.now (at_desk g c) c.in-Some.patch (due g c.before)

here : (g : given.Over) (c : goal.After-index_mut g) → c.index_mut.result.now.out ≡ None
here g c = is_in c.self.inside.desks.items c.in-Publish.router c.index_mut.result.now (at_desk g c) (free g c.before)

pub publish-requires-clause-here : goal.publish-requires-clause-here
publish-requires-clause-here g c = here g c

pub publish-requires-clause-number : goal.publish-requires-clause-number
publish-requires-clause-number g c = next_number _ _ _ _ _ _ _ _ (due_before g c)

pub publish-requires-clause-covers : goal.publish-requires-clause-covers
publish-requires-clause-covers g c = names_all _ _ _ _ _ _ _ _ (due_before g c)

-- ---- a refused publication

-- the desk, and the patch that was due there
at_refused : (g : given.Over) (c : goal.After-from_residual-in_err-publish-in-Some g) → slice_get c.self.inside.desks.items c.in-Publish.router ≡ Some c.index_mut.result.now
at_refused g c = at_desk g c.before.before.before.before.before

due_refused : (g : given.Over) (c : goal.After-from_residual-in_err-publish-in-Some g) → IsDue c.self.inside.course.network c.self.inside.journal.items c.self.inside.course.world g.B.FabricName.openings (writings c.self.inside.desks.items) c.in-Publish.router c.index_mut.result.now.writing c.in-Some.patch
due_refused g c = due_before g c.before.before.before.before.before

here_refused : (g : given.Over) (c : goal.After-from_residual-in_err-publish-in-Some g) → c.index_mut.result.now.out ≡ None
here_refused g c = here g c.before.before.before.before.before

-- nothing else is in force
unseen : (g : given.Over) (c : goal.After-from_residual-in_err-publish-in-Some g) → shown_images g.B.FabricName.openings (writings (set c.self.inside.desks.items c.from.result c.publish.new.self)) ≡ shown_images g.B.FabricName.openings (writings c.self.inside.desks.items)
unseen g c =
    let s = c.self.inside in
    ap (λ k. shown_images g.B.FabricName.openings (writings (set s.desks.items k c.publish.new.self))) c.from.ensures
    ∙ ap (shown_images g.B.FabricName.openings) (writings_set s.course.world s.desks.items c.in-Publish.router c.index_mut.result.now c.publish.new.self (at_refused g c))
    ∙ unseen_shown _ _ _ _ _ _ _ _ (due_refused g c) c.publish.new.self.writing c.in_err-publish-in-Some.ensures.unseen

-- no writer went out
unlent : (g : given.Over) (c : goal.After-from_residual-in_err-publish-in-Some g) → all_lent (set c.self.inside.desks.items c.from.result c.publish.new.self) ≡ all_lent c.self.inside.desks.items
unlent g c =
    let s = c.self.inside in
    ap (λ k. all_lent (set s.desks.items k c.publish.new.self)) c.from.ensures
    ∙ lent_same s.course.world s.desks.items c.in-Publish.router c.index_mut.result.now c.publish.new.self (at_refused g c) (here_refused g c) c.in_err-publish-in-Some.ensures.here

pub invariant_of-self : goal.invariant_of-self
invariant_of-self g c =
    let s = c.self.inside in (
      (
        subst (λ lent. IsFabric (fabric_of s.course.network s.journal.items s.course.world (shown_images g.B.FabricName.openings (writings (set s.desks.items c.from.result c.publish.new.self))) lent) (vec_capacity s.journal)) (sym (unlent g c))
            (subst (λ images. IsFabric (fabric_of s.course.network s.journal.items s.course.world images (all_lent s.desks.items)) (vec_capacity s.journal)) (sym (unseen g c)) c.self.invariant.0.0),
        subst (λ k. AreWriters s.course.world (writings (set s.desks.items k c.publish.new.self))) (sym c.from.ensures)
            (subst (AreWriters s.course.world) (sym (writings_set s.course.world s.desks.items c.in-Publish.router c.index_mut.result.now c.publish.new.self (at_refused g c)))
            (writers_set s.course.world (writings s.desks.items) c.in-Publish.router c.publish.new.self.writing c.self.invariant.0.1
            (ap (λ (k : Known). k.router) c.in_err-publish-in-Some.ensures.unseen ∙ number_is _ _ _ _ _ _ _ _ (due_refused g c))
            (still_heard _ _ _ _ _ _ _ _ (due_refused g c) (c.publish.new.self).writing.waiting c.in_err-publish-in-Some.ensures.refused))),
        subst (λ k. ArePending s.course.world (set s.desks.items k c.publish.new.self)) (sym c.from.ensures)
            (pending_same s.course.world s.desks.items c.in-Publish.router c.index_mut.result.now c.publish.new.self (at_refused g c) c.in_err-publish-in-Some.ensures.here c.self.invariant.0.2),
        c.self.invariant.0.3,
        c.self.invariant.0.4,
        c.self.invariant.0.5 ∙ sym (ap count_lent (unlent g c)),
      ),
      c.self.invariant.1,
    )

pub returns-in_err-publish-in-Some-clause-err : goal.returns-in_err-publish-in-Some-clause-err
returns-in_err-publish-in-Some-clause-err g c =
    let s = c.self.inside in
    gave_up c.from_residual-in_err-publish-in-Some.result
    (ap (λ images. fabric_of s.course.network s.journal.items s.course.world images (all_lent (set s.desks.items c.from.result c.publish.new.self))) (unseen g c)
    ∙ ap (fabric_of s.course.network s.journal.items s.course.world (shown_images g.B.FabricName.openings (writings s.desks.items))) (unlent g c) ∙ c.self.view_is)

-- ---- a step that is done

-- the fabric before, and what it kept
abbrev old : (g : given.Over) (c : goal.After-unwrap-2 g) → Fabric
old g c = fabric_seen g.B.FabricName.openings c.self.inside.course.network c.self.inside.journal.items c.self.inside.course.world c.self.inside.desks.items

abbrev new : (g : given.Over) (c : goal.After-unwrap-2 g) → Fabric
new g c = fabric_seen g.B.FabricName.openings c.match-step.self-inside.course.network c.push.new.self.items c.match-step.self-inside.course.world c.match-step.self-inside.desks.items

short : (g : given.Over) (c : goal.After-unwrap-2 g) → length (old g c).journal + count_lent (old g c).lent < most_steps
short g c = subst (λ (f : Fabric). length f.journal + count_lent f.lent < most_steps) (sym c.self.view_is) c.in_ok-admits.ensures.place

-- the step waits for no writer
unawaited : (g : given.Over) (c : goal.After-unwrap-2 g) → awaits_writer (old g c) c.args.step ≡ false
unawaited g c = ap (λ (f : Fabric). awaits_writer f c.args.step) c.self.view_is ∙ c.in_ok-admits.ensures.free

-- the step is written
pushed : (g : given.Over) (c : goal.After-unwrap-2 g) → c.push.new.self.items ≡ c.match-step.self-inside.journal.items ++ c.args.step ∷ []
pushed g c = rw c.unwrap-2.ensures at c.push.ensures.items

-- the fabric then is the one after the step
is_after : (g : given.Over) (c : goal.After-unwrap-2 g) (s : Step) → c.args.step ≡ s → c.match-step.self-inside.course.network ≡ (old g c).network → c.match-step.self-inside.journal ≡ c.self.inside.journal
    → c.match-step.self-inside.course.world ≡ next (old g c).world s → images_in_force (next (old g c).world s) ≡ shown_images g.B.FabricName.openings (writings c.match-step.self-inside.desks.items)
    → all_lent c.match-step.self-inside.desks.items ≡ (old g c).lent → after_step (old g c) s ≡ new g c
is_after g c s asked network journal world images lent =
    let written : c.push.new.self.items ≡ (old g c).journal ++ s ∷ [] = pushed g c ∙ ap (λ j. j.items ++ c.args.step ∷ []) journal ∙ ap (λ x. (old g c).journal ++ x ∷ []) asked in
    let now = shown_images g.B.FabricName.openings (writings c.match-step.self-inside.desks.items) in
    λ k. fabric_of (sym network k) (sym written k) (sym world k) (images k) (sym lent k)

room_kept : (g : given.Over) (c : goal.After-unwrap-2 g) → c.match-step.self-inside.journal ≡ c.self.inside.journal → vec_capacity c.self.inside.journal ≤ vec_capacity c.push.new.self
room_kept g c journal = subst (λ j. vec_capacity j ≤ vec_capacity c.push.new.self) journal c.push.ensures.capacity

-- what a step that is done leaves
record IsStepped (g : given.Over) (c : goal.After-unwrap-2 g) : Type 0 where
  lawful : Lawful (old g c).world c.args.step
  after : after_step (old g c) c.args.step ≡ new g c
  journal : c.match-step.self-inside.journal ≡ c.self.inside.journal
  lent : all_lent c.match-step.self-inside.desks.items ≡ (old g c).lent
  writers : AreWriters c.match-step.self-inside.course.world (writings c.match-step.self-inside.desks.items)
  pending : ArePending c.match-step.self-inside.course.world c.match-step.self-inside.desks.items
  readers : AreReaders c.match-step.self-inside.course.world c.match-step.self-inside.readers.items
  aside : c.match-step.self-inside.set_aside ≡ c.self.inside.set_aside
  count : c.match-step.self-inside.course.steps ≡ c.self.inside.course.steps + 1

stepped : (g : given.Over) (c : goal.After-unwrap-2 g) → IsStepped g c
stepped g c =
    elim c.match-step.branch [
      | in-Publish+in_ok-patch-in-Publish+in-Some+in_ok-publish-in-Some w ↦
          let s = c.self.inside in
          let i = w.in-Publish.router in
          let d = w.index_mut.result.now in
          let e = w.publish.new.self in
          let published = w.in_ok-publish-in-Some.ensures in
          let free : is_some (lent_at (all_lent s.desks.items) i) ≡ false = ap (awaits_writer (old g c)) (sym w.in-Publish.is) ∙ unawaited g c in
          let due : IsPatchDue s.course.world i (waiting_at (writings s.desks.items) i) (Some w.in-Some.patch) =
          due_there w.world.result.now s.course.world (writings w.deref.result.now) (writings s.desks.items) i w.waiting_at-waiting.result.now w.in_ok-patch-in-Publish.field-0 w.in-Some.patch
          w.world.ensures (w.waiting_at-waiting.ensures (ap (λ ds. lent_at (all_lent ds) i) w.deref.ensures.value ∙ none_kept _ free)) (ap writings w.deref.ensures.value) w.in-Some.is w.in_ok-patch-in-Publish.ensures.due in
          let less : i < length s.desks.items = desk_within s.course.network s.journal.items s.course.world g.B.FabricName.openings s.desks.items (vec_capacity s.journal) c.self.invariant.0.0 c.self.invariant.0.1 i due.0 due.1 in
          let at : slice_get s.desks.items i ≡ Some d = seat s.desks.items i w.from.result d (omega (arith, less, w.from.ensures)) w.index_mut.ensures.value w.from.ensures in
          let D : IsDue s.course.network s.journal.items s.course.world g.B.FabricName.openings (writings s.desks.items) i d.writing w.in-Some.patch =
          due_desk s.course.network s.journal.items s.course.world g.B.FabricName.openings s.desks.items (vec_capacity s.journal) c.self.invariant.0.0 c.self.invariant.0.1 (subst IsNetwork w.network.ensures.network w.routers-routers.ensures.valid) i d at w.in-Some.patch due in
          let inside : d.out ≡ None = is_in s.desks.items i d at free in
          let done : Lawful s.course.world (Publish i) × (w.step_on.new.self.world ≡ next s.course.world (Publish i)) = rw w.unwrap.ensures at w.step_on.ensures.ok in
          let journal : c.match-step.self-inside.journal ≡ s.journal = ap (λ s. s.journal) w.self-inside-is in
          let world : c.match-step.self-inside.course.world ≡ next s.course.world (Publish i) = ap (λ s. s.course.world) w.self-inside-is ∙ done.1 in
          let desks : c.match-step.self-inside.desks.items ≡ set s.desks.items i e = ap (λ s. s.desks.items) w.self-inside-is ∙ ap (λ k. set s.desks.items k e) w.from.ensures in
          let writers : writings c.match-step.self-inside.desks.items ≡ set (writings s.desks.items) i e.writing = ap writings desks ∙ writings_set s.course.world s.desks.items i d e at in
          let lent : all_lent c.match-step.self-inside.desks.items ≡ all_lent s.desks.items = ap all_lent desks ∙ lent_same s.course.world s.desks.items i d e at inside published.here in
          let spared : awaits_writer (old g c) (Publish i) ≡ false = ap (awaits_writer (old g c)) (sym w.in-Publish.is) ∙ unawaited g c in
          let images = images_due (old g c) i (vec_capacity s.journal) (patched w.in-Some.patch.generation w.in-Some.patch.rows.items (image_in_force D.router)) c.self.invariant.0.0 done.0 D.due
          ∙ sym (shown_done _ _ _ _ _ _ _ _ D e.writing published.image) ∙ sym (ap (shown_images g.B.FabricName.openings) writers) in
          record {
            lawful = subst (Lawful s.course.world) (sym w.in-Publish.is) done.0;
            after = ap (after_step (old g c)) w.in-Publish.is ∙ is_after g c (Publish i) w.in-Publish.is (ap (λ s. s.course.network) w.self-inside-is ∙ w.step_on.ensures.network) journal world images lent;
            journal = journal;
            lent = lent;
            writers = subst (λ v. AreWriters v (writings c.match-step.self-inside.desks.items)) (sym world) (subst (AreWriters (next s.course.world (Publish i))) (sym writers)
                (writers_next s.course.world (Publish i) (set (writings s.desks.items) i e.writing) (writers_set s.course.world (writings s.desks.items) i e.writing c.self.invariant.0.1
                (ap (λ (k : Known). k.router) published.list ∙ number_is _ _ _ _ _ _ _ _ D) (none_heard s.course.world i e.writing.waiting published.waiting))));
            pending = subst (λ v. ArePending v c.match-step.self-inside.desks.items) (sym world) (subst (ArePending (next s.course.world (Publish i))) (sym desks)
                (pending_same (next s.course.world (Publish i)) s.desks.items i d e at published.here (all_pending_next (old g c) (Publish i) s.desks.items refl spared c.self.invariant.0.2)));
            readers = subst (λ v. AreReaders v c.match-step.self-inside.readers.items) (sym world) (subst (AreReaders (next s.course.world (Publish i))) (sym (ap (λ s. s.readers.items) w.self-inside-is))
                (readers_next s.course.world (Publish i) s.readers.items c.self.invariant.0.3));
            aside = ap (λ s. s.set_aside) w.self-inside-is;
            count = ap (λ s. s.course.steps) w.self-inside-is ∙ rw w.unwrap.ensures at w.step_on.ensures.count;
          }
      | in-Publish+in_ok-patch-in-Publish+in-None+in_ok-step_on-in-None w ↦
          let due : _ = due_of (old g c).world w.in-Publish.router w.in_ok-step_on-in-None.ensures.ok.0 in
          let none : due_at (old g c).world w.in-Publish.router ≡ None
          = subst (λ v. due_at v w.in-Publish.router ≡ None) w.world.ensures (rw w.in-None.is at w.in_ok-patch-in-Publish.ensures.due) in
          absurd (None_not_Some (sym none ∙ due.2))
      | in_default+in_ok-step_on-in_default w ↦
          let journal : c.match-step.self-inside.journal ≡ c.self.inside.journal = ap (λ s. s.journal) w.self-inside-is in
          let ok = w.in_ok-step_on-in_default.ensures.ok in
          let world : c.match-step.self-inside.course.world ≡ next (old g c).world c.args.step = ap (λ s. s.course.world) w.self-inside-is ∙ ok.1 in
          let desks : c.match-step.self-inside.desks.items ≡ c.self.inside.desks.items = ap (λ s. s.desks.items) w.self-inside-is in
          let images = images_stay (old g c) c.args.step (vec_capacity c.self.inside.journal) c.self.invariant.0.0 w.in_default.not-Publish ∙ sym (ap (λ ds. shown_images g.B.FabricName.openings (writings ds)) desks) in
          record {
            lawful = ok.0;
            after = is_after g c c.args.step refl (ap (λ s. s.course.network) w.self-inside-is ∙ w.in_ok-step_on-in_default.ensures.network) journal world images (ap all_lent desks);
            journal = journal;
            lent = ap all_lent desks;
            writers = subst (λ v. AreWriters v (writings c.match-step.self-inside.desks.items)) (sym world) (subst (λ ds. AreWriters (next (old g c).world c.args.step) (writings ds)) (sym desks)
                (writers_next (old g c).world c.args.step (writings c.self.inside.desks.items) c.self.invariant.0.1));
            pending = subst (λ v. ArePending v c.match-step.self-inside.desks.items) (sym world) (subst (ArePending (next (old g c).world c.args.step)) (sym desks)
                (all_pending_next (old g c) c.args.step c.self.inside.desks.items refl (unawaited g c) c.self.invariant.0.2));
            readers = subst (λ v. AreReaders v c.match-step.self-inside.readers.items) (sym world) (subst (AreReaders (next (old g c).world c.args.step)) (sym (ap (λ s. s.readers.items) w.self-inside-is))
                (readers_next (old g c).world c.args.step c.self.inside.readers.items c.self.invariant.0.3));
            aside = ap (λ s. s.set_aside) w.self-inside-is;
            count = ap (λ s. s.course.steps) w.self-inside-is ∙ w.in_ok-step_on-in_default.ensures.count;
          }
    ]

-- the sum has the step's number more
summed : (g : given.Over) (c : goal.After-unwrap-2 g) → IsStepped g c → IsSumOf c.push.new.self.items (c.self.inside.sum + c.number.result)
summed g c done =
    summed_more c.self.inside.journal.items c.args.step c.push.new.self.items c.self.inside.sum c.number.result c.self.invariant.0.4 c.number.ensures.number c.number.ensures.below c.number.ensures.fits
    (pushed g c ∙ ap (λ j. j.items ++ c.args.step ∷ []) done.journal)

-- and so has the count of steps
counted_on : (g : given.Over) (c : goal.After-unwrap-2 g) → IsStepped g c → c.match-step.self-inside.course.steps ≡ length c.push.new.self.items
counted_on g c done =
    let written : c.push.new.self.items ≡ c.self.inside.journal.items ++ c.args.step ∷ [] = pushed g c ∙ ap (λ j. j.items ++ c.args.step ∷ []) done.journal in
    let longer : length c.push.new.self.items ≡ length c.self.inside.journal.items + 1 = ap length written ∙ length-append c.self.inside.journal.items (c.args.step ∷ []) in
    let count = done.count in
    let same = c.self.invariant.1 in
    omega (arith, count, same, longer)

pub invariant_of-self-2 : goal.invariant_of-self-2
invariant_of-self-2 g c =
    let done = stepped g c in (
      (
        kept_as (old g c) (new g c) c.args.step (vec_capacity c.self.inside.journal) (vec_capacity c.push.new.self) c.self.invariant.0.0 done.lawful (short g c) done.after (room_kept g c done.journal),
        done.writers,
        done.pending,
        done.readers,
        summed g c done,
        done.aside ∙ c.self.invariant.0.5 ∙ sym (ap count_lent done.lent),
      ),
      counted_on g c done,
    )

pub returns-clause-ok : goal.returns-clause-ok
returns-clause-ok g c = let done = stepped g c in rw (← c.self.view_is) (done.lawful, sym done.after)

pub overflow_add-sum : goal.overflow_add-sum
overflow_add-sum g c =
    let sum = (c.self.invariant.0.4).small in
    let short = (c.self.invariant.0.0).short in
    let below = c.number.ensures.below in
    omega (arith, sum, short, below)

-- ---- why it is refused, or not

pub returns-in_err-patch-in-Publish-clause-cause : goal.returns-in_err-patch-in-Publish-clause-cause
returns-in_err-patch-in-Publish-clause-cause g c =
    let world = c.world.ensures ∙ ap (λ (f : Fabric). f.world) c.self.view_is in
    memory_lacked (fabric_refusal c.args.self.now c.args.step) c.from_residual-in_err-patch-in-Publish.result
    (admitted c.args.self.now c.args.self.now.world c.args.step c.in-Publish.router c.in_ok-admits.ensures.cause refl c.in-Publish.is (subst (λ w. IsSome (due_at w c.in-Publish.router)) world c.in_err-patch-in-Publish.ensures.err))
    c.from_residual-in_err-patch-in-Publish.ensures.1

pub returns-in_err-publish-in-Some-clause-cause : goal.returns-in_err-publish-in-Some-clause-cause
returns-in_err-publish-in-Some-clause-cause g c =
    let D = due_refused g c in
    memory_lacked (fabric_refusal c.args.self.now c.args.step) c.from_residual-in_err-publish-in-Some.result
    (admitted c.args.self.now c.self.inside.course.world c.args.step c.in-Publish.router c.in_ok-admits.ensures.cause (ap (λ (f : Fabric). f.world) (sym c.self.view_is)) c.in-Publish.is (subst IsSome (sym D.due) refl))
    c.from_residual-in_err-publish-in-Some.ensures.1

pub unwrap-requires : goal.unwrap-requires
unwrap-requires g c =
    let w = c.self.inside.course.world in
    let i = c.in-Publish.router in
    let due = due_seen c.world.result.now w i c.waiting_at-waiting.result.now c.in_ok-patch-in-Publish.field-0 c.in-Some.patch c.world.ensures c.in-Some.is c.in_ok-patch-in-Publish.ensures.due in
    subst (λ o. MatchOption o (IsOk c.step_on.result) (λ e. c.step_on.result ≡ Err e)) (Lawful_to_refusal w (Publish i) (due_lawful w i due))
    (c.step_on.ensures.publication i refl)

pub invariant_of-self-in_err-step_on-in-None : goal.invariant_of-self-in_err-step_on-in-None
invariant_of-self-in_err-step_on-in-None g c =
    let s = c.self.inside in
    subst (λ (x : Course). FitTogether g.B.FabricName.openings x.network s.journal.items (vec_capacity s.journal) x.world s.desks.items s.readers.items s.sum s.set_aside × (x.steps ≡ length s.journal.items))
    (sym c.in_err-step_on-in-None.ensures.err) c.self.invariant

pub returns-in_err-step_on-in-None-clause-err : goal.returns-in_err-step_on-in-None-clause-err
returns-in_err-step_on-in-None-clause-err g c =
    let s = c.self.inside in
    gave_up c.from_residual-in_err-step_on-in-None.result
    (ap (λ (x : Course). fabric_seen g.B.FabricName.openings x.network s.journal.items x.world s.desks.items) c.in_err-step_on-in-None.ensures.err ∙ c.self.view_is)

pub returns-in_err-step_on-in-None-clause-cause : goal.returns-in_err-step_on-in-None-clause-cause
returns-in_err-step_on-in-None-clause-cause g c =
    passed_on c.args.self.now c.self.inside.course.world c.args.step (Publish c.in-Publish.router) c.from_residual-in_err-step_on-in-None.result c.in_err-step_on-in-None.field-0.0
    c.in_ok-admits.ensures.cause (ap (λ (f : Fabric). f.world) (sym c.self.view_is)) c.in-Publish.is c.in_err-step_on-in-None.ensures.cause
    (err_from_is_err_and c.from_residual-in_err-step_on-in-None.result c.from_residual-in_err-step_on-in-None.ensures.1)

pub invariant_of-self-in_err-step_on-in_default : goal.invariant_of-self-in_err-step_on-in_default
invariant_of-self-in_err-step_on-in_default g c =
    let s = c.self.inside in
    subst (λ (x : Course). FitTogether g.B.FabricName.openings x.network s.journal.items (vec_capacity s.journal) x.world s.desks.items s.readers.items s.sum s.set_aside × (x.steps ≡ length s.journal.items))
    (sym c.in_err-step_on-in_default.ensures.err) c.self.invariant

pub returns-in_err-step_on-in_default : goal.returns-in_err-step_on-in_default
returns-in_err-step_on-in_default g c =
    let s = c.self.inside in
    let failed = c.in_err-step_on-in_default.ensures in
    let p = err_from_is_err_and c.from_residual-in_err-step_on-in_default.result c.from_residual-in_err-step_on-in_default.ensures.1 in
    record {
      ok = not_ok _ c.from_residual-in_err-step_on-in_default.result p.1;
      err = gave_up c.from_residual-in_err-step_on-in_default.result
          (ap (λ (x : Course). fabric_seen g.B.FabricName.openings x.network s.journal.items x.world s.desks.items) failed.err ∙ c.self.view_is);
      cause = passed_on c.args.self.now s.course.world c.args.step c.args.step c.from_residual-in_err-step_on-in_default.result c.in_err-step_on-in_default.field-0.0
          c.in_ok-admits.ensures.cause (ap (λ (f : Fabric). f.world) (sym c.self.view_is)) refl failed.cause p;
      stale = λ _ i h is at old. absurd (false≢true (failed.stale i h is (ap (λ (f : Fabric). release_at f.world i) c.self.view_is ∙ at) (ap (λ (f : Fabric). is_stale f.world i h) c.self.view_is ∙ old)));
      room = λ _ i q is lawful. gave_up c.from_residual-in_err-step_on-in_default.result
          (subst (λ v. DeliveryNeedsMemory v i q) (ap (λ (f : Fabric). f.world) c.self.view_is) (failed.room i q is (ap (λ (f : Fabric). refusal f.world c.args.step) c.self.view_is ∙ lawful)));
      down = λ l is. subst (λ o. MatchOption o (IsOk c.from_residual-in_err-step_on-in_default.result) (λ e. c.from_residual-in_err-step_on-in_default.result ≡ Err e))
          (sym (c.in_ok-admits.ensures.cause ∙ ap (λ (f : Fabric). refusal f.world c.args.step) (sym c.self.view_is) ∙ only_cause (Unit {0}) (refusal s.course.world c.args.step) c.in_err-step_on-in_default.field-0.0 (failed.down l is)))
          (p.1 ∙ ap Err p.2);
    }

-- the journal has not moved
journal_same : (g : given.Over) (c : goal.After-push g) → c.match-step.self-inside.journal ≡ c.self.inside.journal
journal_same g c = elim c.match-step.branch [
  | in-Publish+in_ok-patch-in-Publish+in-Some+in_ok-publish-in-Some w ↦ ap (λ s. s.journal) w.self-inside-is
  | in-Publish+in_ok-patch-in-Publish+in-None+in_ok-step_on-in-None w ↦ ap (λ s. s.journal) w.self-inside-is
  | in_default+in_ok-step_on-in_default w ↦ ap (λ s. s.journal) w.self-inside-is
]

pub unwrap-requires-2 : goal.unwrap-requires-2
unwrap-requires-2 g c =
    let journal = c.self.inside.journal in
    let short = subst (λ (f : Fabric). length f.journal + count_lent f.lent < most_steps) (sym c.self.view_is) c.in_ok-admits.ensures.place in
    let room : most_steps ≤ vec_capacity journal = c.self.invariant.0.0.room in
    let within : vec_len journal < vec_capacity journal = omega (arith, short, room, journal.ok.0) in
    c.push.ensures.succeeds (subst (λ j. vec_len j < vec_capacity j) (sym (journal_same g c)) within)

-- the fabric had no cause to refuse the step
uncaused : (g : given.Over) (c : goal.After-unwrap-2 g) → fabric_refusal c.args.self.now c.args.step ≡ None
uncaused g c = c.in_ok-admits.ensures.cause ∙ Lawful_to_refusal c.args.self.now.world c.args.step (subst (λ (f : Fabric). Lawful f.world c.args.step) c.self.view_is (stepped g c).lawful)

pub returns-clause-cause : goal.returns-clause-cause
returns-clause-cause g c = not_caused (fabric_refusal c.args.self.now c.args.step) tt (uncaused g c)

pub returns-clause-down : goal.returns-clause-down
returns-clause-down g c l is = subst (λ o. MatchOption o (IsOk {E = Refusal} (Ok (tt {0}))) (λ e. ◌≡◌ {A = Result (Unit {0}) Refusal} (Ok (tt {0})) (Err e))) (sym (uncaused g c)) refl
