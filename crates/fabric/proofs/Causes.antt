-- What is due, and what a call answers that gave up, or did not.
use Rattle.std.proofs.Common.{refl, sym, ap, subst, ◌∙◌, ◌≡◌, ℕ, ◌<◌, List, length, true, false, Option, Some, None, IsSome, Result, Err, slice_get}
use Rattle.no_packet_loops.proofs.Common.{false≢true, slice_get_within, Prefix, Refusal, World, refusal, Lawful_to_refusal, Step, Publish}
use Rattle.world.specs.Steps.{IsDoneOr}
use Rattle.image_patch.specs.declared.Patch.{Patch as PatchFields}
use Rattle.course.specs.Images.{due_at}
use Rattle.course.proofs.Images.{due_lawful}
use Rattle.fabric.specs.{Fabric.Fabric, Fabric.fabric_refusal, Patches.IsPatchDue}

-- where a patch is due, nothing refuses the step that publishes it, once the fabric admits it
pub admitted : (f : Fabric) (w : World) (s : Step) (i : ℕ) → fabric_refusal f s ≡ refusal f.world s → f.world ≡ w → s ≡ Publish i → IsSome (due_at w i) → fabric_refusal f s ≡ None
admitted f w s i cause worlds publishes due = cause ∙ ap (λ v. refusal v s) worlds ∙ ap (refusal w) publishes ∙ Lawful_to_refusal w (Publish i) (due_lawful w i due)

-- a patch that was found is due
pub due_seen : {A : Type 0} (w v : World) (i : ℕ) (waiting : List Prefix) (o : Option (PatchFields A)) (patch : PatchFields A) → w ≡ v → o ≡ Some patch → IsPatchDue w i waiting o → IsSome (due_at v i)
due_seen w v i waiting o patch worlds some due =
    let is : IsPatchDue w i waiting (Some patch) = subst (IsPatchDue w i waiting) some due in
    subst (λ u. IsSome (due_at u i)) worlds (subst IsSome (sym is.2) refl)

-- an element at a place that is not below the list's length is not there
pub nothing_at : {A : Type 0} (xs : List A) (i : ℕ) → (i < length xs → false ≡ true) → slice_get xs i ≡ None
nothing_at {A} xs i out = by_case (slice_get xs i) refl
  where
    by_case : (o : Option A) → slice_get xs i ≡ o → o ≡ None
    by_case None at = refl
    by_case (Some x) at = absurd (false≢true (out (slice_get_within xs i x at)))

-- a call that passes on why a step of the world was refused
pub passed_on : {X : Type 0} (f : Fabric) (w : World) (s t : Step) (r : Result X Refusal) (e : Refusal) → fabric_refusal f s ≡ refusal f.world s → f.world ≡ w → s ≡ t → IsDoneOr {X = X} (refusal w t) (Err e)
    → (x : Refusal) × (r ≡ Err x) × (x ≡ e) → IsDoneOr (fabric_refusal f s) r
passed_on {X} f w s t r e cause worlds is failed found =
    subst (IsDoneOr (fabric_refusal f s)) (sym (found.1 ∙ ap Err found.2))
    (subst (λ o. IsDoneOr {X = X} o (Err e)) (sym (cause ∙ ap (λ v. refusal v s) worlds ∙ ap (refusal w) is)) failed)
