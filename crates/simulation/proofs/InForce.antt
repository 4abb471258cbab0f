-- What a step does to the images of the code.
use Rattle.std.proofs.Common.{refl, sym, ap, subst, ◌∙◌, ◌≡◌, ℕ, List, set, Option, Some, IsSome, Result, Ok, Err, OnOk, OnErr, slice_get}
use Rattle.no_packet_loops.proofs.Common.{Refusal, World, Lawful, next, Image, Step, Publish}
use Rattle.image_patch.specs.{declared.Patch.Patch as PatchFields, Patches.patched}
use Rattle.course.specs.{Course.Course, Course.course_after, Images.image_in_force, Images.images_in_force}
use Rattle.course.proofs.Images.{due_lawful, image_is, images_due, images_stay}
use Rattle.simulation.specs.Patches.{IsImagePatchDue}

-- the patch that is due, of a world that was read
pub due_there : {A : Type 0} (w v : World) (i : ℕ) (o : Option (PatchFields A)) (patch : PatchFields A) → v ≡ w → o ≡ Some patch → IsImagePatchDue v i o → IsImagePatchDue w i (Some patch)
due_there w v i o patch worlds some due = subst (λ u. IsImagePatchDue u i (Some patch)) worlds (subst (IsImagePatchDue v i) some due)

-- so the router may publish
pub patch_lawful : {A : Type 0} (w : World) (i : ℕ) (patch : PatchFields A) → IsImagePatchDue w i (Some patch) → Lawful w (Publish i)
patch_lawful w i patch due = due_lawful w i (subst IsSome (sym due.2) refl)

-- and the image that is patched is in force once it has
pub published_shown : {A : Type 0} (w v : World) (i k : ℕ) (images : List Image) (old new : Image) (patch : PatchFields A) → IsImagePatchDue w i (Some patch) → images ≡ images_in_force w → k ≡ i
    → slice_get images i ≡ Some old → new ≡ patched patch.generation patch.rows.items old → v ≡ next w (Publish i) → set images k new ≡ images_in_force v
published_shown w v i k images old new patch due shown place here is world =
    let image : new ≡ patched patch.generation patch.rows.items (image_in_force due.0) = is ∙ ap (patched patch.generation patch.rows.items) (image_is w i due.0 images old due.1 shown here) in
    ap (λ xs. set xs k new) shown ∙ ap (λ j. set (images_in_force w) j new) place ∙ ap (set (images_in_force w) i) image ∙ images_due w i due.0 _ due.1 due.2 ∙ sym (ap images_in_force world)

-- a step that is no publication leaves them, whether it is done or refused
pub stays : (c d : Course) (s : Step) (images : List Image) (r : Result (Unit {0}) Refusal) → images ≡ images_in_force c.world → ((i : ℕ) → s ≡ Publish i → ⊥) → OnOk r (Lawful c.world s × (d ≡ course_after c s)) → OnErr r (d ≡ c)
    → images ≡ images_in_force d.world
stays c d s images (Ok x) shown other done failed = shown ∙ sym (images_stay c.world s other) ∙ sym (ap (λ (x : Course). images_in_force x.world) done.1)
stays c d s images (Err e) shown other done failed = shown ∙ sym (ap (λ (x : Course). images_in_force x.world) failed)
