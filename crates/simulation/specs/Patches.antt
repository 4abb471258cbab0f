-- What a publication sets in an image.
use Rattle.std.specs.Prelude.{◌≡◌, ℕ, Option, Some, None, slice_get}
use Rattle.network_model.specs.World.{Router, World}
use Rattle.image_patch.specs.{declared.Patch.Patch, Patches.patched}
use Rattle.course.specs.Images.{due_at, image_in_force}

-- the patch is the one by which router i would publish: it makes of the image in force the one that is due; none where its publication would be refused
abbrev pub IsImagePatchDue : {A : Type 0} → World → ℕ → Option (Patch A) → Type 0
IsImagePatchDue w i None = due_at w i ≡ None
IsImagePatchDue w i (Some patch) = (r : Router) × (slice_get w.routers i ≡ Some r) × (due_at w i ≡ Some (patched patch.generation patch.rows.items (image_in_force r)))
