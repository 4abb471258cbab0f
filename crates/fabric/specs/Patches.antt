-- What a publication sets in an image.
use Rattle.std.specs.Prelude.{◌≡◌, ℕ, ◌||◌, not, List, filter, Option, Some, None, slice_get}
use Rattle.std.specs.List.{list_any}
use Rattle.ipv4_prefix.specs.Prefix.{Prefix, prefix_eq}
use Rattle.network_model.specs.{declared.route.Entry.Entry, World.Router, World.Table, World.World, Step.has_row}
use Rattle.image_patch.specs.{declared.Patch.Patch, Patches.patched}
use Rattle.course.specs.Images.{image_in_force, due_at}

-- the rows that a publication names: the chosen rows that differ from those in force, and those of the prefixes that wait
abbrev pub rows_to_set : Table → List Prefix → List (Prefix × Entry)
rows_to_set t waiting = filter (λ r. not (has_row t.published r) || list_any (λ p. prefix_eq p r.0) waiting) t.control

-- the patch is the one by which router i would publish, while these prefixes wait: it makes of the image in force the one that is due; none where its publication would be refused
abbrev pub IsPatchDue : {A : Type 0} → World → ℕ → List Prefix → Option (Patch A) → Type 0
IsPatchDue w i waiting None = due_at w i ≡ None
IsPatchDue w i waiting (Some patch) = (r : Router) × (slice_get w.routers i ≡ Some r) × (due_at w i ≡ Some (patched patch.generation patch.rows.items (image_in_force r)))
    × (patch.rows.items ≡ rows_to_set (r.table) waiting)
