-- The images that writers show are those in force.
use Rattle.std.proofs.Common.{refl, sym, ap, subst, ◌∙◌, ◌≡◌, ℕ, List, length, Option, Some, None, IfSome, slice_get, option_map}
use Rattle.no_packet_loops.proofs.Common.{slice_get-map, Prefix, Entry, Router, World, Image, answer_of, None_not_Some, Some_injective}
use Rattle.publication.specs.{declared.known.Known.Known, Lists.Writing, Lists.generation_of, Lists.image_of}
use Rattle.course.specs.Images.{image_in_force, images_in_force}
use Rattle.fabric.specs.{Images.answer_at, Writers.shown_images}

module _ (openings : List (List (Prefix × Entry))) (w : World) (writers : List Writing) (shown : shown_images openings writers ≡ images_in_force w) (i : ℕ) (x : Writing) (there : slice_get writers i ≡ Some x) where
  -- a writer's router is there, and has the writer's image in force
  pub router_of : (r : Router) × (slice_get w.routers i ≡ Some r) × (image_of openings x.published ≡ image_in_force r)
  router_of = by_router (slice_get w.routers i) refl
      (sym (ap (option_map (λ (y : Writing). image_of openings y.published)) there) ∙ sym (slice_get-map (λ (y : Writing). image_of openings y.published) writers i) ∙ ap (λ images. slice_get images i) shown ∙ slice_get-map image_in_force w.routers i)
    where
      by_router : (o : Option Router) → slice_get w.routers i ≡ o → Some (image_of openings x.published) ≡ option_map image_in_force o → (r : Router) × (slice_get w.routers i ≡ Some r) × (image_of openings x.published ≡ image_in_force r)
      by_router None at same = absurd (None_not_Some (sym same))
      by_router (Some r) at same = (r, at, Some_injective same)

  -- and the writer's list has as many publications as its router has made
  pub list_is_last : (told : Known) → told ≡ x.published → length told.publications ≡ generation_of told → IfSome (slice_get w.routers i) (λ r. length told.publications ≡ r.generation)
  list_is_last told is counted =
      subst (λ o. IfSome o (λ (r : Router). length told.publications ≡ r.generation)) (sym router_of.1)
      (counted ∙ ap (λ (k : Known). generation_of k) is ∙ ap (λ (image : Image). image.generation) router_of.2)

-- what images in force answer is what their routers do
pub answer_shown : (w : World) (images : List Image) → images ≡ images_in_force w → (i : ℕ) (image : Image) → slice_get images i ≡ Some image → (addr : ℕ) → answer_at w i addr ≡ Some (answer_of image addr)
answer_shown w images same i image at addr = by_router (slice_get w.routers i) (sym at ∙ ap (λ xs. slice_get xs i) same ∙ slice_get-map image_in_force w.routers i)
  where
    by_router : (o : Option Router) → Some image ≡ option_map image_in_force o → option_map (λ r. answer_of (image_in_force r) addr) o ≡ Some (answer_of image addr)
    by_router None none = absurd (None_not_Some (sym none))
    by_router (Some r) is = ap (λ x. Some (answer_of x addr)) (sym (Some_injective is))
