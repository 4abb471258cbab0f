-- What a step does to the images in force.
use Rattle.std.proofs.Common.{refl, sym, ap, subst, ◌∙◌, ◌≡◌, ℕ, zero, suc, ◌<◌, Bool, true, false, cond, List, [], ◌∷◌, map, length, set, Option, Some, None, IsSome, slice_get, get_or, option_map, option_and_then}
use Rattle.no_packet_loops.proofs.Common.{false≢true, length-map, slice_get_read, slice_get_within, slice_get-map, map-changed_at, changed_at, Item, End, Link, Router, World, Network, opening_router_of, Lawful, next, is_due, changed_router, changed_link, with_cost, with_front_taken, with_message, with_delivered, with_noticed, with_notice_taken, with_released, front_at, notice_at, release_at, changed_attachments, router_accepting, router_at_home, router_publishing, router_releasing, Image, option_map_or-ind, None_not_Some, Some_injective, routers-changed_link, Step, SetCost, Deliver, Publish, Release}
use Rattle.course.specs.Images.{chosen_image, due_at, image_in_force, images_in_force}

-- ---- a step that is no publication

images-changed_link : (i q : ℕ) (f : End → Link → Link) (w : World) → images_in_force (changed_link i q f w) ≡ images_in_force w
images-changed_link i q f w = ap (map image_in_force) (routers-changed_link i q f w)

images-changed_router : (i : ℕ) (f : Router → Router) (w : World) → ((r : Router) → image_in_force (f r) ≡ image_in_force r) → images_in_force (changed_router i f w) ≡ images_in_force w
images-changed_router i f w same = map-changed_at f image_in_force i w.routers (λ r _. same r)

image-accepting : (q : ℕ) (item : Item) (r : Router) → image_in_force (router_accepting q item r) ≡ image_in_force r
image-accepting q (Item.Up session cost) r = refl
image-accepting q _ r = refl

-- it puts no other image in force
pub images_stay : (w : World) (s : Step) → ((i : ℕ) → s ≡ Publish i → ⊥) → images_in_force (next w s) ≡ images_in_force w
images_stay w s other = by_step s other
  where
    by_step : (s : Step) → ((i : ℕ) → s ≡ Publish i → ⊥) → images_in_force (next w s) ≡ images_in_force w
    by_step (SetCost i q cost) _ = images-changed_link i q (with_cost cost) w
    by_step (Deliver i q) _ = option_map_or-ind (λ v. images_in_force v ≡ images_in_force w) (with_delivered i q w) (front_at w i q) _
        (option_map_or-ind (λ v. images_in_force v ≡ images_in_force w) (with_noticed i w) (notice_at w i q) w refl
        (λ x _. images-changed_router i (router_at_home x) (changed_attachments i with_notice_taken w) (λ _. refl)))
        (λ item _. images-changed_router i (router_accepting q item) (changed_link i q with_front_taken w) (image-accepting q item) ∙ images-changed_link i q with_front_taken w)
    by_step (Publish i) other = absurd (other i refl)
    by_step (Release i) _ = option_map_or-ind (λ v. images_in_force v ≡ images_in_force w) (with_released i w) (release_at w i) w refl
        (λ h _. images-changed_router i router_releasing (changed_link i h.port (with_message h) w) (λ _. refl) ∙ images-changed_link i h.port (with_message h) w)
    by_step _ _ = refl

-- ---- a publication

-- it puts its router's in force
images-published : (i : ℕ) (rs : List Router) (r : Router) → slice_get rs i ≡ Some r → set (map image_in_force rs) i (image_in_force (router_publishing r)) ≡ map image_in_force (changed_at i router_publishing rs)
images-published i [] r none = absurd (None_not_Some none)
images-published zero (x ∷ xs) r here = ap (λ y. image_in_force (router_publishing y) ∷ map image_in_force xs) (sym (Some_injective here))
images-published (suc i) (x ∷ xs) r there = ap (λ ys. image_in_force x ∷ ys) (images-published i xs r there)

-- what a router publishes next, where something is due
abbrev next_image : Router → Option Image
next_image r = cond (is_due r) (Some (image_in_force (router_publishing r))) None

-- where an image is due, it is that of what the router has chosen
pub due_is : (w : World) (i : ℕ) (r : Router) (image : Image) → slice_get w.routers i ≡ Some r → due_at w i ≡ Some image → image ≡ image_in_force (router_publishing r)
due_is w i r image at due = by_test (is_due r) (sym (ap (option_and_then next_image) at) ∙ due)
  where
    by_test : (b : Bool) → cond b (Some (image_in_force (router_publishing r))) None ≡ Some image → image ≡ image_in_force (router_publishing r)
    by_test true is = sym (Some_injective is)
    by_test false is = absurd (None_not_Some is)

-- the image that was due is the one that it puts in force
pub images_due : (w : World) (i : ℕ) (r : Router) (image : Image) → slice_get w.routers i ≡ Some r → due_at w i ≡ Some image → set (images_in_force w) i image ≡ images_in_force (next w (Publish i))
images_due w i r image at due = ap (set (images_in_force w) i) (due_is w i r image at due) ∙ images-published i w.routers r at

-- the image of a router that is there
pub image_at : (w : World) (i : ℕ) (r : Router) → slice_get w.routers i ≡ Some r → slice_get (images_in_force w) i ≡ Some (image_in_force r)
image_at w i r at = slice_get-map image_in_force w.routers i ∙ ap (option_map image_in_force) at

-- the image that is due at a router which has something to publish
pub due_image : (w : World) (i : ℕ) (r : Router) → slice_get w.routers i ≡ Some r → is_due r ≡ true → due_at w i ≡ Some (image_in_force (router_publishing r))
due_image w i r at is = ap (option_and_then next_image) at ∙ ap (λ b. cond b (Some (image_in_force (router_publishing r))) None) is

-- the same of a router that was read in a list of all
pub due_read : (w : World) {rs : List Router} {i k : ℕ} {r : Router} {b : Bool} → rs ≡ w.routers → k ≡ i → k < length rs → r ≡ get_or rs k r → b ≡ is_due r → b ≡ true
    → (slice_get w.routers i ≡ Some r) × (due_at w i ≡ Some (image_in_force (router_publishing r)))
due_read w {rs} {i} {k} {r} routers place within read tells is =
    let there : slice_get w.routers i ≡ Some r = ap (λ xs. slice_get xs i) (sym routers) ∙ ap (slice_get rs) (sym place) ∙ slice_get_read rs (length rs) k r refl within read in
    (there, due_image w i r there (sym tells ∙ is))

-- where an image is due, the router may publish
pub due_lawful : (w : World) (i : ℕ) → IsSome (due_at w i) → Lawful w (Publish i)
due_lawful w i due = by_router (slice_get w.routers i) refl due
  where
    by_due : (r : Router) (b : Bool) → IsSome (cond b (Some (image_in_force (router_publishing r))) None) → b ≡ true
    by_due r true _ = refl
    by_due r false none = absurd (false≢true none)

    by_router : (o : Option Router) → slice_get w.routers i ≡ o → IsSome (option_and_then next_image o) → Lawful w (Publish i)
    by_router None at none = absurd (false≢true none)
    by_router (Some r) at some = (r, at, by_due r (is_due r) some)

-- and where it may, that is the image that is due
pub due_of : (w : World) (i : ℕ) → Lawful w (Publish i) → (r : Router) × (slice_get w.routers i ≡ Some r) × (due_at w i ≡ Some (image_in_force (router_publishing r)))
due_of w i lawful = (lawful.0, lawful.1, due_image w i lawful.0 lawful.1 lawful.2)

-- ---- a list of images that are in force

-- each router that is there has an image
pub has_image : (w : World) (i : ℕ) (r : Router) (images : List Image) → slice_get w.routers i ≡ Some r → images ≡ images_in_force w → i < length images
has_image w i r images at shown =
    subst (λ xs. i < length xs) (sym shown) (subst (λ n. i < n) (sym (length-map w.routers image_in_force)) (slice_get_within w.routers i r at))

-- it is of what the router published
pub image_is : (w : World) (i : ℕ) (r : Router) (images : List Image) (image : Image) → slice_get w.routers i ≡ Some r → images ≡ images_in_force w → slice_get images i ≡ Some image → image ≡ image_in_force r
image_is w i r images image at shown here = Some_injective (sym here ∙ ap (λ xs. slice_get xs i) shown ∙ image_at w i r at)

-- ---- the opening

-- each router has published what it chose
pub chosen_published : (n : Network) (is : List ℕ) → map chosen_image (map (opening_router_of n) is) ≡ map image_in_force (map (opening_router_of n) is)
chosen_published n [] = refl
chosen_published n (i ∷ is) = ap (λ xs. image_in_force (opening_router_of n i) ∷ xs) (chosen_published n is)
