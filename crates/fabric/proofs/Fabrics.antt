-- What a step leaves of what every fabric keeps.
use Rattle.std.proofs.Common.{sym, ap, subst, ◌∙◌, arith, length-append, ◌≡◌, ℕ, ◌+◌, ◌*◌, ◌^◌, ◌<◌, ◌≤◌, List, [], ◌∷◌, ◌++◌, map, length, set, Option, Some, refl, slice_get}
use Rattle.no_packet_loops.proofs.Common.{AllByRecursion, range_with_len, length-map, sum_by_push, slice_get_within, Router, World, Network, opening, Lawful, next, Runs, Image, Patch, Step, Publish, Fits, most_steps, step_number, journal_sum}
use Rattle.world.specs.Steps.{HasRoomForSteps}
use Rattle.world.proofs.Runs.{with_last_step, run-room, opening-room}
use Rattle.course.specs.Images.{image_in_force, images_in_force, chosen_image, due_at}
use Rattle.course.proofs.Images.{chosen_published, images_due as images_put, images_stay as images_left}
use Rattle.fabric.specs.Fabric.{Fabric, fabric_of, after_step, count_lent, with_lent, IsFabric, IsSumOf}

-- the journal is too short for a generation to pass 64 bits
pub room_left : (f : Fabric) (capacity : ℕ) → IsFabric f capacity → HasRoomForSteps 1 f.world
room_left f capacity kept = run-room f.journal 1 (opening f.network) f.world kept.runs (opening-room (length f.journal + 1) f.network (omega (arith, kept.short)))

-- ---- the images in force

-- a router that is there has an image
pub image_at : (f : Fabric) (capacity : ℕ) → IsFabric f capacity → (i : ℕ) (r : Router) → slice_get f.world.routers i ≡ Some r → i < length f.images
image_at f capacity kept i r at =
    subst (λ xs. i < length xs) (sym kept.in_force)
    (subst (λ n. i < n) (sym (length-map f.world.routers image_in_force)) (slice_get_within f.world.routers i r at))

-- a network at its opening, with the images of what its routers chose
pub kept_at_opening : (n : Network) (journal : List Step) (w : World) (images : List Image) (lent : List (Option Patch)) (capacity : ℕ) → journal ≡ [] → w ≡ opening n → images ≡ map chosen_image w.routers → count_lent lent ≡ 0
    → most_steps ≤ capacity → IsFabric (fabric_of n journal w images lent) capacity
kept_at_opening n journal w images lent capacity none opened chosen all_in room = record {
  runs = subst (λ ss. Runs (opening n) ss w) (sym none) (sym opened);
  short = (let empty : length journal ≡ 0 = ap length none in omega (arith, empty, all_in));
  room = room;
  in_force = chosen ∙ ap (λ (v : World). map chosen_image v.routers) opened ∙ chosen_published n (range_with_len 0 n.routers) ∙ sym (ap (λ (v : World). map image_in_force v.routers) opened);
}

-- ---- one step more

-- a step leaves it
kept_after : (f : Fabric) (s : Step) (capacity : ℕ) → IsFabric f capacity → Lawful f.world s → length f.journal + count_lent f.lent < most_steps → IsFabric (after_step f s) capacity
kept_after f s capacity kept lawful short = record {
  runs = with_last_step (opening f.network) f.journal f.world s kept.runs lawful;
  short = (let longer : length (f.journal ++ s ∷ []) ≡ length f.journal + 1 = length-append f.journal (s ∷ []) in omega (arith, longer, short));
  room = kept.room;
  in_force = refl;
}

-- the images stay at a step that is no publication
pub images_stay : (f : Fabric) (s : Step) (capacity : ℕ) → IsFabric f capacity → ((i : ℕ) → s ≡ Publish i → ⊥) → images_in_force (next f.world s) ≡ f.images
images_stay f s capacity kept other = images_left f.world s other ∙ sym kept.in_force

-- a publication puts the image that was due in force
pub images_due : (f : Fabric) (i : ℕ) (capacity : ℕ) (image : Image) → IsFabric f capacity → Lawful f.world (Publish i) → due_at f.world i ≡ Some image → images_in_force (next f.world (Publish i)) ≡ set f.images i image
images_due f i capacity image kept lawful due = sym (ap (λ xs. set xs i image) kept.in_force ∙ images_put f.world i lawful.0 image lawful.1 due)

-- so what is made of the parts after the step is the fabric after it, and keeps what every fabric keeps
pub kept_as : (f g : Fabric) (s : Step) (capacity more : ℕ) → IsFabric f capacity → Lawful f.world s → length f.journal + count_lent f.lent < most_steps → after_step f s ≡ g → capacity ≤ more → IsFabric g more
kept_as f g s capacity more kept lawful short same room =
    let after = kept_after f s capacity kept lawful short in
    subst (λ (x : Fabric). IsFabric x more) same (record { runs = after.runs; short = after.short; room = (let enough : most_steps ≤ capacity = kept.room in omega (arith, enough, room)); in_force = refl })

-- what a writer that goes out or comes back leaves, where the journal has a place for it
pub kept_lent : (f : Fabric) (i : ℕ) (l : Option Patch) (capacity : ℕ) → IsFabric f capacity → length f.journal + count_lent (set f.lent i l) ≤ most_steps → IsFabric (with_lent f i l) capacity
kept_lent f i l capacity kept short = record { runs = kept.runs; short = short; room = kept.room; in_force = kept.in_force }

-- ---- the sum of the journal

pub summed_none : (journal : List Step) → journal ≡ [] → IsSumOf journal 0
summed_none journal none = record {
  is = sym (ap journal_sum none);
  small = omega arith;
  fit = subst (AllByRecursion Fits) (sym none) tt;
}

-- the steps of two lists fit where those of each do
pub fit-append : (ss ts : List Step) → AllByRecursion Fits ss → AllByRecursion Fits ts → AllByRecursion Fits (ss ++ ts)
fit-append [] ts fit later = later
fit-append (s ∷ ss) ts fit later = (fit.0, fit-append ss ts fit.1 later)

-- one step more adds its number
pub summed_more : (before : List Step) (s : Step) (after : List Step) (sum number : ℕ) → IsSumOf before sum → number ≡ step_number s → number < 2 ^ 105 → Fits s → after ≡ before ++ s ∷ [] → IsSumOf after (sum + number)
summed_more before s after sum number summed numbered below fits is =
    let added : journal_sum after ≡ journal_sum before + step_number s = ap journal_sum is ∙ sum_by_push step_number before s in
    let longer : length after ≡ length before + 1 = ap length is ∙ length-append before (s ∷ []) in
    let old : sum ≡ journal_sum before = summed.is in
    let small : sum ≤ length before * 2 ^ 105 = summed.small in
    record {
      is = omega (arith, added, old, numbered);
      small = omega (arith, longer, small, below);
      fit = subst (AllByRecursion Fits) (sym is) (fit-append before (s ∷ []) summed.fit (fits, tt));
    }
