-- A simulation is its course, with the images in force that its world says.
use Rattle.std.proofs.Common.{refl, sym, ap, ◌∙◌, ◌≡◌, List, [], ◌∷◌, ◌++◌, map}
use Rattle.no_packet_loops.proofs.Common.{range_with_len, World, Network, opening, Image, Step}
use Rattle.course.specs.{Course.Course, Course.opening_course, Course.course_after_all, Images.images_in_force, Images.chosen_image}
use Rattle.simulation.specs.Simulation.{Simulation, after_step, after_steps, course_part, opening_simulation, with_images, IsSimulation}
use Rattle.course.proofs.Images.{chosen_published}

-- ---- the images in force

pub images_opened : (n : Network) (w : World) (images : List Image) → w ≡ opening n → images ≡ map chosen_image w.routers → images ≡ images_in_force w
images_opened n w images opened chosen =
    chosen ∙ ap (λ (v : World). map chosen_image v.routers) opened ∙ chosen_published n (range_with_len 0 n.routers) ∙ sym (ap images_in_force opened)

-- so it is the simulation of a network at its opening
pub is_opening : (n : Network) (c : Course) (images : List Image) → c ≡ opening_course n → images ≡ images_in_force c.world → with_images c images ≡ opening_simulation n
is_opening n c images opened shown = ap (with_images c) shown ∙ ap (λ (x : Course). with_images x (images_in_force x.world)) opened

-- ---- steps

pub after_push : (s : Simulation) (xs : List Step) (x : Step) → after_steps s (xs ++ x ∷ []) ≡ after_step (after_steps s xs) x
after_push s [] x = refl
after_push s (y ∷ ys) x = after_push (after_step s y) ys x

-- the course after these steps, with the images in force there
abbrev shown_after : Simulation → List Step → Simulation
shown_after s ss = with_images (course_after_all (course_part s) ss) (images_in_force (course_after_all (course_part s) ss).world)

after_shown : (s : Simulation) (ss : List Step) → IsSimulation s → after_steps s ss ≡ shown_after s ss
after_shown s [] kept = ap (with_images (course_part s)) kept
after_shown s (x ∷ xs) kept = after_shown (after_step s x) xs refl

-- where the course did these steps, so did the simulation
pub after_course : (old new : Simulation) (ss : List Step) → IsSimulation old → IsSimulation new → course_part new ≡ course_after_all (course_part old) ss → new ≡ after_steps old ss
after_course old new ss was kept is =
    ap (with_images (course_part new)) kept ∙ ap (λ (c : Course). with_images c (images_in_force c.world)) is ∙ sym (after_shown old ss was)
