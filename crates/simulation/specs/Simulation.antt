-- A network that runs, with an image in force at each router, and how many steps made it what it is.
use Rattle.std.specs.Prelude.{◌≡◌, ℕ, ◌+◌, List, [], ◌∷◌, length, Option, Some, option_map, slice_get}
use Rattle.ipv4_prefix.specs.LongestMatch.{longest_match}
use Rattle.network_model.specs.{declared.route.Answer.Answer, declared.step.Step.Step, declared.step.Refusal.Refusal, Step.next, Publication.Image, Publication.image_answer, Publication.answer_of}
use Rattle.network_model.specs.World.{Network, Router, World, opening}
use Rattle.course.specs.{declared.sent.Sent.Sent, Images.images_in_force, Counts.leaving, Counts.none_sent, Counts.with_sent, Course.Course, Course.course_of, Course.course_refusal}

-- the network that was opened, the world that the steps made, the image in force at each router, how many steps were done, and how many messages of each kind they put on links
pub record Simulation : Type 0 where
  pub network : Network
  pub world : World
  pub images : List Image
  pub steps : ℕ
  pub sent : Sent

-- a simulation of its parts
abbrev pub simulation_of : Network → World → List Image → ℕ → Sent → Simulation
simulation_of network world images steps sent = record { network = network; world = world; images = images; steps = steps; sent = sent }

-- the course that it is at
abbrev pub course_part : Simulation → Course
course_part s = course_of s.network s.world s.steps s.sent

-- a course, with these images in force
abbrev pub with_images : Course → List Image → Simulation
with_images c images = simulation_of c.network c.world images c.steps c.sent

-- a network at its opening
abbrev pub opening_simulation : Network → Simulation
opening_simulation n = simulation_of n (opening n) (images_in_force (opening n)) 0 none_sent

-- with one more step done
abbrev pub after_step : Simulation → Step → Simulation
after_step s step = simulation_of s.network (next s.world step) (images_in_force (next s.world step)) (s.steps + 1) (with_sent (leaving s.world step) s.sent)

-- with these steps done, one after another
abbrev pub after_steps : Simulation → List Step → Simulation
after_steps s [] = s
after_steps s (x ∷ xs) = after_steps (after_step s x) xs

-- why a step is refused: the count of steps, of 64 bits, is full; or as the world refuses it
abbrev pub simulation_refusal : Simulation → Step → Option Refusal
simulation_refusal s step = course_refusal (course_part s) step

-- what the image in force at router i answers for an address; nothing where there is no such router
abbrev pub answer_at : Simulation → ℕ → ℕ → Option Answer
answer_at s i addr = option_map (λ image. answer_of image addr) (slice_get s.images i)

-- each router has an image, which has the rows that the router published and answers every address with the longest match over them, and has the generation of that publication
pub record ForwardsAsPublished (s : Simulation) : Type 0 where
  pub every_router : length s.images ≡ length s.world.routers
  pub rows : (i : ℕ) (r : Router) (image : Image) → slice_get s.world.routers i ≡ Some r → slice_get s.images i ≡ Some image → image.rows ≡ (r.table).published
  pub longest : (i : ℕ) (r : Router) (image : Image) → slice_get s.world.routers i ≡ Some r → slice_get s.images i ≡ Some image → (addr : ℕ) → image_answer image addr ≡ longest_match addr (r.table).published
  pub generation : (i : ℕ) (r : Router) (image : Image) → slice_get s.world.routers i ≡ Some r → slice_get s.images i ≡ Some image → image.generation ≡ r.generation

-- what every simulation keeps besides what its course does: each image in force is of what its router published
abbrev pub IsSimulation : Simulation → Type 0
IsSimulation s = s.images ≡ images_in_force s.world
