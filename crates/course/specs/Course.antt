-- A network that runs: the steps that were done made its world, and are counted.
use Rattle.std.specs.Prelude.{◌≡◌, ℕ, ◌+◌, ◌^◌, ◌<◌, ◌≤◌, nat_lt, if◌then◌else◌, List, [], ◌∷◌, length, Option, Some}
use Rattle.network_model.specs.{declared.step.Step.Step, declared.step.Refusal.Refusal, World.Network, World.World, World.opening, Step.next, Step.refusal, Run.Runs}
use Rattle.course.specs.declared.sent.Sent.{Sent}
use Rattle.course.specs.Counts.{leaving, none_sent, sent_count, with_sent}

-- the network that was opened, the world that the steps made, how many steps were done, and how many messages of each kind they put on links
pub record Course : Type 0 where
  pub network : Network
  pub world : World
  pub steps : ℕ
  pub sent : Sent

-- a course of its parts
abbrev pub course_of : Network → World → ℕ → Sent → Course
course_of network world steps sent = record { network = network; world = world; steps = steps; sent = sent }

-- a network at its opening
abbrev pub opening_course : Network → Course
opening_course n = course_of n (opening n) 0 none_sent

-- with one more step done
abbrev pub course_after : Course → Step → Course
course_after c s = course_of c.network (next c.world s) (c.steps + 1) (with_sent (leaving c.world s) c.sent)

-- with these steps done, one after another
abbrev pub course_after_all : Course → List Step → Course
course_after_all c [] = c
course_after_all c (x ∷ xs) = course_after_all (course_after c x) xs

-- why a step is refused: the count of steps, of 64 bits, is full; or as the world refuses it
abbrev pub course_refusal : Course → Step → Option Refusal
course_refusal c s = if nat_lt (c.steps + 1) (2 ^ 64) then refusal c.world s else Some Refusal.JournalFull

-- what every course keeps: some lawful steps, as many as were counted, made its world; and no more messages were sent than steps done
pub record IsCourse (c : Course) : Type 0 where
  pub done : List Step
  pub count : length done ≡ c.steps
  pub runs : Runs (opening c.network) done c.world
  pub fits : c.steps < 2 ^ 64
  pub few : sent_count c.sent ≤ c.steps
