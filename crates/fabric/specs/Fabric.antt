-- A network that runs, and the steps that made it what it is.
use Rattle.std.specs.Prelude.{◌≡◌, ℕ, ◌+◌, ◌*◌, ◌^◌, ◌≤◌, Bool, false, nat_lt, if◌then◌else◌, List, [], ◌∷◌, ◌++◌, length, filter, replicate, set, Option, Some, None, is_some, slice_get, option_and_then}
use Rattle.std.specs.{List.AllByRecursion, Option.option_map_or}
use Rattle.ipv4_prefix.specs.LongestMatch.{longest_match}
use Rattle.network_model.specs.{declared.step.Step.Step, declared.step.Step.TheVariants.Deliver, declared.step.Step.TheVariants.Publish, declared.step.Refusal.Refusal, Step.next, Step.refusal, Run.Runs, Journal.Fits, Journal.most_steps, Journal.journal_sum, Publication.Image, Publication.Patch, Publication.image_answer}
use Rattle.network_model.specs.World.{Network, Router, World, opening}
use Rattle.network_model.specs.Turns as turns
use Rattle.course.specs.Images.{images_in_force}

-- the network that was opened, the steps done since, the world that they made, the image of each router, and the patch with which each router's writer is out, if it is. The image is the one in force at a router whose
-- writer is in; at another it is the one that was in force when the writer left
pub record Fabric : Type 0 where
  pub network : Network
  pub journal : List Step
  pub world : World
  pub images : List Image
  pub lent : List (Option Patch)

-- a fabric of its parts
abbrev pub fabric_of : Network → List Step → World → List Image → List (Option Patch) → Fabric
fabric_of network journal world images lent = record { network = network; journal = journal; world = world; images = images; lent = lent }

-- a network at its opening: all writers are in
abbrev pub opening_fabric : Network → Fabric
opening_fabric n = fabric_of n [] (opening n) (images_in_force (opening n)) (replicate n.routers None)

-- a fabric with one more step done
abbrev pub after_step : Fabric → Step → Fabric
after_step f s = fabric_of f.network (f.journal ++ s ∷ []) (next f.world s) (images_in_force (next f.world s)) f.lent

-- ---- tickets

-- the patch with which router i's writer is out
abbrev pub lent_at : List (Option Patch) → ℕ → Option Patch
lent_at lent i = option_map_or (λ l. l) (slice_get lent i) None

-- whether router i's writer is out
abbrev pub is_lent : Fabric → ℕ → Bool
is_lent f i = is_some (lent_at f.lent i)

-- how many writers are out: for each a place in the journal is set aside
abbrev pub count_lent : List (Option Patch) → ℕ
count_lent lent = length (filter (λ l. is_some l) lent)

-- a fabric whose writer of router i went out, or came back
abbrev pub with_lent : Fabric → ℕ → Option Patch → Fabric
with_lent f i l = fabric_of f.network f.journal f.world f.images (set f.lent i l)

-- whether a step has to wait for one of the writers that are out: a delivery or a publication at its router
abbrev pub awaits_lent : List (Option Patch) → Step → Bool
awaits_lent lent (Deliver i q) = is_some (lent_at lent i)
awaits_lent lent (Publish i) = is_some (lent_at lent i)
awaits_lent lent _ = false

-- the same in a fabric
abbrev pub awaits_writer : Fabric → Step → Bool
awaits_writer f s = awaits_lent f.lent s

-- why a step is refused: the journal, with the places set aside, is full; the router's writer is out; or as the world refuses it
abbrev pub fabric_refusal : Fabric → Step → Option Refusal
fabric_refusal f s =
    let here = if awaits_writer f s then Some Refusal.Busy else refusal f.world s in
    if nat_lt (length f.journal + count_lent f.lent) most_steps then here else Some Refusal.JournalFull

-- what router i has to do next, as in its world; but nothing where that has to wait for its writer
abbrev pub next_fabric_step : Fabric → ℕ → Option Step
next_fabric_step f i = option_and_then (λ s. if awaits_writer f s then None else Some s) (turns.next_step f.world i)

-- each router has an image, the one in force where its writer is in, which has the rows that the router published and answers every address with the longest match over them, and has the generation of that publication
pub record ForwardsAsPublished (f : Fabric) : Type 0 where
  pub every_router : length f.images ≡ length f.world.routers
  pub rows : (i : ℕ) (r : Router) (image : Image) → slice_get f.world.routers i ≡ Some r → slice_get f.images i ≡ Some image → image.rows ≡ (r.table).published
  pub longest : (i : ℕ) (r : Router) (image : Image) → slice_get f.world.routers i ≡ Some r → slice_get f.images i ≡ Some image → (addr : ℕ) → image_answer image addr ≡ longest_match addr (r.table).published
  pub generation : (i : ℕ) (r : Router) (image : Image) → slice_get f.world.routers i ≡ Some r → slice_get f.images i ≡ Some image → image.generation ≡ r.generation

-- what every fabric keeps: its journal made its world, and with the places set aside is no longer than a journal may be, nor than its room; each image in force is of what its router published
pub record IsFabric (f : Fabric) (capacity : ℕ) : Type 0 where
  pub runs : Runs (opening f.network) f.journal f.world
  pub short : length f.journal + count_lent f.lent ≤ most_steps
  pub room : most_steps ≤ capacity
  pub in_force : f.images ≡ images_in_force f.world

-- the number is the sum of the journal's steps, each of which fits its own, and not too large for 128 bits
pub record IsSumOf (journal : List Step) (sum : ℕ) : Type 0 where
  pub is : sum ≡ journal_sum journal
  pub small : sum ≤ length journal * 2 ^ 105
  pub fit : AllByRecursion Fits journal
