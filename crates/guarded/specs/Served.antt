-- What a fabric that was under a lock can have become, and how a step or a turn comes out there.
use Rattle.std.specs.Prelude.{◌≡◌, ℕ, ◌+◌, ◌≤◌, ◌<◌, ◌⊎◌, ⊤, Bool, true, false, List, [], ◌∷◌, ◌++◌, length, Option, Some, None, Result, Ok, Err, MatchResult}
use Rattle.std.specs.List.{AllByRecursion}
use Rattle.network_model.specs.{declared.step.Step.Step, declared.step.Step.TheVariants.Publish, declared.step.Step.TheVariants.Release, declared.step.Refusal.Refusal, World.World, Step.Lawful, Step.next, Run.Runs, Turns.is_lawful, Turns.is_settled, Turns.next_step, Publication.Image, declared.network.Offer.TheVariants.One}
use Rattle.network_model.specs.declared.step.Refusal.TheVariants.{JournalFull, NoMemory, UnknownRouter, WrongTicket}
use Rattle.network_model.specs.Journal.{Fits, journal_sum, most_steps, step_number}
use Rattle.world.specs.Steps.{CanBeRefused}
use Rattle.fabric.specs.Fabric.{Fabric, count_lent, fabric_refusal, is_lent, ForwardsAsPublished, next_fabric_step as next_turn}
use Rattle.fabric.specs.Headline.{NeverMeetsTwice, LeadsAtLeastCost, ConvergesLeftAlone}
use Rattle.course.specs.Images.{images_in_force}

-- a fabric of no routers
abbrev pub no_fabric : Fabric
no_fabric = record {
  network = record { routers = 0; links = []; attachments = []; offer = One };
  journal = [];
  world = record { places = []; links = []; prefixes = []; attachments = []; routers = [] };
  images = [];
  lent = [];
}

-- no step is asked for
abbrev pub none_asked : Step → Bool
none_asked s = false

-- any step may be asked for
abbrev pub all_asked : Step → Bool
all_asked s = true

-- the step was asked for, or is what some router has to do next
abbrev pub IsTurnAt : (Step → Bool) → World → Step → Type 0
IsTurnAt asked w s = (asked s ≡ true) ⊎ ((i : ℕ) × (next_step w i ≡ Some s))

-- so are these steps, each where it is done
abbrev pub AreTurns : (Step → Bool) → World → List Step → Type 0
AreTurns asked w [] = ⊤
AreTurns asked w (s ∷ ss) = IsTurnAt asked w s × AreTurns asked (next w s) ss

-- router i publishes next: it has nothing to release, and something to publish
abbrev pub PublishesNext : World → ℕ → Type 0
PublishesNext w i = (is_lawful w (Release i) ≡ false) × (is_lawful w (Publish i) ≡ true)

-- the images in force after these steps, which led to this world
abbrev pub images_after : Fabric → List Step → World → List Image
images_after opened [] w = opened.images
images_after opened (s ∷ ss) w = images_in_force w

-- the fabric is the one that was opened with some more steps done, each lawful, and each asked for or what some router had to do next
pub record IsServed (opened : Fabric) (asked : Step → Bool) (fabric : Fabric) : Type 0 where
  pub network : fabric.network ≡ opened.network
  pub extra : List Step
  pub journal : fabric.journal ≡ opened.journal ++ extra
  pub turns : AreTurns asked opened.world extra
  pub runs : Runs opened.world extra fabric.world
  pub fit : AllByRecursion Fits extra
  pub images : fabric.images ≡ images_after opened extra fabric.world
  -- each writer that was out then is out
  pub stays : (i : ℕ) → is_lent opened i ≡ true → is_lent fabric i ≡ true
  -- each writer that is out was out then, or its router publishes next
  pub out : (i : ℕ) → is_lent fabric i ≡ true → (is_lent opened i ≡ true) ⊎ PublishesNext fabric.world i

-- the same writers are out
abbrev pub HasSameOut : Fabric → Fabric → Type 0
HasSameOut f g = (i : ℕ) → is_lent g i ≡ is_lent f i

-- the same writers are out, unless a ticket was handed back
abbrev pub AreBack : {X : Type 0} → Fabric → Fabric → Result X Refusal → Type 0
AreBack f g r = MatchResult r (λ _. HasSameOut f g) (λ e. (e ≡ WrongTicket) ⊎ HasSameOut f g)

-- its images in force answer by longest match over what the routers published, no packet circles along them, at quiet they lead along least-cost walks, and left alone it comes to rest there
pub record HasHeadline (fabric : Fabric) : Type 0 where
  pub forwards : ForwardsAsPublished fabric
  pub no_loop : NeverMeetsTwice fabric
  pub least_cost : LeadsAtLeastCost fabric
  pub converges : ConvergesLeftAlone fabric

-- a fabric that the holder of a share of this sum can have found under the lock: its journal counts what the share does, and where there is no other share, nothing else
pub record IsFound (opened : Fabric) (asked : Step → Bool) (shares sum : ℕ) (fabric : Fabric) : Type 0 where
  pub served : IsServed opened asked fabric
  pub counted : sum ≤ journal_sum fabric.journal
  pub alone : shares ≡ 1 → journal_sum fabric.journal ≡ sum
  pub routers : length fabric.world.routers ≡ (opened.network).routers
  pub headline : HasHeadline fabric

-- on the way from the fabric that was opened, the step that some router had to do next was refused, or its ticket was handed back
pub record IsTurnRefused (opened : Fabric) (asked : Step → Bool) (e : Refusal) : Type 0 where
  pub fabric : Fabric
  pub served : IsServed opened asked fabric
  pub router : ℕ
  pub step : Step
  pub due : next_turn fabric router ≡ Some step
  pub refused : CanBeRefused (fabric_refusal fabric step) e ⊎ ((step ≡ Publish router) × (e ≡ WrongTicket))

-- why one thread that takes all turns stops before nothing is left to do: the journal, with the places set aside, is full; or there is no memory
pub record IsFabricStopped (f : Fabric) (e : Refusal) : Type 0 where
  pub unsettled : is_settled f.world ≡ false
  pub cause : ((e ≡ JournalFull) × (most_steps ≤ length f.journal + count_lent f.lent)) ⊎ (e ≡ NoMemory)

-- what is left of a turn while its writer is out can fail: for want of memory, or since its ticket is handed back
abbrev pub CanFailOutside : Fabric → (Step → Bool) → Type 0
CanFailOutside opened asked = IsTurnRefused opened asked NoMemory × IsTurnRefused opened asked WrongTicket

-- a turn of router i: no such router; or the step that it has to do next was refused, or its ticket was handed back; or it was done; or it has nothing to do
abbrev pub IsTurn : Fabric → ℕ → Result (Option Step) Refusal → Type 0
IsTurn f i (Err e) = ((length f.world.routers ≤ i) × (e ≡ UnknownRouter))
    ⊎ ((s : Step) × (next_turn f i ≡ Some s) × (CanBeRefused (fabric_refusal f s) e ⊎ ((s ≡ Publish i) × (e ≡ WrongTicket))))
IsTurn f i (Ok None) = (i < length f.world.routers) × (next_turn f i ≡ None)
IsTurn f i (Ok (Some s)) = (next_turn f i ≡ Some s) × Lawful f.world s

-- what a turn that begins adds to its share: the number of the step that it did; nothing yet where a writer went out
abbrev pub added_at_once : {X : Type 0} → Result (Option Step) Refusal → Option X → ℕ
added_at_once (Ok (Some s)) None = step_number s
added_at_once _ _ = 0
