-- What commands mean on a network that runs: one whose steps are kept, or one that counts them alone.
use Rattle.std.specs.Prelude.{◌≡◌, ℕ, ◌⊎◌, Option, Some, None, MatchOption, refl, slice_get}
use Rattle.faults.specs.declared.kind.FaultKind.{FaultKind}
use Rattle.ipv4_prefix.specs.{LongestMatch.longest_match, Prefix.Prefix}
use Rattle.network_model.specs.{declared.route.Entry.Entry, declared.step.Step.Step, declared.step.Refusal.Refusal, World.Network, World.Router, World.World, Step.Lawful, Step.next}
use Rattle.network_model.specs.declared.step.Refusal.TheVariants.{UnknownRouter, NoMemory, Stale, NoImage}
use Rattle.world.specs.Steps.{CanBeRefused}
use Rattle.fabric.specs.{Fabric.Fabric, Fabric.after_step, Fabric.fabric_refusal, Images.answer_at}
use Rattle.simulation.specs.Simulation.{Simulation, opening_simulation, simulation_refusal, after_step as after_step_there}
use Rattle.plans.specs.Faults.{OfRefusal}
use Rattle.lines.specs.Report.{unknown_router}
use Rattle.interpreter.specs.Dispatching.{CannotInject, IsUnanswered}
use Rattle.interpreter.specs.Settling.{Settles, SettlesThere, StopsSettling, StopsThere}

-- ---- a network that counts its steps

-- steps are counted: a simulation, and what was saved of it
pub record Counted : Type 0 where
  pub simulation : Simulation
  pub saved : Option Simulation

-- a network that counts its steps, and the state that it saved
abbrev pub counted_of : Simulation → Option Simulation → Counted
counted_of simulation saved = record { simulation = simulation; saved = saved }

-- at the opening of a network nothing is saved
abbrev pub opening_counted : Network → Counted
opening_counted n = counted_of (opening_simulation n) None

-- with one more step done
abbrev pub counted_after : Counted → Step → Counted
counted_after c s = counted_of (after_step_there c.simulation s) c.saved

-- ---- what commands mean

-- for networks of some kind: the network that was opened, its world, one with a step more, and why a step is refused
pub record Meaning (S : Type 0) : Type 1 where
  pub network : S → Network
  pub world : S → World
  pub after : S → Step → S
  -- a step is a step of the world
  pub next_world : (m : S) (s : Step) → world (after m s) ≡ next (world m) s
  pub refusal : S → Step → Option Refusal
  -- the network was let settle, or it did not settle, for this reason
  pub settled : S → S → Type 0
  pub unsettled : S → S → Refusal → Type 0
  -- why an address is not looked up at a router, and a packet not traced from one
  pub not_looked_up : S → ℕ → ℕ → Refusal → Type 0
  pub not_traced : S → ℕ → Refusal → Type 0
  -- why a job is not given at a router, and jobs are not answered
  pub not_given : S → ℕ → FaultKind → Type 0
  pub not_answered : S → FaultKind → Type 0
  -- the network was saved, and again what it was when it was; or why not
  pub saved : S → S → Type 0
  pub not_saved : S → FaultKind → Type 0
  pub restored : S → S → Type 0
  pub not_restored : S → FaultKind → Type 0

-- what commands mean on a network they mean on a part that it lends, where this is the network with a part in place of that one
pub record MeansAs {S T : Type 0} (k : Meaning S) (l : Meaning T) (lend : T → S) (m : S) (t : T) : Type 0 where
  pub same : lend t ≡ m
  pub settled : (u : T) → l.settled t u → k.settled m (lend u)
  pub unsettled : (u : T) (e : Refusal) → l.unsettled t u e → k.unsettled m (lend u) e
  pub not_given : (router : ℕ) (kind : FaultKind) → l.not_given t router kind → k.not_given m router kind
  pub not_answered : (kind : FaultKind) → l.not_answered t kind → k.not_answered m kind

-- where steps are kept. An address is not looked up if there is no such router, or its reader shows a later image, or none. No job is given for want of a worker, and only workers can leave jobs unanswered. Nothing is saved, because a journal is kept
abbrev pub kept_meaning : Meaning Fabric
kept_meaning = record {
  network = λ f. f.network;
  world = λ f. f.world;
  after = after_step;
  next_world = λ f s. refl;
  refusal = fabric_refusal;
  settled = Settles;
  unsettled = StopsSettling;
  not_looked_up = λ f router addr e. MatchOption (answer_at f.world router addr) (e ≡ UnknownRouter) (λ _. (e ≡ Stale) ⊎ (e ≡ NoImage));
  not_traced = λ f router e. MatchOption (unknown_router f.world router) ((e ≡ NoMemory) ⊎ (e ≡ Stale) ⊎ (e ≡ NoImage)) (λ cause. e ≡ cause);
  not_given = λ f router kind. CannotInject (unknown_router f.world router) kind;
  not_answered = λ f kind. IsUnanswered kind;
  saved = λ f g. ⊥;
  not_saved = λ f kind. kind ≡ FaultKind.JournalKept;
  restored = λ f g. ⊥;
  not_restored = λ f kind. kind ≡ FaultKind.JournalKept;
}

-- where they are counted. Jobs are answered at once, so each is. What is saved is the simulation as it is, in place of what was saved before, and what was restored stays saved
abbrev pub counted_meaning : Meaning Counted
counted_meaning = record {
  network = λ c. c.simulation.network;
  world = λ c. c.simulation.world;
  after = counted_after;
  next_world = λ c s. refl;
  refusal = λ c s. simulation_refusal c.simulation s;
  settled = λ c d. SettlesThere c.simulation d.simulation × (d.saved ≡ c.saved);
  unsettled = λ c d e. StopsThere c.simulation d.simulation e × (d.saved ≡ c.saved);
  not_looked_up = λ c router addr e. unknown_router c.simulation.world router ≡ Some e;
  not_traced = λ c router e. CanBeRefused (unknown_router c.simulation.world router) e;
  not_given = λ c router kind. OfRefusal (CanBeRefused (unknown_router c.simulation.world router)) kind;
  not_answered = λ c kind. ⊥;
  saved = λ c d. d ≡ counted_of c.simulation (Some c.simulation);
  not_saved = λ c kind. kind ≡ FaultKind.NoMemory;
  restored = λ c d. (s : Simulation) × (c.saved ≡ Some s) × (d ≡ counted_of s (Some s));
  not_restored = λ c kind. ((c.saved ≡ None) × (kind ≡ FaultKind.NothingSaved)) ⊎ (kind ≡ FaultKind.NoMemory);
}

-- ---- steps

-- the step was done
abbrev pub IsStepDone : {S : Type 0} → Meaning S → Step → S → S → Type 0
IsStepDone k s m n = Lawful (k.world m) s × (n ≡ k.after m s)

-- the step was refused, for its cause or for want of memory, and changed nothing
abbrev pub IsStepRefused : {S : Type 0} → Meaning S → Step → S → S → Type 0
IsStepRefused k s m n = (e : Refusal) × CanBeRefused (k.refusal m s) e × (n ≡ m)

-- ---- questions

-- what a router answers for an address: the row with the longest match, of the rows that it published
abbrev pub IsAnswer : World → ℕ → ℕ → Option (Prefix × Entry) → Type 0
IsAnswer w router addr found = (r : Router) × (slice_get w.routers router ≡ Some r) × (longest_match addr (r.table).published ≡ found)
