-- What the commands of a script or a shell do.
use Rattle.std.specs.Prelude.{◌≡◌, ℕ, zero, suc, ◌<◌, ◌⊎◌, Bool, true, false, not, nat_eq, ◌||◌, ◌&&◌, List, [], ◌∷◌, length, Some, take, slice_get}
use Rattle.std.specs.Option.{option_map_or}
use Rattle.faults.specs.declared.kind.FaultKind.{FaultKind}
use Rattle.network_model.specs.{declared.step.Step.Step as NetworkStep, declared.step.Step.TheVariants.LinkUp, declared.step.Step.TheVariants.LinkDown, declared.step.Refusal.Refusal, World.Link, World.World}
use Rattle.world.specs.Steps.{CanBeRefused}
use Rattle.script.specs.{declared.command.Command.Command, declared.place.Key.TheVariants.Script}
use Rattle.script.specs.declared.command.Command.TheVariants.{Step, Try, Settle, SettleDrawn, State, Table, Next, Queue, Held, Lookup, Inject, Trace, TraceThrough, Drain, RouterUp, RouterDown, Save, Restore}
use Rattle.plans.specs.{declared.fault.Fault.Fault, Faults.at_line, Faults.OfRefusal}
use Rattle.lines.specs.Report.{unknown_router}
use Rattle.interpreter.specs.Nets.{IsStepDone, IsStepRefused, Meaning}

-- ---- links of a router

-- whether a link has an end at the router, and is not as it is to be, up or down
abbrev pub is_amiss : Bool → ℕ → Link → Bool
is_amiss true router k = (nat_eq k.a.router router || nat_eq k.b.router router) && not k.up
is_amiss false router k = (nat_eq k.a.router router || nat_eq k.b.router router) && k.up

-- the same of a link by its number
abbrev pub is_amiss_at : World → Bool → ℕ → ℕ → Bool
is_amiss_at w up router l = option_map_or (is_amiss up router) (slice_get w.links l) false

-- puts a link up, or takes it down
abbrev pub put : Bool → ℕ → NetworkStep
put true l = LinkUp l
put false l = LinkDown l

-- a link was put so, or it was so
abbrev pub IsPutWhere : {S : Type 0} → Meaning S → Bool → Bool → ℕ → S → S → Type 0
IsPutWhere k true up l f g = IsStepDone k (put up l) f g
IsPutWhere k false up l f g = g ≡ f

-- of the first links, so many, those of the router were put so in ascending order
abbrev pub ArePut : {S : Type 0} → Meaning S → Bool → ℕ → ℕ → S → S → Type 0
ArePut k up router zero f g = g ≡ f
ArePut {S} k up router (suc l) f g = (h : S) × ArePut k up router l f h × IsPutWhere k (is_amiss_at (k.world h) up router l) up l h g

-- all links of the router were put so
abbrev pub IsPut : {S : Type 0} → Meaning S → Bool → ℕ → S → S → Type 0
IsPut k up router f g = ArePut k up router (length (k.network f).links) f g

-- no link of the router is other than it was to be
abbrev pub NoneAmiss : {S : Type 0} → Meaning S → Bool → ℕ → S → S → Type 0
NoneAmiss k up router f g = (l : ℕ) → l < length (k.network f).links → is_amiss_at (k.world g) up router l ≡ false

-- why they were not: there is no such router; or those before a link were put so, and its step is refused
pub record StopsPutting {S : Type 0} (k : Meaning S) (up : Bool) (router : ℕ) (f g : S) (e : Refusal) : Type 0 where
  pub link : ℕ
  pub is_link : link < length (k.network f).links
  pub before : ArePut k up router link f g
  pub amiss : is_amiss_at (k.world g) up router link ≡ true
  pub refused : CanBeRefused (k.refusal g (put up link)) e

-- `up A` or `down A` is refused: the router is unknown, and nothing was done, or one of its links could not be put so, and
-- those before it were
abbrev pub CannotPut : {S : Type 0} → Meaning S → Bool → ℕ → S → S → Refusal → Type 0
CannotPut k up router f g e = ((unknown_router (k.world f) router ≡ Some e) × (g ≡ f)) ⊎ StopsPutting k up router f g e

-- ---- commands

-- a command that was done: a step was lawful, a step that is tried was lawful or refused, a network was let settle, all links of a router were put up or down, a network was saved or restored, and all else leaves it as it was
abbrev pub IsDone : {S : Type 0} → Meaning S → Command → S → S → Type 0
IsDone k (Step s) f g = IsStepDone k s f g
IsDone k (Try s) f g = IsStepDone k s f g ⊎ IsStepRefused k s f g
IsDone k Settle f g = k.settled f g
IsDone k (SettleDrawn seed) f g = k.settled f g
IsDone k (RouterUp router) f g = IsPut k true router f g
IsDone k (RouterDown router) f g = IsPut k false router f g
IsDone k Save f g = k.saved f g
IsDone k Restore f g = k.restored f g
IsDone k _ f g = g ≡ f

-- a command that is refused: a step for its cause, in a network that settles the step that comes next, of the links of a router the first that cannot be put so, and a command on a router where there is no such router; all else as the network refuses it
abbrev pub IsRefused : {S : Type 0} → Meaning S → Command → S → S → FaultKind → Type 0
IsRefused k (Step s) f g kind = OfRefusal (CanBeRefused (k.refusal f s)) kind × (g ≡ f)
IsRefused k Settle f g kind = OfRefusal (k.unsettled f g) kind
IsRefused k (SettleDrawn seed) f g kind = OfRefusal (k.unsettled f g) kind
IsRefused k (RouterUp router) f g kind = OfRefusal (CannotPut k true router f g) kind
IsRefused k (RouterDown router) f g kind = OfRefusal (CannotPut k false router f g) kind
IsRefused k Save f g kind = k.not_saved f kind × (g ≡ f)
IsRefused k Restore f g kind = k.not_restored f kind × (g ≡ f)
IsRefused k (State router prefix) f g kind = OfRefusal (CanBeRefused (unknown_router (k.world f) router)) kind × (g ≡ f)
IsRefused k (Table router) f g kind = OfRefusal (CanBeRefused (unknown_router (k.world f) router)) kind × (g ≡ f)
IsRefused k (Next router) f g kind = OfRefusal (CanBeRefused (unknown_router (k.world f) router)) kind × (g ≡ f)
IsRefused k (Queue router port) f g kind = OfRefusal (CanBeRefused (unknown_router (k.world f) router)) kind × (g ≡ f)
IsRefused k (Held router) f g kind = OfRefusal (CanBeRefused (unknown_router (k.world f) router)) kind × (g ≡ f)
IsRefused k (Lookup router addr) f g kind = OfRefusal (k.not_looked_up f router addr) kind × (g ≡ f)
IsRefused k (Inject router addr) f g kind = k.not_given f router kind × (g ≡ f)
IsRefused k (Trace router addr) f g kind = OfRefusal (k.not_traced f router) kind × (g ≡ f)
IsRefused k (TraceThrough router addr) f g kind = OfRefusal (k.not_traced f router) kind × (g ≡ f)
IsRefused k Drain f g kind = k.not_answered f kind × (g ≡ f)
IsRefused k _ f g kind = ⊥

-- the commands, done one after another, lead from one network to the other
abbrev pub AreDone : {S : Type 0} → Meaning S → List Command → S → S → Type 0
AreDone k [] f g = g ≡ f
AreDone {S} k (c ∷ cs) f g = (h : S) × IsDone k c f h × AreDone k cs h g

-- of the commands those before a place were done, and the one there is refused
pub record StopsAtCommand {S : Type 0} (k : Meaning S) (commands : List Command) (f g : S) (fault : Fault) : Type 0 where
  pub position : ℕ
  pub command : Command
  pub before : S
  pub kind : FaultKind
  pub is_command : slice_get commands position ≡ Some command
  pub done : AreDone k (take position commands) f before
  pub refused : IsRefused k command before g kind
  pub named : fault ≡ at_line kind Script position

-- a command was done, or it was refused for its cause
abbrev pub IsTried : {S : Type 0} → Meaning S → Command → S → S → Type 0
IsTried k c f g = IsDone k c f g ⊎ ((kind : FaultKind) × IsRefused k c f g kind)

-- the commands, tried one after another, lead from one network to the other
abbrev pub AreTried : {S : Type 0} → Meaning S → List Command → S → S → Type 0
AreTried k [] f g = g ≡ f
AreTried {S} k (c ∷ cs) f g = (h : S) × IsTried k c f h × AreTried k cs h g
