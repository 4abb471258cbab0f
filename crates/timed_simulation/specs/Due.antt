-- What is left to do and when it is due, whichever of it is first; and that nothing of it is late.
use Rattle.std.specs.Prelude.{ℕ, ◌≡◌, ◌≤◌, ◌<◌, ◌⊎◌, true, MatchBool, List, [], ◌∷◌, map, length, Some, slice_get}
use Rattle.network_model.specs.{declared.step.Step.Step, declared.step.Step.TheVariants.Deliver, declared.step.Step.TheVariants.Publish, declared.step.Step.TheVariants.Release, declared.item.Item.Item, declared.item.Held.Held, declared.item.Notice.Notice, declared.network.Place.Place}
use Rattle.network_model.specs.World.{Link, Router, World, place_at}
use Rattle.network_model.specs.Step.{Lawful, front_at, is_due, is_notice, notice_at, release_at}
use Rattle.coming_to_rest.specs.Worlds.{is_own}
use Rattle.timed_simulation.specs.{declared.links.Arrival.Arrival, declared.events.Change.Change, declared.events.Event.Event, declared.events.RouterTime.RouterTime, Timed.Timed, Timed.world_of}
use Rattle.timed_simulation.specs.Links.{Direction, TimedLink, later, towards}

-- ---- what is due

-- router i may release a message: that is due now
pub record ReleasesAt (t : Timed) (moment i : ℕ) : Type 0 where
  pub held : Held
  pub ripe : release_at (world_of t) i ≡ Some held
  pub now : moment ≡ t.clock

-- router i has something to publish: that is due its delay after the moment since which it has
pub record PublishesAt (t : Timed) (moment i : ℕ) : Type 0 where
  pub router : Router
  pub at : slice_get (world_of t).routers i ≡ Some router
  pub due : is_due router ≡ true
  pub time : RouterTime
  pub there : slice_get t.routers i ≡ Some time
  pub waited : moment ≡ later time.since time.delay

-- an item is at the front of port q of router i: that is due when it arrives
pub record ArrivesAt (t : Timed) (moment i q : ℕ) : Type 0 where
  pub router : Router
  pub at : slice_get (world_of t).routers i ≡ Some router
  pub place : Place
  pub port : place_at (world_of t) i q ≡ Some place
  pub item : Item
  pub front : front_at (world_of t) i q ≡ Some item
  pub link : TimedLink
  pub there : slice_get t.links place.link ≡ Some link
  pub arrival : Arrival
  pub first : slice_get (towards place.end link).arrivals 0 ≡ Some arrival
  pub arrives : moment ≡ arrival.moment

-- a notice of router i's own attachment waits: that is due now
pub record IsToldAt (t : Timed) (moment i q : ℕ) : Type 0 where
  pub router : Router
  pub at : slice_get (world_of t).routers i ≡ Some router
  pub notice : Notice
  pub waits : notice_at (world_of t) i q ≡ Some notice
  pub now : moment ≡ t.clock

-- a router has this to do, and it is due at this moment
abbrev pub IsOwnDue : Timed → ℕ → Step → Type 0
IsOwnDue t moment (Release i) = ReleasesAt t moment i
IsOwnDue t moment (Publish i) = PublishesAt t moment i
IsOwnDue t moment (Deliver i q) = ArrivesAt t moment i q ⊎ IsToldAt t moment i q
IsOwnDue t moment _ = ⊥

-- one of the changes that were given
pub record IsChange (t : Timed) (moment : ℕ) (step : Step) : Type 0 where
  pub place : ℕ
  pub at : slice_get t.changes place ≡ Some (record { moment = moment; step = step })

-- what is left to do, at the moment at which it is due
abbrev pub IsDue : Timed → Event → Type 0
IsDue t e = MatchBool e.given (IsChange t e.moment e.step) (IsOwnDue t e.moment e.step)

-- nothing that is left to do is due before this event
abbrev pub IsFirst : Timed → Event → Type 0
IsFirst t e = (d : Event) → IsDue t d → e.moment ≤ d.moment

-- nothing at all is left to do
abbrev pub NothingIsDue : Timed → Type 0
NothingIsDue t = (d : Event) → IsDue t d → ⊥

-- nothing that is left to do is due up to this moment
abbrev pub IsDoneUntil : ℕ → Timed → Type 0
IsDoneUntil moment t = (d : Event) → IsDue t d → moment < d.moment

-- nothing is late: the clock has passed nothing that is left to do
abbrev pub NothingIsLate : Timed → Type 0
NothingIsLate t = (d : Event) → IsDue t d → t.clock ≤ d.moment

-- nothing is left out: what a router may do is due at some moment
abbrev pub NothingIsLeftOut : Timed → Type 0
NothingIsLeftOut t = (s : Step) → is_own s ≡ true → Lawful (world_of t) s → (moment : ℕ) × IsOwnDue t moment s

-- ---- what keeps it so

-- the moments of these never decrease, from this one on
abbrev pub RisesFrom : {A : Type 0} → (A → ℕ) → ℕ → List A → Type 0
RisesFrom moment from [] = Unit {0}
RisesFrom moment from (x ∷ xs) = (from ≤ moment x) × RisesFrom moment (moment x) xs

-- the moments of these are none after this one
abbrev pub UpTo : {A : Type 0} → (A → ℕ) → ℕ → List A → Type 0
UpTo moment to [] = Unit {0}
UpTo moment to (x ∷ xs) = (moment x ≤ to) × UpTo moment to xs

-- there is an arrival for each item of a direction, in their order, a notice for a notice. They are no sooner than now, and no later than of an item that is put now
pub record AreTimely (now : ℕ) (items : List Item) (d : Direction) : Type 0 where
  pub kinds : map (λ a. a.notice) d.arrivals ≡ map is_notice items
  pub rises : RisesFrom (λ a. a.moment) now d.arrivals
  pub up_to : UpTo (λ a. a.moment) (later now d.delay) d.arrivals

-- both directions of a link are timely
pub record IsTimelyLink (now : ℕ) (k : Link) (x : TimedLink) : Type 0 where
  pub to_a : AreTimely now (k.a).inbox x.to_a
  pub to_b : AreTimely now (k.b).inbox x.to_b

-- so it is on each link
pub record AreTimelyLinks (now : ℕ) (ks : List Link) (xs : List TimedLink) : Type 0 where
  pub as_many : length xs ≡ length ks
  pub each : (l : ℕ) (k : Link) (x : TimedLink) → slice_get ks l ≡ Some k → slice_get xs l ≡ Some x → IsTimelyLink now k x

-- no router with something to publish is to publish before now
pub record AreTimelyRouters (now : ℕ) (rs : List Router) (xs : List RouterTime) : Type 0 where
  pub as_many : length xs ≡ length rs
  pub each : (i : ℕ) (r : Router) (x : RouterTime) → slice_get rs i ≡ Some r → slice_get xs i ≡ Some x → is_due r ≡ true → now ≤ later x.since x.delay

-- what is kept of moments, so that nothing is late and nothing is left out
pub record IsOnTime (w : World) (now : ℕ) (links : List TimedLink) (routers : List RouterTime) (changes : List Change) : Type 0 where
  pub on_links : AreTimelyLinks now w.links links
  pub at_routers : AreTimelyRouters now w.routers routers
  pub of_changes : RisesFrom (λ c. c.moment) now changes
