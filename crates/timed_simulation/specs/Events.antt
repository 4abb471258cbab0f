-- The event list: what is left to do, each at its moment, and which of it is done first.
use Rattle.std.specs.Prelude.{ℕ, zero, suc, true, false, nat_lt, max, if◌then◌else◌, Option, Some, None, option_map, option_and_then, slice_get, length}
use Rattle.std.specs.Option.{option_map_or}
use Rattle.network_model.specs.{declared.step.Step.Step, declared.step.Step.TheVariants.Deliver, declared.step.Step.TheVariants.Publish, declared.step.Step.TheVariants.Release, declared.network.Place.Place, World.degree_of, World.place_at}
use Rattle.network_model.specs.Step.{front_at, is_due, notice_at, release_at}
use Rattle.timed_simulation.specs.{declared.events.Event.Event, Links.later, Links.towards, Timed.Timed, Timed.world_of}

-- what a router has to do at a moment. A moment that is past counts as now
abbrev pub own_event : Timed → ℕ → Step → Event
own_event t moment step = record { moment = max t.clock moment; step = step; given = false }

-- what a router has to do at once
abbrev pub event_now : Timed → Step → Event
event_now t step = record { moment = t.clock; step = step; given = false }

-- ---- what is left to do

-- the first of the changes that were given, at its moment
abbrev pub change_event : Timed → Option Event
change_event t = option_map (λ c. record { moment = max t.clock c.moment; step = c.step; given = true }) (slice_get t.changes 0)

-- router i releases the front message that it holds, if that may leave, at once
abbrev pub release_event : Timed → ℕ → Option Event
release_event t i = option_map (λ h. event_now t (Release i)) (release_at (world_of t) i)

-- when router i publishes: so long after it had something to publish as its delay says
abbrev pub publication_moment : Timed → ℕ → ℕ
publication_moment t i = option_map_or (λ x. later x.since x.delay) (slice_get t.routers i) 0

-- router i publishes, if it has something to publish
abbrev pub publication_event : Timed → ℕ → Option Event
publication_event t i = option_and_then (λ r. if is_due r then Some (own_event t (publication_moment t i) (Publish i)) else None) (slice_get (world_of t).routers i)

-- when the front item towards a place arrives
abbrev pub arrival_moment : Timed → Place → ℕ
arrival_moment t p = option_map_or (λ k. option_map_or (λ x. x.moment) (slice_get (towards p.end k).arrivals 0) 0) (slice_get t.links p.link) 0

-- router i takes the front item at its port q, if there is one, as it arrives
abbrev pub arrival_event : Timed → ℕ → ℕ → Option Event
arrival_event t i q = option_and_then (λ p. option_map (λ item. own_event t (arrival_moment t p) (Deliver i q)) (front_at (world_of t) i q)) (place_at (world_of t) i q)

-- router i takes the oldest notice of its own attachments, if there is one, at once
abbrev pub home_event : Timed → ℕ → Option Event
home_event t i = option_and_then (λ d. option_map (λ n. event_now t (Deliver i d)) (notice_at (world_of t) i d)) (degree_of (world_of t) i)

-- ---- what is done first

-- the sooner of two; of two at one moment the first
abbrev pub sooner : Option Event → Option Event → Option Event
sooner None b = b
sooner (Some a) None = Some a
sooner (Some a) (Some b) = if nat_lt b.moment a.moment then Some b else Some a

-- the soonest of the first n; of several at one moment the one of the lowest number
abbrev pub soonest : (ℕ → Option Event) → ℕ → Option Event
soonest f zero = None
soonest f (suc n) = sooner (soonest f n) (f n)

-- the soonest of what router i has to do other than to release: to publish, to take an item, from the lowest port on, or a notice of its attachments
abbrev pub waiting_event : Timed → ℕ → Option Event
waiting_event t i = sooner (sooner (publication_event t i) (soonest (arrival_event t i) (option_map_or (λ d. d) (degree_of (world_of t) i) 0))) (home_event t i)

-- what router i has to do next: a release comes first
abbrev pub router_event : Timed → ℕ → Option Event
router_event t i = option_map_or (λ e. Some e) (release_event t i) (waiting_event t i)

-- what is done next: the soonest of the changes that were given and of what the routers have to do. At one moment changes come first, then routers by number
abbrev pub next_event : Timed → Option Event
next_event t = sooner (change_event t) (soonest (router_event t) (length (world_of t).routers))
