-- A network in simulated time: a simulation, and when what is left to do is due.
use Rattle.std.specs.Prelude.{ℕ, Bool, false, if◌then◌else◌, List, [], ◌∷◌, map, drop, length, Option, Some, None, slice_get, nat_lt, unwrap_or, position, insert}
use Rattle.std.specs.Option.{option_map_or}
use Rattle.network_model.specs.{declared.step.Step.Step, declared.step.Step.TheVariants.Deliver, Machine.changed_at, World.Network, World.World, Step.is_due}
use Rattle.simulation.specs.Simulation.{Simulation, after_step, opening_simulation}
use Rattle.timed_simulation.specs.{declared.links.LinkDelays.LinkDelays, declared.events.Change.Change, declared.events.Event.Event, declared.events.RouterTime.RouterTime}
use Rattle.timed_simulation.specs.Links.{TimedLink, links_after, motion_of, opening_directions}

-- the simulation, the moment of its last step (the clock), when the items on each link arrive, how long each router takes to publish and since when it has something to publish, and the changes that are given and not yet done, by their moments
pub record Timed : Type 0 where
  pub simulation : Simulation
  pub clock : ℕ
  pub links : List TimedLink
  pub routers : List RouterTime
  pub changes : List Change

-- a network in simulated time of its parts
abbrev pub timed_of : Simulation → ℕ → List TimedLink → List RouterTime → List Change → Timed
timed_of simulation clock links routers changes = record { simulation = simulation; clock = clock; links = links; routers = routers; changes = changes }

-- the world that the steps made
abbrev pub world_of : Timed → World
world_of t = (t.simulation).world

-- a router that has had nothing to publish yet
abbrev pub opening_router_time : ℕ → RouterTime
opening_router_time delay = record { delay = delay; since = 0 }

-- a network at its opening, with the delays of its links and of its routers' publications
abbrev pub opening_timed : Network → List LinkDelays → List ℕ → Timed
opening_timed n links routers = timed_of (opening_simulation n) 0 (map opening_directions links) (map opening_router_time routers) []

-- whether router i has something to publish
abbrev pub is_due_at : World → ℕ → Bool
is_due_at w i = option_map_or is_due (slice_get w.routers i) false

-- the router that takes an item by this step and had nothing to publish before
abbrev pub begins_at : World → Step → Option ℕ
begins_at w (Deliver i q) = if is_due_at w i then None else Some i
begins_at w _ = None

-- what that router may have to publish, it has since this moment. The others have what they have since the moment that stands there
abbrev pub routers_after : ℕ → Option ℕ → List RouterTime → List RouterTime
routers_after now None rs = rs
routers_after now (Some i) rs = changed_at i (λ x. record x { since = now }) rs

-- with this event done: its step, at its moment
abbrev pub after_event : Timed → Event → Timed
after_event t e = timed_of
    (after_step t.simulation e.step)
    e.moment
    (links_after e.moment (motion_of (world_of t) e.step) t.links)
    (routers_after e.moment (begins_at (world_of t) e.step) t.routers)
    (if e.given then drop 1 t.changes else t.changes)

-- with these events done, one after another
abbrev pub after_events : Timed → List Event → Timed
after_events t [] = t
after_events t (e ∷ es) = after_events (after_event t e) es

-- where a change of this moment stands among these: before the first that is later
abbrev pub place_among : ℕ → List Change → ℕ
place_among moment cs = unwrap_or (position (λ c. nat_lt moment c.moment) cs) (length cs)

-- with one more change given
abbrev pub with_timed_change : Change → Timed → Timed
with_timed_change c t = record t { changes = insert t.changes (place_among c.moment t.changes) c }
