-- When each router has something to do next, what is kept of that, and which routers are asked again after an event.
use Rattle.std.specs.Prelude.{◌≡◌, ℕ, ◌<◌, nat_lt, if◌then◌else◌, List, length, set, Option, Some, option_map, option_and_then, slice_get}
use Rattle.std.specs.Option.{option_map_or}
use Rattle.network_model.specs.World.{Network}
use Rattle.world.specs.declared.touched.Touched.{Touched}
use Rattle.timed_simulation.specs.{Timed.Timed, Timed.world_of, Events.router_event}

-- when router i has something to do next, if it has
abbrev pub next_moment : Timed → ℕ → Option ℕ
next_moment t i = option_map (λ e. e.moment) (router_event t i)

-- these are the moments at which the routers have something to do next
pub record KeepsMoments (t : Timed) (moments : List (Option ℕ)) : Type 0 where
  pub as_many : length moments ≡ length (world_of t).routers
  pub each : (i : ℕ) → i < length (world_of t).routers → slice_get moments i ≡ Some (next_moment t i)

-- ---- after an event

-- the moment of router i is noted, if there is such a router
abbrev pub looked_at : Timed → ℕ → List (Option ℕ) → List (Option ℕ)
looked_at t i moments = if nat_lt i (length (world_of t).routers) then set moments i (next_moment t i) else moments

-- that of this router, if one is given
abbrev pub looked_if : Timed → Option ℕ → List (Option ℕ) → List (Option ℕ)
looked_if t o moments = option_map_or (λ i. looked_at t i moments) o moments

-- those of these two
abbrev pub looked_ends : Timed → Option (ℕ × ℕ) → List (Option ℕ) → List (Option ℕ)
looked_ends t o moments = option_map_or (λ e. looked_at t e.1 (looked_at t e.0 moments)) o moments

-- the router that a step touched, or whose attachments it touched
abbrev pub owner_of : Touched → Option ℕ
owner_of x = option_map_or (λ i. Some i) x.router x.attachments

-- the routers at the ends of the link that it touched
abbrev pub ends_of : Network → Touched → Option (ℕ × ℕ)
ends_of n x = option_and_then (λ l. option_map (λ spec. (spec.a, spec.b)) (slice_get n.links l)) x.link

-- those of the routers that a step touched, and of the ends of the link that it touched
abbrev pub looked_again : Timed → Touched → List (Option ℕ) → List (Option ℕ)
looked_again t x moments = looked_ends t (ends_of (t.simulation).network x) (looked_if t (owner_of x) moments)
