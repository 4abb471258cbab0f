-- Nothing is done before the present moment.
use Rattle.std.proofs.Common.{subst, arith, ◌≡◌, ℕ, zero, suc, ◌≤◌, max, Bool, true, false, nat_lt, if◌then◌else◌, Option, Some, None, option_map, option_and_then, slice_get, length}
use Rattle.no_packet_loops.proofs.Common.{option_map_or, Router, Place, Item, is_due, front_at, notice_at, degree_of, place_at, release_at, Held, Notice, Deliver, Publish, Release}
use Rattle.timed_simulation.specs.{declared.events.Change.Change, declared.events.Event.Event, Timed.Timed, Timed.world_of}
use Rattle.timed_simulation.specs.Events.{arrival_event, arrival_moment, change_event, event_now, home_event, next_event, own_event, publication_event, publication_moment, router_event, sooner, soonest, waiting_event}

-- what is done, if anything, is done no sooner than this
abbrev pub NotBefore : ℕ → Option Event → Type 0
NotBefore m None = Unit {0}
NotBefore m (Some e) = m ≤ e.moment

pub sooner-after : (m : ℕ) (a b : Option Event) → NotBefore m a → NotBefore m b → NotBefore m (sooner a b)
sooner-after m None b p q = q
sooner-after m (Some a) None p q = p
sooner-after m (Some a) (Some b) p q = by_order (nat_lt b.moment a.moment)
  where
    by_order : (t : Bool) → NotBefore m (if t then Some b else Some a)
    by_order true = q
    by_order false = p

soonest-after : (m : ℕ) (f : ℕ → Option Event) → ((i : ℕ) → NotBefore m (f i)) → (n : ℕ) → NotBefore m (soonest f n)
soonest-after m f each zero = tt
soonest-after m f each (suc n) = sooner-after m (soonest f n) (f n) (soonest-after m f each n) (each n)

module _ (t : Timed) where
  mapped : {X : Type 0} (f : X → Event) → ((x : X) → t.clock ≤ (f x).moment) → (o : Option X) → NotBefore t.clock (option_map f o)
  mapped f each None = tt
  mapped f each (Some x) = each x

  publication-after : (i : ℕ) → NotBefore t.clock (publication_event t i)
  publication-after i = by_router (slice_get (world_of t).routers i)
    where
      by_due : (b : Bool) → NotBefore t.clock (if b then Some (own_event t (publication_moment t i) (Publish i)) else None)
      by_due true = omega arith
      by_due false = tt

      by_router : (o : Option Router) → NotBefore t.clock (option_and_then (λ (r : Router). if is_due r then Some (own_event t (publication_moment t i) (Publish i)) else None) o)
      by_router None = tt
      by_router (Some r) = by_due (is_due r)

  arrival-after : (i q : ℕ) → NotBefore t.clock (arrival_event t i q)
  arrival-after i q = by_place (place_at (world_of t) i q)
    where
      by_place : (o : Option Place) → NotBefore t.clock (option_and_then (λ p. option_map (λ item. own_event t (arrival_moment t p) (Deliver i q)) (front_at (world_of t) i q)) o)
      by_place None = tt
      by_place (Some p) = mapped (λ (item : Item). own_event t (arrival_moment t p) (Deliver i q)) (λ item. omega arith) (front_at (world_of t) i q)

  home-after : (i : ℕ) → NotBefore t.clock (home_event t i)
  home-after i = by_degree (degree_of (world_of t) i)
    where
      by_degree : (o : Option ℕ) → NotBefore t.clock (option_and_then (λ d. option_map (λ n. event_now t (Deliver i d)) (notice_at (world_of t) i d)) o)
      by_degree None = tt
      by_degree (Some d) = mapped (λ (n : Notice). event_now t (Deliver i d)) (λ n. omega arith) (notice_at (world_of t) i d)

  waiting-after : (i : ℕ) → NotBefore t.clock (waiting_event t i)
  waiting-after i =
      sooner-after t.clock (sooner (publication_event t i) (soonest (arrival_event t i) (option_map_or (λ d. d) (degree_of (world_of t) i) 0))) (home_event t i)
      (sooner-after t.clock (publication_event t i) (soonest (arrival_event t i) (option_map_or (λ d. d) (degree_of (world_of t) i) 0)) (publication-after i)
      (soonest-after t.clock (arrival_event t i) (arrival-after i) (option_map_or (λ d. d) (degree_of (world_of t) i) 0)))
      (home-after i)

  router-after : (i : ℕ) → NotBefore t.clock (router_event t i)
  router-after i = by_release (release_at (world_of t) i)
    where
      by_release : (o : Option Held) → NotBefore t.clock (option_map_or (λ e. Some e) (option_map (λ h. event_now t (Release i)) o) (waiting_event t i))
      by_release None = waiting-after i
      by_release (Some h) = omega arith

  change-after : NotBefore t.clock (change_event t)
  change-after = mapped (λ (c : Change). record { moment = max t.clock c.moment; step = c.step; given = true }) (λ c. omega arith) (slice_get t.changes 0)

  -- what is done next is done at the present moment or later
  pub next-after : (e : Event) → next_event t ≡ Some e → t.clock ≤ e.moment
  next-after e next =
      subst (NotBefore t.clock) next
      (sooner-after t.clock (change_event t) (soonest (router_event t) (length (world_of t).routers)) change-after
      (soonest-after t.clock (router_event t) router-after (length (world_of t).routers)))
