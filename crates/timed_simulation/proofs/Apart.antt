-- A router that an event's step does not touch, nor a link of it, keeps what it has to do next, and when.
use Rattle.std.proofs.Common.{refl, sym, ap, ◌∙◌, arith, inl, inr, ◌≡◌, ◌≢◌, ℕ, zero, suc, ◌≤◌, max, Bool, true, false, ◌==◌, if◌then◌else◌, List, length, Option, Some, None, option_map, option_and_then, slice_get}
use Rattle.no_packet_loops.proofs.Common.{option_map_or, other, Held, Item, Notice, Place, Link, Router, Attachments, Side, World, side, is_due, ripe_front, front_at, notice_at, release_at, is_at_home, degree_of, place_at, next, slice_get-changed_at_other, Step, LinkUp, LinkDown, SetCost, Deliver, Publish, Release}
use Rattle.no_packet_loops.proofs.WorldLaws.{next-shape}
use Rattle.world.specs.{Steps.is_stale, Touched.LeavesOthers, Touched.touched_by}
use Rattle.world.proofs.Untouched.{untouched}
use Rattle.timed_simulation.specs.{declared.events.Event.Event, declared.events.RouterTime.RouterTime, declared.links.Arrival.Arrival, declared.links.Motion.Motion, Due.IsOwnDue, Runs.IsNext, Runs.IsTimed}
use Rattle.timed_simulation.specs.declared.links.Motion.TheVariants.{Told, Cut, Put, Taken}
use Rattle.timed_simulation.specs.Links.{TimedLink, later, links_after, motion_of, link_moved, towards}
use Rattle.timed_simulation.specs.Timed.{Timed, after_event, begins_at, is_due_at, routers_after, world_of}
use Rattle.timed_simulation.specs.Events.{arrival_event, arrival_moment, event_now, home_event, own_event, publication_event, publication_moment, release_event, router_event, sooner, soonest, waiting_event}
use Rattle.timed_simulation.proofs.{First.arrives, First.publishes, Moments.next-after}

-- what a router has to do at this moment
abbrev own_at : Step → ℕ → Event
own_at s m = record { moment = m; step = s; given = false }

-- ---- the times of routers and links

-- a router that a step does not touch keeps its time
time_untouched : (now : ℕ) (w : World) (s : Step) (xs : List RouterTime) (i : ℕ) → (touched_by s w).router ≢ Some i → slice_get (routers_after now (begins_at w s) xs) i ≡ slice_get xs i
time_untouched now w (Deliver j q) xs i apart = by_due (is_due_at w j)
  where
    by_due : (b : Bool) → slice_get (routers_after now (if b then None else Some j) xs) i ≡ slice_get xs i
    by_due true = refl
    by_due false = slice_get-changed_at_other (λ (x : RouterTime). record x { since = now }) j i xs (λ e. apart (ap Some (sym e)))
time_untouched now w _ xs i apart = refl

-- a link other than the one that is moved keeps its items' moments
moved_other : (now : ℕ) (motion : Place → Motion) (o : Option Place) (ks : List TimedLink) (l : ℕ) → option_map (λ (p : Place). p.link) o ≢ Some l
    → slice_get (links_after now (option_map (λ (p : Place). (p.link, motion p)) o) ks) l ≡ slice_get ks l
moved_other now motion None ks l apart = refl
moved_other now motion (Some p) ks l apart = slice_get-changed_at_other (link_moved now (motion p)) p.link l ks (λ e. apart (ap Some (sym e)))

-- so does a link that a step does not touch
link_time_untouched : (now : ℕ) (w : World) (s : Step) (ks : List TimedLink) (l : ℕ) → (touched_by s w).link ≢ Some l → slice_get (links_after now (motion_of w s) ks) l ≡ slice_get ks l
link_time_untouched now w (LinkUp k) ks l apart = slice_get-changed_at_other (link_moved now Told) k l ks (λ e. apart (ap Some (sym e)))
link_time_untouched now w (LinkDown k) ks l apart = slice_get-changed_at_other (link_moved now Cut) k l ks (λ e. apart (ap Some (sym e)))
link_time_untouched now w (SetCost i q cost) ks l apart = moved_other now (λ p. Put p.end true) (place_at w i q) ks l apart
link_time_untouched now w (Deliver i q) ks l apart = moved_other now (λ p. Taken p.end) (place_at w i q) ks l apart
link_time_untouched now w (Release i) ks l apart = by_release (release_at w i) apart
  where
    by_stale : (h : Held) (b : Bool) → option_map (λ (p : Place). p.link) (place_at w i h.port) ≢ Some l
        → slice_get (links_after now (if b then None else option_map (λ (p : Place). (p.link, Put (other p.end) false)) (place_at w i h.port)) ks) l ≡ slice_get ks l
    by_stale h true apart = refl
    by_stale h false apart = moved_other now (λ p. Put (other p.end) false) (place_at w i h.port) ks l apart

    by_release : (o : Option Held) → option_and_then (λ (h : Held). option_map (λ (p : Place). p.link) (place_at w i h.port)) o ≢ Some l
        → slice_get (links_after now (option_and_then (λ (h : Held). if is_stale w i h then None else option_map (λ (p : Place). (p.link, Put (other p.end) false)) (place_at w i h.port)) o) ks) l ≡ slice_get ks l
    by_release None apart = refl
    by_release (Some h) apart = by_stale h (is_stale w i h) apart
link_time_untouched now w _ ks l apart = refl

-- ---- what a router has to do

-- the soonest of two that agree
soonest_same : (f g : ℕ → Option Event) → ((q : ℕ) → f q ≡ g q) → (n : ℕ) → soonest f n ≡ soonest g n
soonest_same f g same zero = refl
soonest_same f g same (suc n) = ap (λ o. sooner o (f n)) (soonest_same f g same n) ∙ ap (sooner (soonest g n)) (same n)

-- a router that is apart from an event: neither it nor its attachments are touched, nor a link at one of its ports
pub record IsApart (t : Timed) (s : Step) (i : ℕ) : Type 0 where
  pub router : (touched_by s (world_of t)).router ≢ Some i
  pub attachments : (touched_by s (world_of t)).attachments ≢ Some i
  pub links : (q : ℕ) (p : Place) → place_at (world_of t) i q ≡ Some p → (touched_by s (world_of t)).link ≢ Some p.link

module _ (t : Timed) (K : IsTimed t) (e : Event) (is : IsNext t e) (i : ℕ) (r : Router) (at : slice_get (world_of t).routers i ≡ Some r) (apart : IsApart t e.step i) where
  abbrev u : Timed
  u = after_event t e

  leaves : LeavesOthers (touched_by e.step (world_of t)) (world_of t) (next (world_of t) e.step)
  leaves = untouched (world_of t) e.step

  on : t.clock ≤ e.moment
  on = next-after t e is.next

  -- ---- moments

  -- what is due now lets no time pass
  now_same : (s : Step) → IsOwnDue t t.clock s → e.moment ≡ t.clock
  now_same s due = (let first = is.first (record { moment = t.clock; step = s; given = false }) due in let up = on in omega (arith, first, up))

  -- what is due later, is due then
  then_same : (m n : ℕ) (s : Step) → n ≡ m → IsOwnDue t m s → max e.moment n ≡ max t.clock m
  then_same m n s same due = (let first = is.first (record { moment = m; step = s; given = false }) due in let up = on in omega (arith, first, up, same))

  -- ---- the parts of the world

  same_router : slice_get (world_of u).routers i ≡ slice_get (world_of t).routers i
  same_router = leaves.routers i apart.router

  same_time : slice_get u.routers i ≡ slice_get t.routers i
  same_time = time_untouched e.moment (world_of t) e.step t.routers i apart.router

  same_places : (world_of u).places ≡ (world_of t).places
  same_places = (next-shape (world_of t) e.step).places

  same_place : (q : ℕ) → place_at (world_of u) i q ≡ place_at (world_of t) i q
  same_place q = ap (λ (ps : List (List Place)). option_and_then (λ (xs : List Place). slice_get xs q) (slice_get ps i)) same_places

  same_degree : degree_of (world_of u) i ≡ degree_of (world_of t) i
  same_degree = ap (λ (ps : List (List Place)). option_map (λ (xs : List Place). length xs) (slice_get ps i)) same_places

  -- ---- what it has to do

  release_same : release_event u i ≡ release_event t i
  release_same = ap (λ o. option_map (λ (h : Held). event_now u (Release i)) (option_and_then ripe_front o)) same_router ∙ by_held (release_at (world_of t) i) refl
    where
      by_held : (o : Option Held) → release_at (world_of t) i ≡ o → option_map (λ (h : Held). event_now u (Release i)) o ≡ option_map (λ (h : Held). event_now t (Release i)) o
      by_held None ripe = refl
      by_held (Some h) ripe = ap (λ m. Some (own_at (Release i) m)) (now_same (Release i) (record { held = h; ripe = ripe; now = refl }))

  same_publication_moment : publication_moment u i ≡ publication_moment t i
  same_publication_moment = ap (λ (o : Option RouterTime). option_map_or (λ (x : RouterTime). later x.since x.delay) o 0) same_time

  publication_same : publication_event u i ≡ publication_event t i
  publication_same =
      ap (option_and_then (λ (x : Router). if is_due x then Some (own_event u (publication_moment u i) (Publish i)) else None)) (same_router ∙ at)
      ∙ by_due (is_due r) refl
      ∙ sym (ap (option_and_then (λ (x : Router). if is_due x then Some (own_event t (publication_moment t i) (Publish i)) else None)) at)
    where
      by_due : (b : Bool) → is_due r ≡ b → (if b then Some (own_event u (publication_moment u i) (Publish i)) else None) ≡ (if b then Some (own_event t (publication_moment t i) (Publish i)) else None)
      by_due true due = ap (λ m. Some (own_at (Publish i) m)) (then_same (publication_moment t i) (publication_moment u i) (Publish i) same_publication_moment (publishes t K.on_time i r at due))
      by_due false none = refl

  arrival_same : (q : ℕ) → arrival_event u i q ≡ arrival_event t i q
  arrival_same q = by_place (place_at (world_of t) i q) refl
    where
      arriving : (x : Timed) → Option Place → Option Event
      arriving x o = option_and_then (λ (p : Place). option_map (λ (item : Item). own_event x (arrival_moment x p) (Deliver i q)) (front_at (world_of x) i q)) o

      by_item : (p : Place) → place_at (world_of t) i q ≡ Some p → arrival_moment u p ≡ arrival_moment t p → (o : Option Item) → front_at (world_of t) i q ≡ o
          → option_map (λ (item : Item). own_event u (arrival_moment u p) (Deliver i q)) o ≡ option_map (λ (item : Item). own_event t (arrival_moment t p) (Deliver i q)) o
      by_item p port same None front = refl
      by_item p port same (Some item) front =
          ap (λ m. Some (own_at (Deliver i q) m)) (then_same (arrival_moment t p) (arrival_moment u p) (Deliver i q) same (inl (arrives t K.on_time i r at q p item port front)))

      by_place : (o : Option Place) → place_at (world_of t) i q ≡ o → arrival_event u i q ≡ arrival_event t i q
      by_place None port = ap (arriving u) (same_place q ∙ port) ∙ sym (ap (arriving t) port)
      by_place (Some p) port =
          ap (arriving u) (same_place q ∙ port)
          ∙ ap (option_map (λ (item : Item). own_event u (arrival_moment u p) (Deliver i q))) front
          ∙ by_item p port moment (front_at (world_of t) i q) refl
          ∙ sym (ap (arriving t) port)
        where
          link : slice_get (world_of u).links p.link ≡ slice_get (world_of t).links p.link
          link = leaves.links p.link (apart.links q p port)

          front : front_at (world_of u) i q ≡ front_at (world_of t) i q
          front =
              ap (λ (o : Option Place). option_and_then (λ (s : Side). slice_get s.inbox 0) (option_and_then (λ (y : Place). option_map (side y.end) (slice_get (world_of u).links y.link)) o)) (same_place q ∙ port)
              ∙ ap (λ (o : Option Link). option_and_then (λ (s : Side). slice_get s.inbox 0) (option_map (side p.end) o)) link
              ∙ sym (ap (λ (o : Option Place). option_and_then (λ (s : Side). slice_get s.inbox 0) (option_and_then (λ (y : Place). option_map (side y.end) (slice_get (world_of t).links y.link)) o)) port)

          moment : arrival_moment u p ≡ arrival_moment t p
          moment = ap (λ (o : Option TimedLink). option_map_or (λ (k : TimedLink). option_map_or (λ (x : Arrival). x.moment) (slice_get (towards p.end k).arrivals 0) 0) o 0)
              (link_time_untouched e.moment (world_of t) e.step t.links p.link (apart.links q p port))

  same_notice : (d : ℕ) → notice_at (world_of u) i d ≡ notice_at (world_of t) i d
  same_notice d =
      ap (λ (o : Option ℕ). if option_map_or (λ k. d == k) o false then option_and_then (λ (a : Attachments). slice_get a.notices 0) (slice_get (world_of u).attachments i) else None) same_degree
      ∙ ap (λ (o : Option Attachments). if is_at_home (world_of t) i d then option_and_then (λ (a : Attachments). slice_get a.notices 0) o else None) (leaves.attachments i apart.attachments)

  home_same : home_event u i ≡ home_event t i
  home_same = ap (option_and_then (λ d. option_map (λ (n : Notice). event_now u (Deliver i d)) (notice_at (world_of u) i d))) same_degree ∙ by_degree (degree_of (world_of t) i)
    where
      by_notice : (d : ℕ) (o : Option Notice) → notice_at (world_of t) i d ≡ o → option_map (λ (n : Notice). event_now u (Deliver i d)) o ≡ option_map (λ (n : Notice). event_now t (Deliver i d)) o
      by_notice d None waits = refl
      by_notice d (Some n) waits = ap (λ m. Some (own_at (Deliver i d) m)) (now_same (Deliver i d) (inr (record { router = r; at = at; notice = n; waits = waits; now = refl })))

      by_degree : (o : Option ℕ) → option_and_then (λ d. option_map (λ (n : Notice). event_now u (Deliver i d)) (notice_at (world_of u) i d)) o
          ≡ option_and_then (λ d. option_map (λ (n : Notice). event_now t (Deliver i d)) (notice_at (world_of t) i d)) o
      by_degree None = refl
      by_degree (Some d) = ap (option_map (λ (n : Notice). event_now u (Deliver i d))) (same_notice d) ∙ by_notice d (notice_at (world_of t) i d) refl

  abbrev ports : Timed → ℕ
  ports x = option_map_or (λ d. d) (degree_of (world_of x) i) 0

  waiting_same : waiting_event u i ≡ waiting_event t i
  waiting_same =
      ap (λ o. sooner (sooner o (soonest (arrival_event u i) (ports u))) (home_event u i)) publication_same
      ∙ ap (λ o. sooner (sooner (publication_event t i) o) (home_event u i))
      (soonest_same (arrival_event u i) (arrival_event t i) arrival_same (ports u) ∙ ap (λ (o : Option ℕ). soonest (arrival_event t i) (option_map_or (λ d. d) o 0)) same_degree)
      ∙ ap (sooner (sooner (publication_event t i) (soonest (arrival_event t i) (ports t)))) home_same

  pub router_same : router_event u i ≡ router_event t i
  router_same = ap (λ (o : Option Event). option_map_or (λ x. Some x) o (waiting_event u i)) release_same ∙ ap (option_map_or (λ (x : Event). Some x) (release_event t i)) waiting_same
