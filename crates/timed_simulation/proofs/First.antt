-- What is done next is due, and nothing is due sooner.
use Rattle.std.proofs.Common.{refl, sym, ap, subst, ◌∙◌, arith, inl, inr, ltb-true, ltb-false, ◌≡◌, ◌⊎◌, ℕ, zero, suc, ◌<◌, ◌≤◌, max, Bool, true, false, nat_lt, if◌then◌else◌, MatchBool, MatchOption, List, [], ◌∷◌, Option, Some, None, option_map, option_and_then, slice_get, length}
use Rattle.no_packet_loops.proofs.Common.{option_map_or, false≢true, None_not_Some, Some_injective, element_there, slice_get_within, Held, Item, Notice, Place, End, A, B, Link, Router, Side, side, is_due, ripe_front, front_at, notice_at, release_at, degree_of, place_at, cases_lt, Step, LinkUp, LinkDown, SetCost, Deliver, Publish, Release, Attach, Detach}
use Rattle.timed_simulation.specs.{declared.links.Arrival.Arrival, declared.events.Change.Change, declared.events.Event.Event, declared.events.RouterTime.RouterTime, Links.TimedLink, Links.later, Links.towards, Timed.Timed, Timed.world_of}
use Rattle.timed_simulation.specs.Events.{arrival_event, arrival_moment, change_event, event_now, home_event, next_event, own_event, publication_event, publication_moment, router_event, sooner, soonest, waiting_event}
use Rattle.timed_simulation.specs.Due.{ArrivesAt, IsChange, IsDue, IsFirst, IsOnTime, IsOwnDue, IsTimelyLink, IsToldAt, NothingIsDue, NothingIsLate, NothingIsLeftOut, PublishesAt, ReleasesAt, RisesFrom}
use Rattle.timed_simulation.proofs.{Rising.rises_at, Ports.place_of_front, Ports.port_of_notice, Ports.port_of_place, Timely.arrival_of}

-- ---- the soonest of several

-- what is done, if it is this, is done by this moment
abbrev pub Before : ℕ → Option Event → Type 0
Before m o = (e : Event) × (o ≡ Some e) × (e.moment ≤ m)

of_first : (m : ℕ) (a b : Option Event) → Before m a → Before m (sooner a b)
of_first m None b (e, is, le) = absurd (None_not_Some is)
of_first m (Some a) None found = found
of_first m (Some a) (Some b) (e, is, le) = by_order (nat_lt b.moment a.moment) refl
  where
    by_order : (t : Bool) → nat_lt b.moment a.moment ≡ t → Before m (if t then Some b else Some a)
    by_order true lt =
        let same : a.moment ≡ e.moment = ap (λ (x : Event). x.moment) (Some_injective is) in
        let less : b.moment < a.moment = ltb-true b.moment a.moment lt in
        (b, refl, omega (arith, same, less, le))
    by_order false lt = (e, is, le)

of_second : (m : ℕ) (a b : Option Event) → Before m b → Before m (sooner a b)
of_second m None b found = found
of_second m (Some a) None (e, is, le) = absurd (None_not_Some is)
of_second m (Some a) (Some b) (e, is, le) = by_order (nat_lt b.moment a.moment) refl
  where
    by_order : (t : Bool) → nat_lt b.moment a.moment ≡ t → Before m (if t then Some b else Some a)
    by_order true lt = (e, is, le)
    by_order false lt =
        let same : b.moment ≡ e.moment = ap (λ (x : Event). x.moment) (Some_injective is) in
        let less : a.moment ≤ b.moment = ltb-false b.moment a.moment lt in
        (a, refl, omega (arith, same, less, le))

of_many : (m : ℕ) (f : ℕ → Option Event) (n i : ℕ) → i < n → Before m (f i) → Before m (soonest f n)
of_many m f zero i below found = absurd (omega (arith, below))
of_many m f (suc n) i below found = by_place (cases_lt i n) (λ less. of_many m f n i less found)
  where
    by_place : (i < n) ⊎ (n ≤ i) → (i < n → Before m (soonest f n)) → Before m (soonest f (suc n))
    by_place (inl less) before = of_first m (soonest f n) (f n) (before less)
    by_place (inr over) before = (let here : i ≡ n = omega (arith, below, over) in of_second m (soonest f n) (f n) (subst (λ k. Before m (f k)) here found))

-- ---- what is due is done next, or something sooner

module _ (t : Timed) (m : ℕ) (from : t.clock ≤ m) where
  of_router : (i : ℕ) (r : Router) → slice_get (world_of t).routers i ≡ Some r → Before m (router_event t i) → Before m (next_event t)
  of_router i r at found = of_second m (change_event t) (soonest (router_event t) (length (world_of t).routers)) (of_many m (router_event t) (length (world_of t).routers) i (slice_get_within (world_of t).routers i r at) found)

  -- a release comes first, and is due now
  of_waiting : (i : ℕ) → Before m (waiting_event t i) → Before m (router_event t i)
  of_waiting i found = by_release (release_at (world_of t) i)
    where
      by_release : (o : Option Held) → Before m (option_map_or (λ (e : Event). Some e) (option_map (λ (h : Held). event_now t (Release i)) o) (waiting_event t i))
      by_release None = found
      by_release (Some h) = (event_now t (Release i), refl, from)

  of_release : (i : ℕ) (h : Held) → release_at (world_of t) i ≡ Some h → Before m (router_event t i)
  of_release i h ripe = (event_now t (Release i), ap (λ (o : Option Held). option_map_or (λ (e : Event). Some e) (option_map (λ (h : Held). event_now t (Release i)) o) (waiting_event t i)) ripe, from)

  abbrev ports : ℕ → ℕ
  ports i = option_map_or (λ d. d) (degree_of (world_of t) i) 0

  of_publication : (i : ℕ) → Before m (publication_event t i) → Before m (waiting_event t i)
  of_publication i found = of_first m (sooner (publication_event t i) (soonest (arrival_event t i) (ports i))) (home_event t i) (of_first m (publication_event t i) (soonest (arrival_event t i) (ports i)) found)

  of_arrival : (i q d : ℕ) → degree_of (world_of t) i ≡ Some d → q < d → Before m (arrival_event t i q) → Before m (waiting_event t i)
  of_arrival i q d degree below found = of_first m (sooner (publication_event t i) (soonest (arrival_event t i) (ports i))) (home_event t i)
      (of_second m (publication_event t i) (soonest (arrival_event t i) (ports i)) (of_many m (arrival_event t i) (ports i) q (subst (λ (o : Option ℕ). q < option_map_or (λ x. x) o 0) (sym degree) below) found))

  of_home : (i : ℕ) → Before m (home_event t i) → Before m (waiting_event t i)
  of_home i found = of_second m (sooner (publication_event t i) (soonest (arrival_event t i) (ports i))) (home_event t i) found

  released : (i : ℕ) → ReleasesAt t m i → Before m (next_event t)
  released i D = by_router (slice_get (world_of t).routers i) refl
    where
      by_router : (o : Option Router) → slice_get (world_of t).routers i ≡ o → Before m (next_event t)
      by_router None at = absurd (None_not_Some (sym (ap (option_and_then ripe_front) at) ∙ D.ripe))
      by_router (Some r) at = of_router i r at (of_release i D.held D.ripe)

  published : (i : ℕ) → PublishesAt t m i → Before m (next_event t)
  published i D = of_router i D.router D.at (of_waiting i (of_publication i (own_event t (publication_moment t i) (Publish i), is, le)))
    where
      is : publication_event t i ≡ Some (own_event t (publication_moment t i) (Publish i))
      is = ap (option_and_then (λ (r : Router). if is_due r then Some (own_event t (publication_moment t i) (Publish i)) else None)) D.at ∙ ap (λ (b : Bool). if b then Some (own_event t (publication_moment t i) (Publish i)) else None) D.due

      le : max t.clock (publication_moment t i) ≤ m
      le =
          let at : publication_moment t i ≡ later (D.time).since (D.time).delay = ap (λ (o : Option RouterTime). option_map_or (λ (x : RouterTime). later x.since x.delay) o 0) D.there in
          let waited = D.waited in
          omega (arith, at, waited, from)

  -- when the front item arrives
  arrival_moment_is : (p : Place) (link : TimedLink) (a : Arrival) → slice_get t.links p.link ≡ Some link → slice_get (towards p.end link).arrivals 0 ≡ Some a → arrival_moment t p ≡ a.moment
  arrival_moment_is p link a there first =
      ap (λ (o : Option TimedLink). option_map_or (λ (k : TimedLink). option_map_or (λ (x : Arrival). x.moment) (slice_get (towards p.end k).arrivals 0) 0) o 0) there
      ∙ ap (λ (o : Option Arrival). option_map_or (λ (x : Arrival). x.moment) o 0) first

  arrived : (i q : ℕ) → ArrivesAt t m i q → Before m (next_event t)
  arrived i q D =
      let (d, degree, below) = port_of_place (world_of t) i q D.place D.port in
      of_router i D.router D.at (of_waiting i (of_arrival i q d degree below (own_event t (arrival_moment t D.place) (Deliver i q), is, le)))
    where
      is : arrival_event t i q ≡ Some (own_event t (arrival_moment t D.place) (Deliver i q))
      is = ap (option_and_then (λ (p : Place). option_map (λ (item : Item). own_event t (arrival_moment t p) (Deliver i q)) (front_at (world_of t) i q))) D.port ∙ ap (option_map (λ (item : Item). own_event t (arrival_moment t D.place) (Deliver i q))) D.front

      le : max t.clock (arrival_moment t D.place) ≤ m
      le =
          let at = arrival_moment_is D.place D.link D.arrival D.there D.first in
          let arrives = D.arrives in
          omega (arith, at, arrives, from)

  told : (i q : ℕ) → IsToldAt t m i q → Before m (next_event t)
  told i q D =
      let (degree, _) = port_of_notice (world_of t) i q D.notice D.waits in
      of_router i D.router D.at (of_waiting i (of_home i (
        event_now t (Deliver i q),
        ap (option_and_then (λ (d : ℕ). option_map (λ (n : Notice). event_now t (Deliver i d)) (notice_at (world_of t) i d))) degree ∙ ap (option_map (λ (n : Notice). event_now t (Deliver i q))) D.waits,
        from,
      )))

  pub own_before : (s : Step) → IsOwnDue t m s → Before m (next_event t)
  own_before (Release i) D = released i D
  own_before (Publish i) D = published i D
  own_before (Deliver i q) (inl D) = arrived i q D
  own_before (Deliver i q) (inr D) = told i q D
  own_before _ D = absurd D

  pub first_change_before : (c : Change) → slice_get t.changes 0 ≡ Some c → c.moment ≤ m → Before m (next_event t)
  first_change_before c at le = of_first m (change_event t) (soonest (router_event t) (length (world_of t).routers))
      (record { moment = max t.clock c.moment; step = c.step; given = true }, ap (option_map (λ (c : Change). record { moment = max t.clock c.moment; step = c.step; given = true })) at, omega (arith, le, from))

-- ---- nothing is late

module _ (t : Timed) (K : IsOnTime (world_of t) t.clock t.links t.routers t.changes) where
  -- the arrival of an item that is there is no sooner than now
  on_its_way : (i q : ℕ) (p : Place) (item : Item) (link : TimedLink) (a : Arrival) → place_at (world_of t) i q ≡ Some p → front_at (world_of t) i q ≡ Some item → slice_get t.links p.link ≡ Some link → slice_get (towards p.end link).arrivals 0 ≡ Some a → t.clock ≤ a.moment
  on_its_way i q p item link a port front there first = by_end p.end refl (element_there (world_of t).links p.link within)
    where
      as_many : length t.links ≡ length (world_of t).links
      as_many = (K.on_links).as_many

      within : p.link < length (world_of t).links
      within = (let listed = slice_get_within t.links p.link link there in omega (arith, listed, as_many))

      by_end : (e : End) → p.end ≡ e → ((k : Link) × (slice_get (world_of t).links p.link ≡ Some k)) → t.clock ≤ a.moment
      by_end A is (k, at) = rises_at (λ (x : Arrival). x.moment) t.clock (link.to_a).arrivals 0 a (((K.on_links).each p.link k link at there).to_a).rises (sym (ap (λ (e : End). slice_get (towards e link).arrivals 0) is) ∙ first)
      by_end B is (k, at) = rises_at (λ (x : Arrival). x.moment) t.clock (link.to_b).arrivals 0 a (((K.on_links).each p.link k link at there).to_b).rises (sym (ap (λ (e : End). slice_get (towards e link).arrivals 0) is) ∙ first)

  own_later : (m : ℕ) (s : Step) → IsOwnDue t m s → t.clock ≤ m
  own_later m (Release i) D = (let now = D.now in omega (arith, now))
  own_later m (Publish i) D =
      let after = (K.at_routers).each i D.router D.time D.at D.there D.due in
      let waited = D.waited in
      omega (arith, after, waited)
  own_later m (Deliver i q) (inl D) =
      let after = on_its_way i q D.place D.item D.link D.arrival D.port D.front D.there D.first in
      let arrives = D.arrives in
      omega (arith, after, arrives)
  own_later m (Deliver i q) (inr D) = (let now = D.now in omega (arith, now))
  own_later m _ D = absurd D

  change_later : (m : ℕ) (s : Step) → IsChange t m s → t.clock ≤ m
  change_later m s D = rises_at (λ (c : Change). c.moment) t.clock t.changes D.place (record { moment = m; step = s }) K.of_changes D.at

  pub nothing_late : NothingIsLate t
  nothing_late d due = by_kind d.given due
    where
      by_kind : (b : Bool) → MatchBool b (IsChange t d.moment d.step) (IsOwnDue t d.moment d.step) → t.clock ≤ d.moment
      by_kind true D = change_later d.moment d.step D
      by_kind false D = own_later d.moment d.step D

  -- ---- nothing is due sooner than what is done next

  change_before : (m : ℕ) (s : Step) → IsChange t m s → Before m (next_event t)
  change_before m s D = by_changes t.changes refl K.of_changes D.at
    where
      by_changes : (cs : List Change) → t.changes ≡ cs → RisesFrom (λ (c : Change). c.moment) t.clock cs → slice_get cs D.place ≡ Some (record { moment = m; step = s }) → Before m (next_event t)
      by_changes [] are r at = absurd (None_not_Some at)
      by_changes (c ∷ cs) are r at =
          let soon = first_change_before t c.moment r.0 c (ap (λ (xs : List Change). slice_get xs 0) are) (omega arith) in
          let before = soon.2 in
          let later : c.moment ≤ m = rises_at (λ (x : Change). x.moment) c.moment (c ∷ cs) D.place (record { moment = m; step = s }) (omega arith, r.1) at in
          (soon.0, soon.1, omega (arith, before, later))

  -- where something is left to do, an event is next, and is no later
  due_before : (d : Event) → IsDue t d → Before d.moment (next_event t)
  due_before d due = by_kind d.given due
    where
      by_kind : (b : Bool) → MatchBool b (IsChange t d.moment d.step) (IsOwnDue t d.moment d.step) → Before d.moment (next_event t)
      by_kind true D = change_before d.moment d.step D
      by_kind false D = own_before t d.moment (own_later d.moment d.step D) d.step D

  pub next_first : (e : Event) → next_event t ≡ Some e → IsFirst t e
  next_first e is d due = by_found (due_before d due)
    where
      by_found : Before d.moment (next_event t) → e.moment ≤ d.moment
      by_found (x, at, le) = (let same : e.moment ≡ x.moment = ap (λ (y : Event). y.moment) (Some_injective (sym is ∙ at)) in omega (arith, same, le))

  -- so where none is next, nothing is left to do
  pub nothing_due : next_event t ≡ None → NothingIsDue t
  nothing_due none d due = by_found (due_before d due)
    where
      by_found : Before d.moment (next_event t) → ⊥
      by_found (x, at, le) = None_not_Some (sym none ∙ at)

  -- ---- what is done next is due

  abbrev IsDueIf : Option Event → Type 0
  IsDueIf o = MatchOption o (Unit {0}) (IsDue t)

  due_of_two : (a b : Option Event) → IsDueIf a → IsDueIf b → IsDueIf (sooner a b)
  due_of_two None b p q = q
  due_of_two (Some a) None p q = p
  due_of_two (Some a) (Some b) p q = by_order (nat_lt b.moment a.moment)
    where
      by_order : (o : Bool) → IsDueIf (if o then Some b else Some a)
      by_order true = q
      by_order false = p

  due_of_many : (f : ℕ → Option Event) (n : ℕ) → ((i : ℕ) → i < n → IsDueIf (f i)) → IsDueIf (soonest f n)
  due_of_many f zero each = tt
  due_of_many f (suc n) each = due_of_two (soonest f n) (f n) (due_of_many f n (λ i below. each i (omega (arith, below)))) (each n (omega arith))

  -- a moment that is not past is that moment
  due_then : (m : ℕ) (s : Step) → IsOwnDue t m s → IsOwnDue t (max t.clock m) s
  due_then m s D = (let after = own_later m s D in let same : max t.clock m ≡ m = omega (arith, after) in subst (λ n. IsOwnDue t n s) (sym same) D)

  change_due : IsDueIf (change_event t)
  change_due = by_change (slice_get t.changes 0) refl
    where
      by_change : (o : Option Change) → slice_get t.changes 0 ≡ o → IsDueIf (option_map (λ (c : Change). record { moment = max t.clock c.moment; step = c.step; given = true }) o)
      by_change None at = tt
      by_change (Some c) at =
          let after : t.clock ≤ c.moment = rises_at (λ (x : Change). x.moment) t.clock t.changes 0 c K.of_changes at in
          let same : max t.clock c.moment ≡ c.moment = omega (arith, after) in
          subst (λ n. IsChange t n c.step) (sym same) (record { place = 0; at = at })

  module _ (i : ℕ) (r : Router) (at : slice_get (world_of t).routers i ≡ Some r) where
    time : (x : RouterTime) × (slice_get t.routers i ≡ Some x)
    time =
        let as_many = (K.at_routers).as_many in
        let within = slice_get_within (world_of t).routers i r at in
        element_there t.routers i (omega (arith, as_many, within))

    pub publishes : is_due r ≡ true → PublishesAt t (publication_moment t i) i
    publishes due = record {
      router = r;
      at = at;
      due = due;
      time = time.0;
      there = time.1;
      waited = ap (λ (o : Option RouterTime). option_map_or (λ (x : RouterTime). later x.since x.delay) o 0) time.1;
    }

    publication_due : IsDueIf (publication_event t i)
    publication_due = subst (λ (o : Option Router). IsDueIf (option_and_then (λ (r : Router). if is_due r then Some (own_event t (publication_moment t i) (Publish i)) else None) o)) (sym at) (by_due (is_due r) refl)
      where
        by_due : (b : Bool) → is_due r ≡ b → IsDueIf (if b then Some (own_event t (publication_moment t i) (Publish i)) else None)
        by_due true due = due_then (publication_moment t i) (Publish i) (publishes due)
        by_due false _ = tt

    pub arrives : (q : ℕ) (p : Place) (item : Item) → place_at (world_of t) i q ≡ Some p → front_at (world_of t) i q ≡ Some item → ArrivesAt t (arrival_moment t p) i q
    arrives q p item port front = by_link (slice_get (world_of t).links p.link) refl
      where
        seen : (o : Option Link) → slice_get (world_of t).links p.link ≡ o → option_and_then (λ (s : Side). slice_get s.inbox 0) (option_map (side p.end) o) ≡ Some item
        seen o is = sym (ap (λ (x : Option Place). option_and_then (λ (s : Side). slice_get s.inbox 0) (option_and_then (λ (y : Place). option_map (side y.end) (slice_get (world_of t).links y.link)) x)) port ∙ ap (λ (x : Option Link). option_and_then (λ (s : Side). slice_get s.inbox 0) (option_map (side p.end) x)) is) ∙ front

        at_end : (e : End) (k : Link) (x : TimedLink) → IsTimelyLink t.clock k x → slice_get (side e k).inbox 0 ≡ Some item → (a : Arrival) × (slice_get (towards e x).arrivals 0 ≡ Some a)
        at_end A k x timely first = arrival_of (k.a).inbox (x.to_a).arrivals item (timely.to_a).kinds first
        at_end B k x timely first = arrival_of (k.b).inbox (x.to_b).arrivals item (timely.to_b).kinds first

        by_link : (o : Option Link) → slice_get (world_of t).links p.link ≡ o → ArrivesAt t (arrival_moment t p) i q
        by_link None is = absurd (None_not_Some (seen None is))
        by_link (Some k) is =
            let as_many = (K.on_links).as_many in
            let within = slice_get_within (world_of t).links p.link k is in
            let (x, there) = element_there t.links p.link (omega (arith, as_many, within)) in
            let (a, first) = at_end p.end k x ((K.on_links).each p.link k x is there) (seen (Some k) is) in
            record {
              router = r;
              at = at;
              place = p;
              port = port;
              item = item;
              front = front;
              link = x;
              there = there;
              arrival = a;
              first = first;
              arrives = arrival_moment_is t t.clock (omega arith) p x a there first;
            }

    arrival_due : (q : ℕ) → IsDueIf (arrival_event t i q)
    arrival_due q = by_place (place_at (world_of t) i q) refl
      where
        by_item : (p : Place) → place_at (world_of t) i q ≡ Some p → (o : Option Item) → front_at (world_of t) i q ≡ o → IsDueIf (option_map (λ (item : Item). own_event t (arrival_moment t p) (Deliver i q)) o)
        by_item p port None _ = tt
        by_item p port (Some item) front = due_then (arrival_moment t p) (Deliver i q) (inl (arrives q p item port front))

        by_place : (o : Option Place) → place_at (world_of t) i q ≡ o → IsDueIf (option_and_then (λ (p : Place). option_map (λ (item : Item). own_event t (arrival_moment t p) (Deliver i q)) (front_at (world_of t) i q)) o)
        by_place None _ = tt
        by_place (Some p) port = by_item p port (front_at (world_of t) i q) refl

    home_due : IsDueIf (home_event t i)
    home_due = by_degree (degree_of (world_of t) i)
      where
        by_notice : (d : ℕ) (o : Option Notice) → notice_at (world_of t) i d ≡ o → IsDueIf (option_map (λ (n : Notice). event_now t (Deliver i d)) o)
        by_notice d None _ = tt
        by_notice d (Some n) waits = inr (record { router = r; at = at; notice = n; waits = waits; now = refl })

        by_degree : (o : Option ℕ) → IsDueIf (option_and_then (λ (d : ℕ). option_map (λ (n : Notice). event_now t (Deliver i d)) (notice_at (world_of t) i d)) o)
        by_degree None = tt
        by_degree (Some d) = by_notice d (notice_at (world_of t) i d) refl

    waiting_due : IsDueIf (waiting_event t i)
    waiting_due =
        due_of_two (sooner (publication_event t i) (soonest (arrival_event t i) (option_map_or (λ d. d) (degree_of (world_of t) i) 0))) (home_event t i)
        (due_of_two (publication_event t i) (soonest (arrival_event t i) (option_map_or (λ d. d) (degree_of (world_of t) i) 0)) publication_due
        (due_of_many (arrival_event t i) (option_map_or (λ d. d) (degree_of (world_of t) i) 0) (λ q _. arrival_due q)))
        home_due

    pub router_due : IsDueIf (router_event t i)
    router_due = by_release (release_at (world_of t) i) refl
      where
        by_release : (o : Option Held) → release_at (world_of t) i ≡ o → IsDueIf (option_map_or (λ (e : Event). Some e) (option_map (λ (h : Held). event_now t (Release i)) o) (waiting_event t i))
        by_release None _ = waiting_due
        by_release (Some h) ripe = record { held = h; ripe = ripe; now = refl }

  pub next_due : (e : Event) → next_event t ≡ Some e → IsDue t e
  next_due e is = subst IsDueIf is (due_of_two (change_event t) (soonest (router_event t) (length (world_of t).routers)) change_due
      (due_of_many (router_event t) (length (world_of t).routers) (λ i below. (let R = element_there (world_of t).routers i below in router_due i R.0 R.1))))

  -- ---- nothing is left out

  pub none_left_out : NothingIsLeftOut t
  none_left_out (Deliver i q) own (r, at, inl (item, front)) =
      let (p, port) = place_of_front (world_of t) i q item front in
      (arrival_moment t p, inl (arrives i r at q p item port front))
  none_left_out (Deliver i q) own (r, at, inr (n, waits)) = (t.clock, inr (record { router = r; at = at; notice = n; waits = waits; now = refl }))
  none_left_out (Publish i) own (r, at, due) = (publication_moment t i, publishes i r at due)
  none_left_out (Release i) own (h, ripe) = (t.clock, record { held = h; ripe = ripe; now = refl })
  none_left_out (LinkUp l) own L = absurd (false≢true own)
  none_left_out (LinkDown l) own L = absurd (false≢true own)
  none_left_out (SetCost i q cost) own L = absurd (false≢true own)
  none_left_out (Attach i p cost) own L = absurd (false≢true own)
  none_left_out (Detach i p) own L = absurd (false≢true own)
