-- The moments that are kept of routers: which is first, and what is noted anew after an event.
use Rattle.std.proofs.Common.{refl, sym, ap, subst, ◌∙◌, arith, inl, inr, ◌≡◌, ◌≢◌, ◌⊎◌, ℕ, zero, suc, ◌<◌, ◌≤◌, Bool, true, false, ◌==◌, nat_lt, if◌then◌else◌, List, [], ◌∷◌, length, replicate, set, Result, Ok, Err, OnOk, OnErr, Option, Some, None, MatchOption, option_map, option_and_then, slice_get}
use Rattle.no_packet_loops.proofs.Common.{length-map-range_with_len, slice_get_within, Network, LinkSpec, Place, World, End, A, B, IsNetwork, opening, opening_router_of, at_port, router_end, place_at, Runs, element_there, None_not_Some, Some_injective, cases_eq, cases_lt, le-ltb, lt-ltb, length-replicate, length-set, Step, Deliver, Publish, Release, Attach, Detach}
use Rattle.no_packet_loops.proofs.{Places.Laid, Places.laid, WorldLaws.Runs-shape, WorldLaws.next-shape}
use Rattle.world.specs.{declared.touched.Touched.Touched, Touched.touched_by}
use Rattle.world.proofs.Rest.{opening-rests, settled}
use Rattle.minima.specs.{declared.due.Due.Due, Trees.IsFirstDue, Trees.NoneDue}
use Rattle.timed_simulation.specs.{declared.events.Change.Change, declared.events.Event.Event, declared.fault.TimeFault.TimeFault, declared.links.LinkDelays.LinkDelays, Events.router_event, Events.sooner, Events.soonest, Due.IsDue}
use Rattle.timed_simulation.specs.Timed.{Timed, after_event, opening_timed, with_timed_change, world_of}
use Rattle.timed_simulation.specs.Runs.{IsAtRest, IsNext, IsTimed, steps_of}
use Rattle.timed_simulation.specs.Next.{KeepsMoments, ends_of, looked_again, looked_at, looked_ends, looked_if, next_moment, owner_of}
use Rattle.timed_simulation.proofs.{Apart.router_same, First.router_due, Moments.NotBefore, Moments.sooner-after, Rest.rest_nothing, Runs.kept_open}

-- ---- the first of several

abbrev moment_of : Option Event → Option ℕ
moment_of o = option_map (λ (e : Event). e.moment) o

-- none of the first so many is sooner than this
later_many : (m : ℕ) (f : ℕ → Option Event) (n : ℕ) → ((i : ℕ) → i < n → NotBefore m (f i)) → NotBefore m (soonest f n)
later_many m f zero each = tt
later_many m f (suc n) each = sooner-after m (soonest f n) (f n) (later_many m f n (λ i below. each i (omega (arith, below)))) (each n (omega arith))

not_before : (m : ℕ) (o : Option Event) → ((j : ℕ) → moment_of o ≡ Some j → m ≤ j) → NotBefore m o
not_before m None each = tt
not_before m (Some e) each = each e.moment refl

-- of two, the first is kept where the second is no sooner, and the second taken where the first is later
keeps_first : (m : ℕ) (a b : Option Event) → moment_of a ≡ Some m → NotBefore m b → sooner a b ≡ a
keeps_first m None b is later = absurd (None_not_Some is)
keeps_first m (Some a) None is later = refl
keeps_first m (Some a) (Some b) is later = ap (λ (t : Bool). if t then Some b else Some a) (le-ltb b.moment a.moment (let same = Some_injective is in omega (arith, same, later)))

takes_second : (m : ℕ) (a b : Option Event) → moment_of b ≡ Some m → NotBefore (suc m) a → sooner a b ≡ b
takes_second m None b is later = refl
takes_second m (Some a) None is later = absurd (None_not_Some is)
takes_second m (Some a) (Some b) is later = ap (λ (t : Bool). if t then Some b else Some a) (lt-ltb b.moment a.moment (let same = Some_injective is in omega (arith, same, later)))

-- the soonest of several is the first of the least moments
pub soonest_is : (f : ℕ → Option Event) (m k n : ℕ) → k < n → moment_of (f k) ≡ Some m → ((i j : ℕ) → i < n → moment_of (f i) ≡ Some j → m ≤ j) → ((i : ℕ) → i < n → moment_of (f i) ≡ Some m → k ≤ i) → soonest f n ≡ f k
soonest_is f m k zero below is least lowest = absurd (omega (arith, below))
soonest_is f m k (suc n) below is least lowest =
    by_place (cases_lt k n) (λ inner. soonest_is f m k n inner is (λ i j less. least i j (omega (arith, less))) (λ i less. lowest i (omega (arith, less))))
  where
    beyond : k ≡ n → (i : ℕ) → i < n → (j : ℕ) → moment_of (f i) ≡ Some j → suc m ≤ j
    beyond last i before j at = by_order (cases_eq j m)
      where
        by_order : (j ≡ m) ⊎ (j ≢ m) → suc m ≤ j
        by_order (inl same) = absurd (let lower = lowest i (omega (arith, before)) (at ∙ ap Some same) in omega (arith, lower, last, before))
        by_order (inr other) = by_size (cases_lt m j)
          where
            by_size : (m < j) ⊎ (j ≤ m) → suc m ≤ j
            by_size (inl less) = omega (arith, less)
            by_size (inr more) = absurd (other (let no_less = least i j (omega (arith, before)) at in omega (arith, no_less, more)))

    by_place : (k < n) ⊎ (n ≤ k) → (k < n → soonest f n ≡ f k) → sooner (soonest f n) (f n) ≡ f k
    by_place (inl inner) before = ap (λ o. sooner o (f n)) (before inner) ∙ keeps_first m (f k) (f n) is (not_before m (f n) (λ j at. least n j (omega arith) at))
    by_place (inr over) before =
        let last : k ≡ n = omega (arith, over, below) in
        takes_second m (soonest f n) (f n) (ap (λ i. moment_of (f i)) (sym last) ∙ is) (later_many (suc m) f n (λ i less. not_before (suc m) (f i) (beyond last i less)))
        ∙ ap f (sym last)

soonest_none : (f : ℕ → Option Event) (n : ℕ) → ((i : ℕ) → i < n → f i ≡ None) → soonest f n ≡ None
soonest_none f zero none = refl
soonest_none f (suc n) none = ap (λ o. sooner o (f n)) (soonest_none f n (λ i below. none i (omega (arith, below)))) ∙ none n (omega arith)

-- ---- the first of the moments that are kept

module _ (t : Timed) (moments : List (Option ℕ)) (K : KeepsMoments t moments) where
  kept_at : (i : ℕ) (o : Option ℕ) → slice_get moments i ≡ Some o → (i < length (world_of t).routers) × (next_moment t i ≡ o)
  kept_at i o at = (below, Some_injective (sym (K.each i below) ∙ at))
    where
      below : i < length (world_of t).routers
      below = (let within = slice_get_within moments i o at in let as_many = K.as_many in omega (arith, within, as_many))

  pub router_known : (d : Due) → IsFirstDue moments d → d.router < length (world_of t).routers
  router_known d first = (kept_at d.router (Some d.moment) first.at).0

  -- what the first of them has to do is the soonest of what all have to do
  pub next_soonest : (d : Due) → IsFirstDue moments d → soonest (router_event t) (length (world_of t).routers) ≡ router_event t d.router
  next_soonest d first =
      let here = kept_at d.router (Some d.moment) first.at in
      soonest_is (router_event t) d.moment d.router (length (world_of t).routers) here.0 here.1
      (λ i j below is. first.soonest i j (K.each i below ∙ ap Some is))
      (λ i below is. first.lowest i (K.each i below ∙ ap Some is))

  -- and where none of them is due, no router has anything to do
  pub next_none : NoneDue moments → soonest (router_event t) (length (world_of t).routers) ≡ None
  next_none none = soonest_none (router_event t) (length (world_of t).routers) (λ i below. by_event i below (router_event t i) refl)
    where
      by_event : (i : ℕ) → i < length (world_of t).routers → (o : Option Event) → router_event t i ≡ o → o ≡ None
      by_event i below None is = refl
      by_event i below (Some e) is = absurd (none i e.moment (K.each i below ∙ ap (λ (o : Option Event). Some (moment_of o)) is))

  pub kept_changes : (cs : List Change) → KeepsMoments (record t { changes = cs }) moments
  kept_changes cs = record { as_many = K.as_many; each = K.each }

-- a change that was given, or not
pub kept_given : (t u : Timed) (c : Change) (moments : List (Option ℕ)) (r : Result (Unit {0}) TimeFault) → OnOk r (u ≡ with_timed_change c t) → OnErr r (u ≡ t) → KeepsMoments t moments → KeepsMoments u moments
kept_given t u c moments (Ok x) given failed K = subst (λ v. KeepsMoments v moments) (sym given) (kept_changes t moments K (with_timed_change c t).changes)
kept_given t u c moments (Err e) given failed K = subst (λ v. KeepsMoments v moments) (sym failed) K

-- ---- the opening

pub opened : (n : Network) → IsNetwork n → (delays : List LinkDelays) (waits : List ℕ) → length delays ≡ length n.links → length waits ≡ n.routers → KeepsMoments (opening_timed n delays waits) (replicate n.routers None)
opened n valid delays waits each_link each_router = record { as_many = length-replicate n.routers None ∙ sym count; each = each }
  where
    t : Timed
    t = opening_timed n delays waits

    count : length (opening n).routers ≡ n.routers
    count = length-map-range_with_len (opening_router_of n) 0 n.routers

    rests : IsAtRest t
    rests = (refl, sym (settled (opening n)) ∙ ap (λ k. k == 0) (opening-rests n))

    nothing : (i : ℕ) → i < length (opening n).routers → router_event t i ≡ None
    nothing i below = (let R = element_there (opening n).routers i below in by_event (router_event t i) refl (router_due t (kept_open n valid delays waits each_link each_router).on_time i R.0 R.1))
      where
        by_event : (o : Option Event) → router_event t i ≡ o → MatchOption o (Unit {0}) (IsDue t) → o ≡ None
        by_event None is due = refl
        by_event (Some e) is due = absurd (rest_nothing t rests e due)

    nones : ℕ → List (Option ℕ)
    nones k = replicate k None

    none_there : (k i : ℕ) → i < k → slice_get (nones k) i ≡ Some None
    none_there zero i below = absurd (omega (arith, below))
    none_there (suc k) zero below = refl
    none_there (suc k) (suc i) below = none_there k i (omega (arith, below))

    each : (i : ℕ) → i < length (opening n).routers → slice_get (replicate n.routers None) i ≡ Some (next_moment t i)
    each i below = none_there n.routers i (omega (arith, below, count)) ∙ ap (λ (o : Option Event). Some (moment_of o)) (sym (nothing i below))

-- ---- what is noted after an event

module _ (u : Timed) where
  -- the moment of a router is right
  abbrev pub IsRight : ℕ → List (Option ℕ) → Type 0
  IsRight i moments = slice_get moments i ≡ Some (next_moment u i)

  looked_many : (j : ℕ) (moments : List (Option ℕ)) → length (looked_at u j moments) ≡ length moments
  looked_many j moments = by_test (nat_lt j (length (world_of u).routers))
    where
      by_test : (b : Bool) → length (if b then set moments j (next_moment u j) else moments) ≡ length moments
      by_test true = length-set moments j (next_moment u j)
      by_test false = refl

  asked_right : (i : ℕ) (moments : List (Option ℕ)) → length moments ≡ length (world_of u).routers → i < length (world_of u).routers → IsRight i (looked_at u i moments)
  asked_right i moments many below =
      subst (λ (b : Bool). IsRight i (if b then set moments i (next_moment u i) else moments)) (sym (lt-ltb i (length (world_of u).routers) below)) (written moments i (next_moment u i) (omega (arith, many, below)))
    where
      written : (xs : List (Option ℕ)) (k : ℕ) (x : Option ℕ) → k < length xs → slice_get (set xs k x) k ≡ Some x
      written [] k x within = absurd (omega (arith, within))
      written (y ∷ ys) zero x within = refl
      written (y ∷ ys) (suc k) x within = written ys k x (omega (arith, within))

  -- and the others stay right
  stays_right : (i j : ℕ) (moments : List (Option ℕ)) → length moments ≡ length (world_of u).routers → i < length (world_of u).routers → IsRight i moments → IsRight i (looked_at u j moments)
  stays_right i j moments many below right = by_place (cases_eq i j)
    where
      unwritten : (xs : List (Option ℕ)) (k l : ℕ) (x : Option ℕ) → l ≢ k → slice_get (set xs k x) l ≡ slice_get xs l
      unwritten (y ∷ ys) zero zero x other = absurd (other refl)
      unwritten (y ∷ ys) (suc k) (suc l) x other = unwritten ys k l x (λ e. other (ap suc e))
      unwritten _ _ _ x other = refl

      by_test : i ≢ j → (b : Bool) → slice_get (if b then set moments j (next_moment u j) else moments) i ≡ slice_get moments i
      by_test other true = unwritten moments j i (next_moment u j) other
      by_test other false = refl

      by_place : (i ≡ j) ⊎ (i ≢ j) → IsRight i (looked_at u j moments)
      by_place (inl same) = subst (λ k. IsRight i (looked_at u k moments)) same (asked_right i moments many below)
      by_place (inr other) = by_test other (nat_lt j (length (world_of u).routers)) ∙ right

  module _ (i : ℕ) (below : i < length (world_of u).routers) where
    -- after the router that a step touched was asked
    owner_right : (o : Option ℕ) (moments : List (Option ℕ)) → length moments ≡ length (world_of u).routers → (o ≢ Some i → IsRight i moments)
        → (length (looked_if u o moments) ≡ length (world_of u).routers) × IsRight i (looked_if u o moments)
    owner_right None moments many right = (many, right (λ e. None_not_Some e))
    owner_right (Some j) moments many right = (looked_many j moments ∙ many, by_place (cases_eq i j))
      where
        by_place : (i ≡ j) ⊎ (i ≢ j) → IsRight i (looked_at u j moments)
        by_place (inl same) = subst (λ k. IsRight i (looked_at u k moments)) same (asked_right i moments many below)
        by_place (inr other) = stays_right i j moments many below (right (λ e. other (sym (Some_injective e))))

    -- and after the ends of the link that it touched were
    ends_right : (o : Option (ℕ × ℕ)) (moments : List (Option ℕ)) → length moments ≡ length (world_of u).routers → (((a b : ℕ) → o ≡ Some (a, b) → (a ≢ i) × (b ≢ i)) → IsRight i moments)
        → (length (looked_ends u o moments) ≡ length (world_of u).routers) × IsRight i (looked_ends u o moments)
    ends_right None moments many right = (many, right (λ a b e. absurd (None_not_Some e)))
    ends_right (Some ends) moments many right = (looked_many ends.1 (looked_at u ends.0 moments) ∙ first_many, by_second (cases_eq i ends.1))
      where
        first_many : length (looked_at u ends.0 moments) ≡ length (world_of u).routers
        first_many = looked_many ends.0 moments ∙ many

        by_first : (i ≢ ends.1) → (i ≡ ends.0) ⊎ (i ≢ ends.0) → IsRight i (looked_at u ends.0 moments)
        by_first second (inl same) = subst (λ k. IsRight i (looked_at u k moments)) same (asked_right i moments many below)
        by_first second (inr other) = stays_right i ends.0 moments many below
            (right (λ a b e. (λ at. other (sym at ∙ sym (ap (λ (x : ℕ × ℕ). x.0) (Some_injective e))), λ at. second (sym at ∙ sym (ap (λ (x : ℕ × ℕ). x.1) (Some_injective e))))))

        by_second : (i ≡ ends.1) ⊎ (i ≢ ends.1) → IsRight i (looked_at u ends.1 (looked_at u ends.0 moments))
        by_second (inl same) = subst (λ k. IsRight i (looked_at u k (looked_at u ends.0 moments))) same (asked_right i (looked_at u ends.0 moments) first_many below)
        by_second (inr other) = stays_right i ends.1 (looked_at u ends.0 moments) first_many below (by_first other (cases_eq i ends.0))

-- ---- an event

-- a router that is not asked is apart from the event
owner_apart : (w : World) (s : Step) (i : ℕ) → owner_of (touched_by s w) ≢ Some i → ((touched_by s w).router ≢ Some i) × ((touched_by s w).attachments ≢ Some i)
owner_apart w (Deliver j q) i other = (other, other)
owner_apart w (Publish j) i other = (other, λ e. None_not_Some e)
owner_apart w (Release j) i other = (other, λ e. None_not_Some e)
owner_apart w (Attach j p cost) i other = (λ e. None_not_Some e, other)
owner_apart w (Detach j p) i other = (λ e. None_not_Some e, other)
owner_apart w _ i other = (λ e. None_not_Some e, λ e. None_not_Some e)

-- nor is a link at one of its ports touched, where it is at neither end of the link that is
link_apart : (n : Network) (ss : List Step) (w : World) → Runs (opening n) ss w → (x : Touched) (i : ℕ) → ((a b : ℕ) → ends_of n x ≡ Some (a, b) → (a ≢ i) × (b ≢ i))
    → (q : ℕ) (p : Place) → place_at w i q ≡ Some p → x.link ≢ Some p.link
link_apart n ss w runs x i others q p port is = by_end p.end refl
  where
    places : w.places ≡ (opening n).places
    places = (Runs-shape (opening n) ss w runs).places

    L : Laid n (at_port i q) p
    L = laid n (at_port i q) p (ap (λ (ps : List (List Place)). option_and_then (λ (xs : List Place). slice_get xs q) (slice_get ps i)) (sym places) ∙ port)

    ends : ends_of n x ≡ Some ((L.spec).a, (L.spec).b)
    ends = ap (option_and_then (λ (l : ℕ). option_map (λ (k : LinkSpec). (k.a, k.b)) (slice_get n.links l))) is ∙ ap (option_map (λ (k : LinkSpec). (k.a, k.b))) L.is_link

    by_end : (e : End) → p.end ≡ e → ⊥
    by_end A at = (others (L.spec).a (L.spec).b ends).0 (ap (λ (e : End). router_end e L.spec) (sym at) ∙ L.router_is)
    by_end B at = (others (L.spec).a (L.spec).b ends).1 (ap (λ (e : End). router_end e L.spec) (sym at) ∙ L.router_is)

-- after an event the moments are right again
pub kept_after : (t : Timed) (e : Event) (moments : List (Option ℕ)) → IsTimed t → IsNext t e → KeepsMoments t moments → KeepsMoments (after_event t e) (looked_again (after_event t e) (touched_by e.step (world_of t)) moments)
kept_after t e moments timed is K = record { as_many = all; each = λ i below. (both i below).1 }
  where
    u : Timed
    u = after_event t e

    x : Touched
    x = touched_by e.step (world_of t)

    many : length moments ≡ length (world_of u).routers
    many = K.as_many ∙ sym (next-shape (world_of t) e.step).routers

    unasked : (i : ℕ) → i < length (world_of u).routers → owner_of x ≢ Some i → ((a b : ℕ) → ends_of (t.simulation).network x ≡ Some (a, b) → (a ≢ i) × (b ≢ i)) → IsRight u i moments
    unasked i below owner ends =
        let shape = (next-shape (world_of t) e.step).routers in
        let before : i < length (world_of t).routers = omega (arith, below, shape) in
        let R = element_there (world_of t).routers i before in
        let apart = owner_apart (world_of t) e.step i owner in
        K.each i before
        ∙ ap (λ (o : Option Event). Some (moment_of o))
        (sym (router_same t timed e is i R.0 R.1 (record { router = apart.0; attachments = apart.1; links = link_apart (t.simulation).network (steps_of timed.done) (world_of t) timed.runs x i ends })))

    first : (i : ℕ) → i < length (world_of u).routers → ((a b : ℕ) → ends_of (t.simulation).network x ≡ Some (a, b) → (a ≢ i) × (b ≢ i)) → (length (looked_if u (owner_of x) moments) ≡ length (world_of u).routers) × IsRight u i (looked_if u (owner_of x) moments)
    first i below ends = owner_right u i below (owner_of x) moments many (λ owner. unasked i below owner ends)

    if_many : (o : Option ℕ) → length (looked_if u o moments) ≡ length (world_of u).routers
    if_many None = many
    if_many (Some j) = looked_many u j moments ∙ many

    both : (i : ℕ) → i < length (world_of u).routers → (length (looked_again u x moments) ≡ length (world_of u).routers) × IsRight u i (looked_again u x moments)
    both i below = ends_right u i below (ends_of (t.simulation).network x) (looked_if u (owner_of x) moments) (if_many (owner_of x)) (λ ends. (first i below ends).1)

    ends_many : (o : Option (ℕ × ℕ)) (ms : List (Option ℕ)) → length ms ≡ length (world_of u).routers → length (looked_ends u o ms) ≡ length (world_of u).routers
    ends_many None ms is_many = is_many
    ends_many (Some ends) ms is_many = looked_many u ends.1 (looked_at u ends.0 ms) ∙ looked_many u ends.0 ms ∙ is_many

    all : length (looked_again u x moments) ≡ length (world_of u).routers
    all = ends_many (ends_of (t.simulation).network x) (looked_if u (owner_of x) moments) (if_many (owner_of x))

-- the same of parts that were seen
pub kept_seen : (u v : Timed) (x y : Touched) (moments new : List (Option ℕ)) → v ≡ u → y ≡ x → new ≡ looked_again v y moments → KeepsMoments u (looked_again u x moments) → KeepsMoments v new
kept_seen u v x y moments new worlds touched noted K =
    subst (λ z. KeepsMoments z new) (sym worlds)
    (subst (KeepsMoments u) (sym (noted ∙ ap (λ z. looked_again z y moments) worlds ∙ ap (λ z. looked_again u z moments) touched)) K)
