-- Events: whom each one asks for, releases or takes away, and what it leaves of ports and successor.
use Rattle.std.proofs.Common.{◌≡◌, ℕ, zero, suc, ◌<◌, Bool, true, false, List, [], ◌∷◌, Option, Some, None, length, refl, ap, sym, arith, subst, ◌∙◌, eqb-true, eq-eqb, ne_eqb, is_some, slice_get, ◌==◌, if◌then◌else◌}
use Rattle.network_model.proofs.Common.{and-true, and-false, and_parts, both_ways, false≢true, eqb-false, same_Some, none-some, Update, Query, Reply, Machine, changed_at, is_port, records_after, attachment_after, successor_after, with_records, asker, infinity, slice_get-changed_at_other, length-changed_at, changed_keeps}
use Rattle.network_model.specs.{declared.machine.Event.Event, declared.machine.Neighbour.Neighbour}
use Rattle.network_model.specs.declared.machine.Event.TheVariants.{Message, Up, Down, Cost, Attached, Detached}
use Rattle.machine_laws.specs.Laws.{released, test_at, is_up_at, is_message, is_down, Meets, IsSoundPort}
use Rattle.machine_laws.proofs.{Distances.AllSound, Sends.eqb_sym, Sends.eqb_same}

-- a port that passes the test is the port
pub is_port-Some : (p : ℕ) (o : Option ℕ) → is_port p o ≡ true → o ≡ Some p
is_port-Some p None h = absurd (false≢true h)
is_port-Some p (Some q) h = ap Some (sym (eqb-true p q h))

-- the port passes the test
pub is_port_same : (p : ℕ) (o : Option ℕ) → o ≡ Some p → is_port p o ≡ true
is_port_same p o e = rw e (eqb_same p)

-- an event is a query from port p where p asks
pub asked_by : (p : ℕ) (e : Event) → is_message Query p e ≡ is_port p (asker e)
asked_by p (Message q Query v) = and-true (q == p) ∙ eqb_sym q p
asked_by p (Message q Update v) = and-false (q == p)
asked_by p (Message q Reply v) = and-false (q == p)
asked_by p _ = refl

-- a reply from port p releases p
pub replied_by : (p : ℕ) (e : Event) → is_message Reply p e ≡ true → released e ≡ Some p
replied_by p (Message q Query v) h = absurd (both_ways _ (and-false (q == p)) h)
replied_by p (Message q Update v) h = absurd (both_ways _ (and-false (q == p)) h)
replied_by p (Message q Reply v) h = ap Some (eqb-true q p (and_parts (q == p) true h).0)
replied_by p _ h = absurd (false≢true h)

-- where port p is released and its link is not lost, the event is its reply
pub released_by : (p : ℕ) (e : Event) → is_down p e ≡ false → released e ≡ Some p → is_message Reply p e ≡ true
released_by p (Message q Reply v) d h = and-true (q == p) ∙ eq-eqb q p (same_Some q p h)
released_by p (Down q) d h = absurd (both_ways (q == p) d (eq-eqb q p (same_Some q p h)))
released_by p _ d h = absurd (none-some p h)

-- the loss of a link releases its port
pub down_released : (p : ℕ) (e : Event) → is_down p e ≡ true → released e ≡ Some p
down_released p (Down q) h = ap Some (eqb-true q p h)
down_released p _ h = absurd (false≢true h)

-- an event in which some port asks takes no link away, releases nobody and leaves the successor
pub record IsAsked (e : Event) : Type 0 where
  pub none_down : (k : ℕ) → is_down k e ≡ false
  pub none_released : released e ≡ None
  pub successor_same : (d : ℕ) (s : Option ℕ) → successor_after d e s ≡ s

-- an event in which port p asks is such an event
pub asked_event : (p : ℕ) (e : Event) → asker e ≡ Some p → IsAsked e
asked_event p (Message q Query v) h = record { none_down = λ k. refl; none_released = refl; successor_same = λ d s. refl }
asked_event p _ h = absurd (none-some p h)

-- an event that releases a port is no query
pub released_alone : (p : ℕ) (e : Event) → released e ≡ Some p → asker e ≡ None
released_alone p (Message q Reply v) h = refl
released_alone p (Down q) h = refl
released_alone p _ h = absurd (none-some p h)

-- a port that asks is up
pub asker_up : (m : Machine) (p : ℕ) (e : Event) → Meets m e → asker e ≡ Some p → is_up_at m p ≡ true
asker_up m p (Message q Query v) meets h = subst (λ x. is_up_at m x ≡ true) (same_Some q p h) meets.0
asker_up m p _ meets h = absurd (none-some p h)

-- the successor after an event was the successor before, and its link is not lost
pub successor_kept : (d : ℕ) (e : Event) (s : Option ℕ) (p : ℕ) → successor_after d e s ≡ Some p → (s ≡ Some p) × (is_down p e ≡ false)
successor_kept d (Down q) s p h = go (is_port q s) refl h
  where
    go : (b : Bool) → is_port q s ≡ b → (if b then None else s) ≡ Some p → (s ≡ Some p) × ((q == p) ≡ false)
    go true t e = absurd (none-some p e)
    go false t e = (e, rw e at t)
successor_kept d Detached s p h = go (is_port d s) h
  where
    go : (b : Bool) → (if b then None else s) ≡ Some p → (s ≡ Some p) × (◌≡◌ {A = Bool} false false)
    go true e = absurd (none-some p e)
    go false e = (e, refl)
successor_kept d _ s p h = (h, refl)

-- a successor that is a port, whose link is not lost, stays
pub successor_stays : (d : ℕ) (e : Event) (s : Option ℕ) (p : ℕ) → s ≡ Some p → is_down p e ≡ false → p < d → successor_after d e s ≡ Some p
successor_stays d (Down q) s p h f l = rw h (rw f refl)
successor_stays d Detached s p h f l = rw h (rw (ne_eqb d p (λ e. omega (arith, e, l))) refl)
successor_stays d _ s p h f l = h

-- the attachment is still there after an event where it still is the successor
pub attachment_kept : (d : ℕ) (e : Event) (s a : Option ℕ) → successor_after d e s ≡ Some d → is_some a ≡ true → is_some (attachment_after e a) ≡ true
attachment_kept d (Attached c) s a h t = refl
attachment_kept d Detached s a h t = go (is_port d s) refl h
  where
    go : (b : Bool) → is_port d s ≡ b → (if b then None else s) ≡ Some d → ◌≡◌ {A = Bool} false true
    go true k e = absurd (none-some d e)
    go false k e = absurd (both_ways (is_port d s) k (is_port_same d s e))
attachment_kept d _ s a h t = t

-- an attachment costs something after an event that the machine meets
pub attachment_sound_after : (m : Machine) (e : Event) → ((c : ℕ) → m.attachment ≡ Some c → 0 < c) → Meets m e → (c : ℕ) → attachment_after e m.attachment ≡ Some c → 0 < c
attachment_sound_after m (Attached d) sound meets c h = omega (arith, meets, same_Some d c h)
attachment_sound_after m Detached sound meets c h = absurd (none-some c h)
attachment_sound_after m _ sound meets c h = sound c h

-- no event changes how many ports there are
pub ports_length : (e : Event) (ns : List Neighbour) → length (records_after e ns) ≡ length ns
ports_length (Message q k v) ns = length-changed_at _ q ns
ports_length (Up q c) ns = length-changed_at _ q ns
ports_length (Down q) ns = length-changed_at _ q ns
ports_length (Cost q c) ns = length-changed_at _ q ns
ports_length _ ns = refl

-- a change that leaves whether a neighbour is up leaves who is up
up_of_changed : (q p : ℕ) (f : Neighbour → Neighbour) (ns : List Neighbour) → ((n : Neighbour) → (f n).up ≡ n.up) → test_at (λ n. n.up) (slice_get (changed_at q f ns) p) ≡ test_at (λ n. n.up) (slice_get ns p)
up_of_changed q p f [] keeps = refl
up_of_changed zero zero f (n ∷ ns) keeps = keeps n
up_of_changed zero (suc p) f (n ∷ ns) keeps = refl
up_of_changed (suc q) zero f (n ∷ ns) keeps = refl
up_of_changed (suc q) (suc p) f (n ∷ ns) keeps = up_of_changed q p f ns keeps

-- a change that brings a neighbour up leaves up who is up
up_of_raised : (q p : ℕ) (f : Neighbour → Neighbour) (ns : List Neighbour) → ((n : Neighbour) → (f n).up ≡ true) → test_at (λ n. n.up) (slice_get ns p) ≡ true → test_at (λ n. n.up) (slice_get (changed_at q f ns) p) ≡ true
up_of_raised q p f [] raises u = u
up_of_raised zero zero f (n ∷ ns) raises u = raises n
up_of_raised zero (suc p) f (n ∷ ns) raises u = u
up_of_raised (suc q) zero f (n ∷ ns) raises u = u
up_of_raised (suc q) (suc p) f (n ∷ ns) raises u = up_of_raised q p f ns raises u

-- a port that is up stays up, unless its link is lost
pub stays_up : (m : Machine) (e : Event) (p : ℕ) → is_down p e ≡ false → is_up_at m p ≡ true → is_up_at (with_records m e) p ≡ true
stays_up m (Message q k v) p d u = up_of_changed q p (λ n. record { up = n.up; cost = n.cost; reported = v }) m.ports (λ n. refl) ∙ u
stays_up m (Up q c) p d u = up_of_raised q p (λ n. record { up = true; cost = c; reported = infinity }) m.ports (λ n. refl) u
stays_up m (Down q) p d u = ap (test_at (λ n. n.up)) (slice_get-changed_at_other (λ n. record { up = false; cost = n.cost; reported = n.reported }) q p m.ports (λ s. eqb-false q p d (sym s))) ∙ u
stays_up m (Cost q c) p d u = up_of_changed q p (λ n. record { up = n.up; cost = c; reported = n.reported }) m.ports (λ n. refl) ∙ u
stays_up m _ p d u = u

-- the ports are sound after an event that the machine meets
pub sound_after : (m : Machine) (e : Event) → AllSound m.ports → Meets m e → AllSound (records_after e m.ports)
sound_after m (Message q k v) sound meets = changed_keeps IsSoundPort q (λ n. record { up = n.up; cost = n.cost; reported = v }) m.ports (λ n s. record { costs = s.costs; bounded = meets.1 }) sound
sound_after m (Up q c) sound meets = changed_keeps IsSoundPort q (λ n. record { up = true; cost = c; reported = infinity }) m.ports (λ n s. record { costs = meets.2; bounded = omega arith }) sound
sound_after m (Down q) sound meets = changed_keeps IsSoundPort q (λ n. record { up = false; cost = n.cost; reported = n.reported }) m.ports (λ n s. record { costs = s.costs; bounded = s.bounded }) sound
sound_after m (Cost q c) sound meets = changed_keeps IsSoundPort q (λ n. record { up = n.up; cost = c; reported = n.reported }) m.ports (λ n s. record { costs = meets.1; bounded = s.bounded }) sound
sound_after m _ sound meets = sound

-- the port that comes up is up
pub up_at_up : (m : Machine) (q cost : ℕ) → q < length m.ports → is_up_at (with_records m (Up q cost)) q ≡ true
up_at_up m q cost h = go q m.ports h
  where
    go : (k : ℕ) (ns : List Neighbour) → k < length ns → test_at (λ n. n.up) (slice_get (changed_at k (λ n. record { up = true; cost = cost; reported = infinity }) ns) k) ≡ true
    go k [] l = absurd (omega (arith, l))
    go zero (n ∷ ns) l = refl
    go (suc k) (n ∷ ns) l = go k ns (omega (arith, l))
