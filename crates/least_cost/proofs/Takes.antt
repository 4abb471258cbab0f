-- A step in which a router takes an item keeps the state.
use Rattle.std.proofs.Common.{◌≡◌, ◌⊎◌, ℕ, ◌<◌, ◌≤◌, true, ◌∷◌, length, refl, ap, sym, inl, inr, arith, subst, ◌∙◌}
use Rattle.network_model.proofs.Common.{cases_eq, Machine, records_after, reaction, LinkEnd, SeenItem, UpNotice, State, infinity}
use Rattle.network_model.specs.declared.machine.Event.{Event}
use Rattle.machine_laws.specs.Laws.{sent_to, is_up_at, Meets}
use Rattle.loop_freedom.specs.Network.{Topology, Take, event_of, seen_after}
use Rattle.machine_laws.proofs.Keeping.{keeps_records}
use Rattle.loop_freedom.proofs.{Ends.place_cases, Meeting.met_item, Ports.ports_length}
use Rattle.least_cost.proofs.Replay.{Fits, replay, port_after, port_taken, port_other, meets_item, session_one}
use Rattle.least_cost.proofs.{Told.last_sent, Told.told_up, Meeting.kept_met}
use Rattle.least_cost.proofs.Kept.{LineKept, pending, port_at, line, Kept, place_same}

-- an item that begins a session at a port has the machine tell its distance there
comes_one : (m : Machine) (q seen : ℕ) (x : SeenItem) → seen < seen_after x seen → last_sent infinity (sent_to q (reaction m (event_of q x)).sends) ≡ (reaction m (event_of q x)).machine.rd
comes_one m q seen (UpNotice s c) l = told_up m q
comes_one m q seen _ l = absurd (omega (arith, l))

-- ---- a router takes an item
module _ (t : Topology) (old new : State) (k : Kept t old) (s : Take t old new) where
  -- the machine that takes
  m : Machine
  m = old.machine s.a.router

  -- the event that the item is to it
  event : Event
  event = event_of s.a.port s.item

  -- the machine has a port at the place
  inside : s.a.port < length m.ports
  unfolding m
  inside = k.there s.a s.valid_place

  -- the item and those after it fit the port
  fits_first : Fits (s.item ∷ new.inbox s.a) (port_at old s.a)
  fits_first = subst (λ x. Fits x (port_at old s.a)) s.inbox_at (k.lines s.a s.valid_place).fits

  -- the machine meets the event
  meets : Meets m event
  unfolding m event
  meets = meets_item (old.machine s.a.router) s.a.port (old.seen s.a) s.item inside fits_first.0

  -- the router that takes has the machine after the event
  machine_here : (i : ℕ) → i ≡ s.a.router → new.machine i ≡ (reaction m event).machine
  unfolding m event
  machine_here i h = ap new.machine h ∙ s.machine_at

  -- the router that takes has the records after the event
  ports_here : (i : ℕ) → i ≡ s.a.router → (new.machine i).ports ≡ records_after event m.ports
  ports_here i h = ap (λ x. x.ports) (machine_here i h) ∙ keeps_records m event

  -- the router that takes had the machine before the event
  was_here : (i : ℕ) → i ≡ s.a.router → old.machine i ≡ m
  unfolding m
  was_here i h = ap old.machine h

  -- ---- ports

  -- the port is as the item leaves it
  port_at_a : port_at new s.a ≡ port_after s.item (port_at old s.a)
  unfolding m event
  port_at_a = rw (ports_here s.a.router refl, s.seen_at) (port_taken m.ports s.a.port (old.seen s.a) s.item inside)

  -- every other port stays as it is
  port_elsewhere : (e : LinkEnd) → (e ≡ s.a → ⊥) → port_at new e ≡ port_at old e
  unfolding m event
  port_elsewhere e ne = go (cases_eq e.router s.a.router)
    where
      go : (e.router ≡ s.a.router) ⊎ (e.router ≡ s.a.router → ⊥) → port_at new e ≡ port_at old e
      go (inl h) = rw (ports_here e.router h, s.seen_elsewhere e ne, was_here e.router h) (port_other m.ports s.a.port e.port (old.seen e) s.item (λ p. ne (place_same s.a e.router e.port h p)))
      go (inr d) = rw (s.machine_elsewhere e.router d, s.seen_elsewhere e ne) refl

  -- what each port will be in the end stays the same
  pending_same : (e : LinkEnd) → pending (line new e) ≡ pending (line old e)
  pending_same e = go (place_cases e s.a)
    where
      here : pending (line new s.a) ≡ pending (line old s.a)
      here = ap (replay (new.inbox s.a)) port_at_a ∙ sym (ap (λ x. replay x (port_at old s.a)) s.inbox_at)

      go : (e ≡ s.a) ⊎ (e ≡ s.a → ⊥) → pending (line new e) ≡ pending (line old e)
      go (inl h) = subst (λ x. pending (line new x) ≡ pending (line old x)) (sym h) here
      go (inr d) = ap (replay (new.inbox e)) (port_elsewhere e d) ∙ ap (λ x. replay x (port_at old e)) (s.inbox_elsewhere e d)

  -- what waits at each port still fits it
  fits_still : (e : LinkEnd) → t.valid e ≡ true → Fits (new.inbox e) (port_at new e)
  fits_still e v = go (place_cases e s.a)
    where
      go : (e ≡ s.a) ⊎ (e ≡ s.a → ⊥) → Fits (new.inbox e) (port_at new e)
      go (inl h) = subst (λ x. Fits (new.inbox x) (port_at new x)) (sym h) (subst (λ x. Fits (new.inbox s.a) x) (sym port_at_a) fits_first.1)
      go (inr d) = subst (λ x. Fits (new.inbox e) x) (sym (port_elsewhere e d)) (subst (λ x. Fits x (port_at old e)) (sym (s.inbox_elsewhere e d)) (k.lines e v).fits)

  lines_still : (e : LinkEnd) → t.valid e ≡ true → LineKept (line new e)
  lines_still e v = record {
    positive = rw (s.costs.cost_same e) (k.lines e v).positive;
    fits = fits_still e v;
    end_up = ap (λ p. p.up) (pending_same e) ∙ (k.lines e v).end_up ∙ sym (s.links.up_same e);
    end_session = ap (λ p. p.session) (pending_same e) ∙ (k.lines e v).end_session ∙ sym (s.links.session_same e);
    end_cost = λ u. ap (λ p. p.cost) (pending_same e) ∙ (k.lines e v).end_cost (sym (s.links.up_same e) ∙ u) ∙ sym (s.costs.cost_same e);
  }

  -- each place still has its port
  there_still : (e : LinkEnd) → t.valid e ≡ true → e.port < length (new.machine e.router).ports
  unfolding event
  there_still e v = go (cases_eq e.router s.a.router)
    where
      go : (e.router ≡ s.a.router) ⊎ (e.router ≡ s.a.router → ⊥) → e.port < length (new.machine e.router).ports
      go (inl h) = omega (arith, k.there e v, ap length (ports_here e.router h), ports_length s.a.port s.item m.ports, ap (λ x. length x.ports) (was_here e.router h))
      go (inr d) = omega (arith, k.there e v, ap (λ x. length x.ports) (s.machine_elsewhere e.router d))

  -- each port that is up is still that of a place
  up_valid_still : (e : LinkEnd) → is_up_at (new.machine e.router) e.port ≡ true → t.valid e ≡ true
  up_valid_still e u = go (place_cases e s.a)
    where
      go : (e ≡ s.a) ⊎ (e ≡ s.a → ⊥) → t.valid e ≡ true
      go (inl h) = ap t.valid h ∙ s.valid_place
      go (inr d) = k.up_valid e (sym (ap (λ p. p.up) (port_elsewhere e d)) ∙ u)

  -- ---- what the far end is told

  -- no router sees an earlier session than before
  seen_grows : (e : LinkEnd) → old.seen e ≤ new.seen e
  seen_grows e = go (place_cases e s.a)
    where
      here : old.seen s.a ≤ new.seen s.a
      here = omega (arith, s.seen_at, session_one s.item (port_at old s.a) fits_first.0, ap (λ p. p.session) port_at_a)

      go : (e ≡ s.a) ⊎ (e ≡ s.a → ⊥) → old.seen e ≤ new.seen e
      go (inl h) = subst (λ x. old.seen x ≤ new.seen x) (sym h) here
      go (inr d) = omega (arith, s.seen_elsewhere e d)

  -- a place that sees a later session is told the distance
  comes : (e : LinkEnd) → old.seen e < new.seen e → last_sent infinity (sent_to e.port (reaction m event).sends) ≡ (reaction m event).machine.rd
  unfolding m event
  comes e l = go (place_cases e s.a)
    where
      go : (e ≡ s.a) ⊎ (e ≡ s.a → ⊥) → last_sent infinity (sent_to e.port (reaction m event).sends) ≡ (reaction m event).machine.rd
      go (inl h) =
          let rises : old.seen s.a < seen_after s.item (old.seen s.a) = omega (arith, l, ap old.seen h, ap new.seen h, s.seen_at) in
          subst (λ x. last_sent infinity (sent_to x.port (reaction m event).sends) ≡ (reaction m event).machine.rd) (sym h) (comes_one m s.a.port (old.seen s.a) s.item rises)
      go (inr d) = absurd (omega (arith, l, s.seen_elsewhere e d))

  -- a take keeps the state
  pub kept_take : Kept t new
  unfolding m event
  kept_take = kept_met t old new k s.a.router event (met_item t old new s) meets (record {
    there = there_still;
    up_valid = up_valid_still;
    lines = lines_still;
    reported_same = λ e. ap (λ p. p.reported) (pending_same e);
    seen_grows = seen_grows;
    comes = comes;
  })
