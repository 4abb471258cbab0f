-- A step in which a router's machine meets an event keeps the state, whether it took an item or a notice of its attachment.
use Rattle.std.proofs.Common.{◌≡◌, ◌⊎◌, ℕ, ◌<◌, ◌≤◌, true, List, ◌++◌, length, refl, ap, sym, inl, inr, arith, subst, ◌∙◌, append_assoc}
use Rattle.network_model.proofs.Common.{cases_eq, Machine, reaction, LinkEnd, SeenHeld, State, infinity}
use Rattle.network_model.specs.declared.machine.Event.{Event}
use Rattle.machine_laws.specs.Laws.{sent_to, is_up_at, Meets, IsSound}
use Rattle.loop_freedom.specs.Network.{Topology, held_for}
use Rattle.machine_laws.proofs.{Sends.EachSend, Sending.sends_distance, Soundness.stays_sound}
use Rattle.loop_freedom.proofs.Meeting.{Met}
use Rattle.least_cost.proofs.Told.{last_held, last_sent, last_append, each_sent, expected, told_after, told_more}
use Rattle.least_cost.proofs.Kept.{LineKept, pending, line, held, AllRecent, recent_append, recent_sent, Sees, Kept, current_up, seen_past, sees_same, ends_up_same, ends_session_same}

-- what such a step leaves at each place: its line is kept, and nothing but the session that it sees may change of what it will have been told in the end
pub record Leaves (t : Topology) (old new : State) (m : Machine) (event : Event) : Type 0 where
  pub there : (e : LinkEnd) → t.valid e ≡ true → e.port < length (new.machine e.router).ports
  pub up_valid : (e : LinkEnd) → is_up_at (new.machine e.router) e.port ≡ true → t.valid e ≡ true
  pub lines : (e : LinkEnd) → t.valid e ≡ true → LineKept (line new e)
  pub reported_same : (e : LinkEnd) → (pending (line new e)).reported ≡ (pending (line old e)).reported
  pub seen_grows : (e : LinkEnd) → old.seen e ≤ new.seen e
  pub comes : (e : LinkEnd) → old.seen e < new.seen e → last_sent infinity (sent_to e.port (reaction m event).sends) ≡ (reaction m event).machine.rd

module _ (t : Topology) (old new : State) (k : Kept t old) (i : ℕ) (event : Event) (s : Met old new i event) (meets : Meets (old.machine i) event) (y : Leaves t old new (old.machine i) event) where
  -- the machine that meets the event
  abbrev m : Machine
  m = old.machine i

  -- the machine is sound after the event
  sound_after : IsSound (reaction m event).machine
  sound_after = stays_sound m event (k.sound i) meets

  -- the router that meets the event has the machine after the event
  machine_here : (j : ℕ) → j ≡ i → new.machine j ≡ (reaction m event).machine
  machine_here j h = ap new.machine h ∙ s.machine_at

  -- that router had the machine before the event
  was_here : (j : ℕ) → j ≡ i → old.machine j ≡ m
  was_here j h = ap old.machine h

  sound_still : (j : ℕ) → IsSound (new.machine j)
  sound_still j = go (cases_eq j i)
    where
      go : (j ≡ i) ⊎ (j ≡ i → ⊥) → IsSound (new.machine j)
      go (inl h) = subst IsSound (sym (machine_here j h)) sound_after
      go (inr d) = subst IsSound (sym (s.machine_elsewhere j d)) (k.sound j)

  -- what the machine holds at place e from now on
  abbrev more : LinkEnd → List SeenHeld
  more e = held_for (new.seen e) (sent_to e.port (reaction m event).sends)

  -- its router holds what it held, and what the event sends
  held_here : (e : LinkEnd) → e.router ≡ i → held new e ≡ held old e ++ more e
  held_here e h = rw (s.ripe_same e, s.unripe_at e h) (sym (append_assoc (old.ripe e) (old.unripe e) (more e)))

  -- every other router holds what it held
  held_elsewhere : (e : LinkEnd) → (e.router ≡ i → ⊥) → held new e ≡ held old e
  held_elsewhere e d = rw (s.ripe_same e, s.unripe_elsewhere e d) refl

  -- what is held is still for no later session, with no value above infinity
  recent_still : (e : LinkEnd) → t.valid e ≡ true → AllRecent (new.session e) (held new e)
  recent_still e v = go (cases_eq e.router i)
    where
      right : EachSend (λ x. x.value ≡ (reaction m event).machine.rd) (sent_to e.port (reaction m event).sends)
      right = each_sent (λ x. x.value ≡ (reaction m event).machine.rd) e.port (reaction m event).sends (λ x j h. (sends_distance m event (k.sound i) meets x j h).0)

      now : AllRecent (old.session e) (more e)
      now = recent_sent (old.session e) (new.seen e) (reaction m event).machine.rd (sent_to e.port (reaction m event).sends)
          (omega (arith, seen_past (line new e) (y.lines e v), s.links.session_same e)) sound_after.rd_bounded right

      go : (e.router ≡ i) ⊎ (e.router ≡ i → ⊥) → AllRecent (new.session e) (held new e)
      go (inl h) = rw (s.links.session_same e, held_here e h) (recent_append (old.session e) (held old e) (more e) (k.recent e v) now)
      go (inr d) = rw (s.links.session_same e, held_elsewhere e d) (k.recent e v)

  -- a place that sees the present session of a link that is up is told the distance after what it was told
  stays : (e : LinkEnd) → t.valid e ≡ true → new.up e ≡ true → e.router ≡ i → new.seen e ≡ new.session e → last_sent m.rd (sent_to e.port (reaction m event).sends) ≡ (reaction m event).machine.rd
  stays e v up h n = told_after m event e.port (k.sound i) meets (ap (λ x. is_up_at x e.port) (sym (machine_here e.router h)) ∙ current_up (line new e) (y.lines e v) up n)

  -- the far ends of the router that meets the event are told its distance
  sight_here : (e : LinkEnd) → t.valid e ≡ true → e.router ≡ i → Sees t new e
  sight_here e v h up =
      ap (λ x. last_held x (pending (line new (t.far e))).reported (held new e)) (s.links.session_same e)
      ∙ ap (λ x. last_held (old.session e) x (held new e)) (y.reported_same (t.far e))
      ∙ ap (last_held (old.session e) (pending (line old (t.far e))).reported) (held_here e h)
      ∙ last_append (old.session e) (pending (line old (t.far e))).reported (held old e) (more e)
      ∙ ap (λ x. last_held (old.session e) x (more e)) (k.sight e v (sym (s.links.up_same e) ∙ up) ∙ ap (λ x. expected (old.seen e) (old.session e) x.rd) (was_here e.router h))
      ∙ told_more (old.session e) (old.seen e) (new.seen e) m.rd (reaction m event).machine.rd (sent_to e.port (reaction m event).sends) (y.seen_grows e) past
      (λ n. stays e v up h (let c : new.seen e ≡ new.session e = omega (arith, n, past, y.seen_grows e, s.links.session_same e) in c))
      (λ n l. y.comes e (omega (arith, n, l)))
      ∙ (rw (s.links.session_same e, machine_here e.router h) refl)
    where
      past : new.seen e ≤ old.session e
      past = omega (arith, seen_past (line new e) (y.lines e v), s.links.session_same e)

  -- the far ends of every other router are told its distance as before
  sight_elsewhere : (e : LinkEnd) → t.valid e ≡ true → (e.router ≡ i → ⊥) → Sees t new e
  sight_elsewhere e v d = sees_same t old new e (s.links.up_same e) (s.links.session_same e) (y.reported_same (t.far e)) (held_elsewhere e d) (s.seen_elsewhere e d) (s.machine_elsewhere e.router d) (k.sight e v)

  -- such a step keeps the state
  pub kept_met : Kept t new
  kept_met = record {
    sound = sound_still;
    there = y.there;
    up_valid = y.up_valid;
    lines = y.lines;
    ends_up = ends_up_same t old new k s.links;
    ends_session = ends_session_same t old new k s.links.session_same;
    recent = recent_still;
    sight = λ e v. sight_cases e v (cases_eq e.router i);
  }
    where
      sight_cases : (e : LinkEnd) → t.valid e ≡ true → (e.router ≡ i) ⊎ (e.router ≡ i → ⊥) → Sees t new e
      sight_cases e v (inl h) = sight_here e v h
      sight_cases e v (inr d) = sight_elsewhere e v d
