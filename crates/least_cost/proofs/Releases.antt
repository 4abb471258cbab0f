-- A step in which a held message is released keeps the state.
use Rattle.std.proofs.Common.{◌≡◌, ◌⊎◌, Bool, true, false, ◌&&◌, [], ◌∷◌, ◌++◌, refl, ap, sym, inl, inr, subst, ◌∙◌, ◌==◌, if◌then◌else◌, append-nil}
use Rattle.network_model.proofs.Common.{and_parts, LinkEnd, SeenItem, Reported, State}
use Rattle.loop_freedom.specs.Network.{Topology, Release}
use Rattle.loop_freedom.proofs.Ends.{place_cases}
use Rattle.least_cost.proofs.Replay.{Fits, FitsOne, port_after, replay_append, fits_append}
use Rattle.least_cost.proofs.Told.{last_held}
use Rattle.least_cost.proofs.Kept.{Line, LineKept, pending, line, held, IsRecent, AllRecent, Sees, Kept, far_same, line_same, sees_same, port_same, kept_links, ends_up_same, ends_session_same}

-- a port at which one more item waits, that fits, will be as the item leaves it
pub line_gains : (l r : Line) (x : SeenItem) → r.port ≡ l.port → r.inbox ≡ l.inbox ++ x ∷ [] → LineKept l → FitsOne x (pending l) → (Fits r.inbox r.port) × (pending r ≡ port_after x (pending l))
line_gains l r x hp hi k f = rw (hp, hi) (fits_append l.inbox (x ∷ []) l.port k.fits (f, tt), replay_append l.inbox (x ∷ []) l.port)

-- ---- a message is released
module _ (t : Topology) (old new : State) (k : Kept t old) (s : Release t old new) where
  -- the place at the other end of the link
  receiver : LinkEnd
  receiver = t.far s.a

  -- the other end is a place
  receiver_valid : t.valid receiver ≡ true
  unfolding receiver
  receiver_valid = t.far_valid s.a s.valid_place

  -- a place whose inbox stays the same has the same line
  same_line : (e : LinkEnd) → new.inbox e ≡ old.inbox e → line new e ≡ line old e
  same_line e h = line_same old new e (s.machines.machine_same e.router) (s.machines.seen_same e) h (s.links.up_same e) (s.links.session_same e) (s.costs.cost_same e)

  -- the place of the release held the message, and then what it holds now
  held_before : held old s.a ≡ s.first ∷ held new s.a
  held_before = ap (λ x. x ++ old.unripe s.a) s.ripe_at ∙ ap (λ x. s.first ∷ (new.ripe s.a ++ x)) (sym (s.unripe_same s.a))

  -- every other place holds what it held
  held_elsewhere : (e : LinkEnd) → (e ≡ s.a → ⊥) → held new e ≡ held old e
  held_elsewhere e d = rw (s.ripe_elsewhere e d, s.unripe_same e) refl

  -- the message, and what is held after it, is for no later session, with no value above infinity
  recent_before : (IsRecent (old.session s.a) s.first) × (AllRecent (old.session s.a) (held new s.a))
  recent_before = subst (AllRecent (old.session s.a)) held_before (k.recent s.a s.valid_place)

  -- whether the message comes out at the other end
  abbrev comes_out : Bool
  comes_out = old.up s.a && (s.first.session == old.session s.a)

  -- the other end's line is kept, and what it will have been told last is the message, if that comes out
  abbrev Arrived : Bool → Type 0
  Arrived c = (LineKept (line new receiver)) × ((pending (line new receiver)).reported ≡ (if c then s.first.message.value else (pending (line old receiver)).reported))

  -- where the message comes out, the other end's line is kept, and will have been told the message last
  arrived_one : comes_out ≡ true → new.inbox receiver ≡ old.inbox receiver ++ Reported s.first.message ∷ [] → Arrived true
  unfolding receiver
  arrived_one h i = (
    record {
      positive = rw (s.costs.cost_same receiver) l.positive;
      fits = gains.0;
      end_up = ap (λ p. p.up) gains.1 ∙ l.end_up ∙ sym (s.links.up_same receiver);
      end_session = ap (λ p. p.session) gains.1 ∙ l.end_session ∙ sym (s.links.session_same receiver);
      end_cost = λ u. ap (λ p. p.cost) gains.1 ∙ l.end_cost (sym (s.links.up_same receiver) ∙ u) ∙ sym (s.costs.cost_same receiver);
    },
    ap (λ p. p.reported) gains.1,
  )
    where
      l : LineKept (line old receiver)
      l = k.lines receiver receiver_valid

      linked : (pending (line old receiver)).up ≡ true
      linked = l.end_up ∙ k.ends_up s.a s.valid_place ∙ (and_parts (old.up s.a) (s.first.session == old.session s.a) h).0

      gains : (Fits (new.inbox receiver) (line new receiver).port) × (pending (line new receiver) ≡ port_after (Reported s.first.message) (pending (line old receiver)))
      gains = line_gains (line old receiver) (line new receiver) (Reported s.first.message) (port_same old new s.machines receiver) i l (linked, recent_before.0.bounded)

  -- where the message is dropped, the other end's line is kept, and is told nothing new
  arrived_none : new.inbox receiver ≡ old.inbox receiver ++ [] → Arrived false
  arrived_none i =
      let same = same_line receiver (i ∙ append-nil (old.inbox receiver)) in
      (rw same (k.lines receiver receiver_valid), ap (λ l. (pending l).reported) same)

  -- the other end's line is kept, and is told the message last just where that comes out
  arrived : Arrived comes_out
  unfolding receiver
  arrived = go comes_out refl s.inbox_at
    where
      go : (c : Bool) → comes_out ≡ c → new.inbox receiver ≡ old.inbox receiver ++ (if c then Reported s.first.message ∷ [] else []) → Arrived c
      go true h i = arrived_one h i
      go false h i = arrived_none i

  lines_still : (e : LinkEnd) → t.valid e ≡ true → LineKept (line new e)
  unfolding receiver
  lines_still e v = go (place_cases e receiver)
    where
      go : (e ≡ receiver) ⊎ (e ≡ receiver → ⊥) → LineKept (line new e)
      go (inl h) = subst (λ x. LineKept (line new x)) (sym h) arrived.0
      go (inr d) = rw (same_line e (s.inbox_elsewhere e d)) (k.lines e v)

  -- what is held is still for no later session, with no value above infinity
  recent_still : (e : LinkEnd) → t.valid e ≡ true → AllRecent (new.session e) (held new e)
  recent_still e v = go (place_cases e s.a)
    where
      go : (e ≡ s.a) ⊎ (e ≡ s.a → ⊥) → AllRecent (new.session e) (held new e)
      go (inl h) = subst (λ x. AllRecent (new.session x) (held new x)) (sym h) (rw (s.links.session_same s.a) recent_before.1)
      go (inr d) = rw (s.links.session_same e, held_elsewhere e d) (k.recent e v)

  -- the other end is still told the distance
  sight_here : Sees t new s.a
  unfolding receiver
  sight_here up =
      ap (λ n. last_held n (pending (line new receiver)).reported (held new s.a)) (s.links.session_same s.a)
      ∙ ap (λ x. last_held (old.session s.a) x (held new s.a)) (arrived.1 ∙ ap (λ u. if u && (s.first.session == old.session s.a) then s.first.message.value else (pending (line old receiver)).reported) was_up)
      ∙ sym (ap (last_held (old.session s.a) (pending (line old receiver)).reported) held_before)
      ∙ k.sight s.a s.valid_place was_up
      ∙ (rw (s.machines.seen_same s.a, s.links.session_same s.a, s.machines.machine_same s.a.router) refl)
    where
      was_up : old.up s.a ≡ true
      was_up = sym (s.links.up_same s.a) ∙ up

  -- every far end is still told the distance
  sight_still : (e : LinkEnd) → t.valid e ≡ true → Sees t new e
  sight_still e v = go (place_cases e s.a)
    where
      go : (e ≡ s.a) ⊎ (e ≡ s.a → ⊥) → Sees t new e
      go (inl h) = subst (λ x. Sees t new x) (sym h) sight_here
      go (inr d) = sees_same t old new e (s.links.up_same e) (s.links.session_same e)
          (ap (λ l. (pending l).reported) (same_line (t.far e) (s.inbox_elsewhere (t.far e) (λ h. d (far_same t e s.a v s.valid_place h)))))
          (held_elsewhere e d) (s.machines.seen_same e) (s.machines.machine_same e.router) (k.sight e v)

  -- a release keeps the state
  pub kept_release : Kept t new
  kept_release = kept_links t old new k s.machines (record {
    lines = lines_still;
    ends_up = ends_up_same t old new k s.links;
    ends_session = ends_session_same t old new k s.links.session_same;
    recent = recent_still;
    sight = sight_still;
  })
