-- Steps in which a link comes up, goes down or changes its cost keep the state.
use Rattle.std.proofs.Common.{◌≡◌, ◌⊎◌, ℕ, suc, ◌<◌, Bool, true, false, List, [], ◌∷◌, refl, ap, sym, inl, inr, arith, subst, ◌∙◌, ne_eqb, if◌then◌else◌}
use Rattle.network_model.proofs.Common.{both_ways, infinity, LinkEnd, UpNotice, DownNotice, CostNotice, SeenHeld, State}
use Rattle.loop_freedom.specs.Network.{Topology, LinkUp, LinkDown, SetCost, IsEnd, notices}
use Rattle.loop_freedom.proofs.Ends.{place_cases, end_cases, end_far, end_near, end_valid, ends_agree}
use Rattle.least_cost.proofs.Replay.{Fits, Alike, replay, port_after, replay_append, fits_append, notices_alike, notices_fit}
use Rattle.least_cost.proofs.{Told.last_held, Told.expected_past, Releases.line_gains}
use Rattle.least_cost.proofs.Kept.{LineKept, pending, line, held, AllRecent, recent_more, Sees, Kept, seen_past, line_same, sees_same, port_same, held_same, kept_links, ends_up_same, ends_session_same}

-- ---- the ends of a link

-- both ends are up, or down, as the one is
end_up_is : (t : Topology) (s : State) (a e : LinkEnd) (b : Bool) → Kept t s → t.valid a ≡ true → s.up a ≡ b → IsEnd t a e → s.up e ≡ b
end_up_is t s a e b k v u (inl h) = ap s.up h ∙ u
end_up_is t s a e b k v u (inr h) = ap s.up h ∙ k.ends_up a v ∙ u

-- nothing is held for a session to come
last_none : (n k v : ℕ) (hs : List SeenHeld) → AllRecent n hs → n < k → last_held k v hs ≡ v
last_none n k v [] f l = refl
last_none n k v (h ∷ hs) f l = ap (λ b. last_held k (if b then h.message.value else v) hs) (ne_eqb h.session k (λ e. omega (arith, e, l, f.0.past))) ∙ last_none n k v hs f.1 l

-- ---- a link comes up
module _ (t : Topology) (old new : State) (k : Kept t old) (s : LinkUp t old new) where
  -- a place that is no end has the same line
  same_line_up : (e : LinkEnd) → (IsEnd t s.a e → ⊥) → line new e ≡ line old e
  same_line_up e d = line_same old new e (s.machines.machine_same e.router) (s.machines.seen_same e) (s.inbox_elsewhere e d) (s.up_elsewhere e d) (s.session_elsewhere e d) (s.costs.cost_same e)

  -- an end of the link will learn that it is up, in the new session, at its cost
  gains_up : (e : LinkEnd) → IsEnd t s.a e → (Fits (new.inbox e) (line new e).port) × (pending (line new e) ≡ port_after (UpNotice (new.session e) (new.cost e)) (pending (line old e)))
  gains_up e h =
      let l = k.lines e (end_valid t s.a e s.valid_place h) in
      line_gains (line old e) (line new e) (UpNotice (new.session e) (new.cost e)) (port_same old new s.machines e) (s.inbox_at e h) l
      (l.end_up ∙ end_up_is t old s.a e false k s.valid_place s.was_down h, omega (arith, l.end_session, s.session_at e h), omega (arith, l.positive, s.costs.cost_same e))

  lines_up : (e : LinkEnd) → t.valid e ≡ true → LineKept (line new e)
  lines_up e v = go (end_cases t s.a e)
    where
      go : IsEnd t s.a e ⊎ (IsEnd t s.a e → ⊥) → LineKept (line new e)
      go (inl h) = record {
        positive = rw (s.costs.cost_same e) (k.lines e v).positive;
        fits = (gains_up e h).0;
        end_up = ap (λ p. p.up) (gains_up e h).1 ∙ sym (s.up_at e h);
        end_session = ap (λ p. p.session) (gains_up e h).1;
        end_cost = λ u. ap (λ p. p.cost) (gains_up e h).1;
      }
      go (inr d) = rw (same_line_up e d) (k.lines e v)

  -- what is held is for no later session, with no value above infinity
  recent_up : (e : LinkEnd) → t.valid e ≡ true → AllRecent (new.session e) (held new e)
  recent_up e v = go (end_cases t s.a e)
    where
      go : IsEnd t s.a e ⊎ (IsEnd t s.a e → ⊥) → AllRecent (new.session e) (held new e)
      go (inl h) = rw (held_same old new s.holdings e) (recent_more (old.session e) (new.session e) (held old e) (omega (arith, s.session_at e h)) (k.recent e v))
      go (inr d) = rw (s.session_elsewhere e d, held_same old new s.holdings e) (k.recent e v)

  -- each far end is told the distance, and those of the link nothing yet
  sight_up : (e : LinkEnd) → t.valid e ≡ true → Sees t new e
  sight_up e v = go (end_cases t s.a e)
    where
      go : IsEnd t s.a e ⊎ (IsEnd t s.a e → ⊥) → Sees t new e
      go (inl h) up =
          ap (λ x. last_held (new.session e) x (held new e)) (ap (λ p. p.reported) (gains_up (t.far e) (end_far t s.a e s.valid_place h)).1)
          ∙ ap (last_held (new.session e) infinity) (held_same old new s.holdings e)
          ∙ last_none (old.session e) (new.session e) infinity (held old e) (k.recent e v) (omega (arith, s.session_at e h))
          ∙ sym (expected_past (new.seen e) (new.session e) (new.machine e.router).rd (omega (arith, s.session_at e h, s.machines.seen_same e, seen_past (line old e) (k.lines e v))))
      go (inr d) up =
          sees_same t old new e (s.up_elsewhere e d) (s.session_elsewhere e d) (ap (λ l. (pending l).reported) (same_line_up (t.far e) (λ h. d (end_near t s.a e s.valid_place v h))))
          (held_same old new s.holdings e) (s.machines.seen_same e) (s.machines.machine_same e.router) (k.sight e v) up

  -- a link that comes up keeps the state
  pub kept_up : Kept t new
  kept_up = kept_links t old new k s.machines (record {
    lines = lines_up;
    ends_up = λ e v. ends_agree t s.a old.up new.up (λ b. true) s.valid_place s.up_at s.up_elsewhere e v (k.ends_up e v);
    ends_session = λ e v. ends_agree t s.a old.session new.session (λ n. suc n) s.valid_place s.session_at s.session_elsewhere e v (k.ends_session e v);
    recent = recent_up;
    sight = sight_up;
  })

-- ---- a link goes down
module _ (t : Topology) (old new : State) (k : Kept t old) (s : LinkDown t old new) where
  -- a place that is no end has the same line
  same_line_down : (e : LinkEnd) → (IsEnd t s.a e → ⊥) → line new e ≡ line old e
  same_line_down e d = line_same old new e (s.machines.machine_same e.router) (s.machines.seen_same e) (s.inbox_elsewhere e d) (s.up_elsewhere e d) (s.session_same e) (s.costs.cost_same e)

  -- without its messages, an inbox leaves the port alike to what it would have been
  alike : (e : LinkEnd) → Alike (pending (line old e)) (replay (notices (old.inbox e)) (line old e).port)
  alike e = notices_alike (old.inbox e) (line old e).port (line old e).port (record { up = refl; session = refl; cost = refl })

  -- an end of the link will learn that it is down
  gains_down : (e : LinkEnd) → IsEnd t s.a e → (Fits (new.inbox e) (line new e).port) × (pending (line new e) ≡ port_after (DownNotice (old.session e)) (replay (notices (old.inbox e)) (line old e).port))
  gains_down e h =
      let l = k.lines e (end_valid t s.a e s.valid_place h) in
      let p = (line old e).port in
      let fit : Fits (notices (old.inbox e)) p = notices_fit (old.inbox e) p p (record { up = refl; session = refl; cost = refl }) l.fits in
      rw (port_same old new s.machines e, s.inbox_at e h) (
        fits_append (notices (old.inbox e)) (DownNotice (old.session e) ∷ []) p fit (sym (alike e).up ∙ l.end_up ∙ end_up_is t old s.a e true k s.valid_place s.was_up h, tt),
        replay_append (notices (old.inbox e)) (DownNotice (old.session e) ∷ []) p,
      )

  lines_down : (e : LinkEnd) → t.valid e ≡ true → LineKept (line new e)
  lines_down e v = go (end_cases t s.a e)
    where
      go : IsEnd t s.a e ⊎ (IsEnd t s.a e → ⊥) → LineKept (line new e)
      go (inl h) = record {
        positive = rw (s.costs.cost_same e) (k.lines e v).positive;
        fits = (gains_down e h).0;
        end_up = ap (λ p. p.up) (gains_down e h).1 ∙ sym (s.up_at e h);
        end_session = ap (λ p. p.session) (gains_down e h).1 ∙ sym (alike e).session ∙ (k.lines e v).end_session ∙ sym (s.session_same e);
        end_cost = λ u. absurd (both_ways (new.up e) (s.up_at e h) u);
      }
      go (inr d) = rw (same_line_down e d) (k.lines e v)

  -- each far end of a link that is up is told the distance
  sight_down : (e : LinkEnd) → t.valid e ≡ true → Sees t new e
  sight_down e v = go (end_cases t s.a e)
    where
      go : IsEnd t s.a e ⊎ (IsEnd t s.a e → ⊥) → Sees t new e
      go (inl h) up = absurd (both_ways (new.up e) (s.up_at e h) up)
      go (inr d) up =
          sees_same t old new e (s.up_elsewhere e d) (s.session_same e) (ap (λ l. (pending l).reported) (same_line_down (t.far e) (λ h. d (end_near t s.a e s.valid_place v h))))
          (held_same old new s.holdings e) (s.machines.seen_same e) (s.machines.machine_same e.router) (k.sight e v) up

  -- a link that goes down keeps the state
  pub kept_down : Kept t new
  kept_down = kept_links t old new k s.machines (record {
    lines = lines_down;
    ends_up = λ e v. ends_agree t s.a old.up new.up (λ b. false) s.valid_place s.up_at s.up_elsewhere e v (k.ends_up e v);
    ends_session = ends_session_same t old new k s.session_same;
    recent = λ e v. rw (s.session_same e, held_same old new s.holdings e) (k.recent e v);
    sight = sight_down;
  })

-- ---- a cost is set
module _ (t : Topology) (old new : State) (k : Kept t old) (s : SetCost t old new) where
  -- every other place has the same line
  same_line_cost : (e : LinkEnd) → (e ≡ s.a → ⊥) → line new e ≡ line old e
  same_line_cost e d = line_same old new e (s.machines.machine_same e.router) (s.machines.seen_same e) (s.inbox_elsewhere e d) (s.links.up_same e) (s.links.session_same e) (s.cost_elsewhere e d)

  -- the place will learn of the new cost
  gains_cost : (Fits (new.inbox s.a) (line new s.a).port) × (pending (line new s.a) ≡ port_after (CostNotice (old.session s.a) (new.cost s.a)) (pending (line old s.a)))
  gains_cost =
      let l = k.lines s.a s.valid_place in
      line_gains (line old s.a) (line new s.a) (CostNotice (old.session s.a) (new.cost s.a)) (port_same old new s.machines s.a) s.inbox_at l (l.end_up ∙ s.was_up, s.positive)

  lines_cost : (e : LinkEnd) → t.valid e ≡ true → LineKept (line new e)
  lines_cost e v = go (place_cases e s.a)
    where
      here : LineKept (line new s.a)
      here = record {
        positive = s.positive;
        fits = gains_cost.0;
        end_up = ap (λ p. p.up) gains_cost.1 ∙ (k.lines s.a s.valid_place).end_up ∙ sym (s.links.up_same s.a);
        end_session = ap (λ p. p.session) gains_cost.1 ∙ (k.lines s.a s.valid_place).end_session ∙ sym (s.links.session_same s.a);
        end_cost = λ u. ap (λ p. p.cost) gains_cost.1;
      }

      go : (e ≡ s.a) ⊎ (e ≡ s.a → ⊥) → LineKept (line new e)
      go (inl h) = subst (λ x. LineKept (line new x)) (sym h) here
      go (inr d) = rw (same_line_cost e d) (k.lines e v)

  -- what each port will have been told last stays the same
  reported_cost : (e : LinkEnd) → (pending (line new e)).reported ≡ (pending (line old e)).reported
  reported_cost e = go (place_cases e s.a)
    where
      go : (e ≡ s.a) ⊎ (e ≡ s.a → ⊥) → (pending (line new e)).reported ≡ (pending (line old e)).reported
      go (inl h) = subst (λ x. (pending (line new x)).reported ≡ (pending (line old x)).reported) (sym h) (ap (λ p. p.reported) gains_cost.1)
      go (inr d) = ap (λ l. (pending l).reported) (same_line_cost e d)

  -- a cost that is set keeps the state
  pub kept_cost : Kept t new
  kept_cost = kept_links t old new k s.machines (record {
    lines = lines_cost;
    ends_up = ends_up_same t old new k s.links;
    ends_session = ends_session_same t old new k s.links.session_same;
    recent = λ e v. rw (s.links.session_same e, held_same old new s.holdings e) (k.recent e v);
    sight = λ e v. sees_same t old new e (s.links.up_same e) (s.links.session_same e) (reported_cost (t.far e)) (held_same old new s.holdings e) (s.machines.seen_same e) (s.machines.machine_same e.router) (k.sight e v);
  })
