-- A router whose machine meets an event keeps the invariant, whether it took an item or a notice of its attachment.
use Rattle.std.proofs.Common.{refl, sym, ◌∙◌, ap, subst, arith, append_assoc, inl, inr, ◌≡◌, ℕ, suc, ◌<◌, ◌≤◌, Bool, true, false, ◌==◌, if◌then◌else◌, List, [], ◌∷◌, ◌++◌, Option, Some, None, length, slice_get}
use Rattle.network_model.proofs.Common.{cases_eq, Machine, reaction, event_at_home, Report, LinkEnd, State, infinity}
use Rattle.network_model.specs.{declared.machine.Event.Event, declared.machine.Outgoing.Outgoing}
use Rattle.machine_laws.specs.Laws.{IsSound, Meets, MachineLaws, is_up_at, sent_to}
use Rattle.loop_freedom.specs.Network.{Topology, SameLinks, SameCosts, SamePublished, Take, TakeAtHome, event_of, held_for}
use Rattle.loop_freedom.proofs.{Lists.front, Link.Answered, Link.EndStep, Link.EndInvariant, Notices.lawful_seen, Notices.IsLawfullyHeld, Notices.lawfully_held_append, Reacts.PortStep, Reacts.reacts, Reacts.rests, LinkSteps.LinkStep, LinkSteps.step_keeps, LinkSteps.step_answered, Invariant.Invariant, Invariant.IsLawfulAt, Invariant.end_cong}
use Rattle.loop_freedom.specs.Facts.{End, messages, live, end_of, end_at}

-- router i's machine reacts to the event, and what it sends is held, unripe; nothing else changes but what its own ends see and have yet to take
pub record Met (old new : State) (i : ℕ) (ev : Event) : Type 0 where
  pub machine_at : new.machine i ≡ (reaction (old.machine i) ev).machine
  pub machine_elsewhere : (k : ℕ) → (k ≡ i → ⊥) → new.machine k ≡ old.machine k
  pub seen_elsewhere : (e : LinkEnd) → (e.router ≡ i → ⊥) → new.seen e ≡ old.seen e
  pub inbox_elsewhere : (e : LinkEnd) → (e.router ≡ i → ⊥) → new.inbox e ≡ old.inbox e
  pub unripe_at : (e : LinkEnd) → e.router ≡ i → new.unripe e ≡ old.unripe e ++ held_for (new.seen e) (sent_to e.port (reaction (old.machine i) ev).sends)
  pub unripe_elsewhere : (e : LinkEnd) → (e.router ≡ i → ⊥) → new.unripe e ≡ old.unripe e
  pub ripe_same : (e : LinkEnd) → new.ripe e ≡ old.ripe e
  pub links : SameLinks old new
  pub costs : SameCosts old new
  pub publications : SamePublished old new

pub met_item : (t : Topology) (old new : State) (T : Take t old new) → Met old new T.a.router (event_of T.a.port T.item)
met_item t old new T = record {
  machine_at = T.machine_at;
  machine_elsewhere = T.machine_elsewhere;
  seen_elsewhere = λ e f. T.seen_elsewhere e (λ x. f (ap (λ (w : LinkEnd). w.router) x));
  inbox_elsewhere = λ e f. T.inbox_elsewhere e (λ x. f (ap (λ (w : LinkEnd). w.router) x));
  unripe_at = T.unripe_at;
  unripe_elsewhere = T.unripe_elsewhere;
  ripe_same = T.ripe_same;
  links = T.links;
  costs = T.costs;
  publications = T.publications;
}

-- one that takes a notice of its attachment
pub met_notice : (t : Topology) (old new : State) (T : TakeAtHome t old new) → Met old new T.i (event_at_home T.notice)
met_notice t old new T = record {
  machine_at = T.machine_at;
  machine_elsewhere = T.machine_elsewhere;
  seen_elsewhere = λ e f. T.seen_same e;
  inbox_elsewhere = λ e f. T.inboxes.inbox_same e;
  unripe_at = λ e r. rw (T.seen_same e) (T.unripe_at e r);
  unripe_elsewhere = T.unripe_elsewhere;
  ripe_same = T.ripe_same;
  links = T.links;
  costs = T.costs;
  publications = T.publications;
}

-- what a machine sends is lawfully held, where its session is not later than n and its values are not above infinity
pub lawfully_held_for : (k n q : ℕ) (ss : List Outgoing) → k ≤ n → ((s : Outgoing) (i : ℕ) → slice_get ss i ≡ Some s → s.value ≤ infinity) → IsLawfullyHeld n (held_for k (sent_to q ss))
lawfully_held_for k n q [] le f = tt
lawfully_held_for k n q (s ∷ ss) le f = by_port (s.port == q) (lawfully_held_for k n q ss le (λ x i e. f x (suc i) e))
  where
    by_port : (b : Bool) → IsLawfullyHeld n (held_for k (sent_to q ss)) → IsLawfullyHeld n (held_for k (if b then s ∷ sent_to q ss else sent_to q ss))
    by_port true h = (le, f s 0 refl, h)
    by_port false h = h

-- what a step does at one end: an end step, with the message that leaves its inbox
pub record Stepped (t : Topology) (old new : State) (e : LinkEnd) : Type 0 where
  pub taken : Option Report
  pub added : List Report
  pub step : EndStep (end_at t old e) (end_at t new e) taken added
  pub took : messages (old.inbox e) ≡ front taken ++ messages (new.inbox e)

-- an end step between two ends is one between ends that equal them
pub end_step_along : {x y x' y' : End} {taken : Option Report} {added : List Report} → x ≡ y → x' ≡ y' → EndStep x x' taken added → EndStep y y' taken added
end_step_along {x} {y} {x'} {y'} {taken} {added} p q h = subst (λ (z : End). EndStep z y' taken added) p (subst (λ (z : End). EndStep x z taken added) q h)

-- what the router takes at one of its ends as its machine meets the event: a message, or none
pub record Taken (old new : State) (m : Machine) (ev : Event) (e : LinkEnd) : Type 0 where
  pub message : Option Report
  pub port : PortStep m ev e.port (old.seen e) (new.seen e) (old.session e) message
  pub took : messages (old.inbox e) ≡ front message ++ messages (new.inbox e)

-- a step in which router i's machine meets an event, and what the items at its ends are to it
pub record Meeting (t : Topology) (old new : State) (i : ℕ) (ev : Event) : Type 0 where
  pub met : Met old new i ev
  pub meets : Meets (old.machine i) ev
  pub takes : (e : LinkEnd) → t.valid e ≡ true → old.up e ≡ true → e.router ≡ i → Taken old new (old.machine i) ev e
  pub lengths : (k : ℕ) → length (new.machine k).ports ≡ length (old.machine k).ports
  pub lawful : (e : LinkEnd) → t.valid e ≡ true → IsLawfulAt new e

module _ (laws : MachineLaws) (t : Topology) (old new : State) (I : Invariant t old) (i : ℕ) (ev : Event) (X : Meeting t old new i ev) where
  -- the step
  abbrev M : Met old new i ev
  M = X.met

  -- the machine that meets the event
  abbrev m : Machine
  m = old.machine i

  -- what the machine adds to the messages on their way from e
  sent_from : LinkEnd → List Report
  sent_from e = live (old.session e) (held_for (new.seen e) (sent_to e.port (reaction m ev).sends))

  -- the reaction makes an end step at each port of the router that reacts
  acts : (e : LinkEnd) → t.valid e ≡ true → e.router ≡ i → (taken : Option Report) → PortStep m ev e.port (old.seen e) (new.seen e) (old.session e) taken
      → EndStep (end_at t old e) (end_at t new e) taken (sent_from e)
  unfolding sent_from
  acts e v r taken P =
      let there : e.port < length m.ports = subst (λ (k : ℕ). e.port < length (old.machine k).ports) r (I.there e v) in
      let was : m ≡ old.machine e.router = sym (ap old.machine r) in
      let is : (reaction m ev).machine ≡ new.machine e.router = sym (ap new.machine r ∙ M.machine_at) in
      let ses : old.session e ≡ new.session e = sym (M.links.session_same e) in
      let pub_is : old.published e.router ≡ new.published e.router = sym (M.publications.published_same e.router) in
      let pfd_is : old.published_fd e.router ≡ new.published_fd e.router = sym (M.publications.published_fd_same e.router) in
      let ripe_is : old.ripe e ≡ new.ripe e = sym (M.ripe_same e) in
      let unripe_is : old.unripe e ++ held_for (new.seen e) (sent_to e.port (reaction m ev).sends) ≡ new.unripe e = sym (M.unripe_at e r) in
      let items = old.inbox (t.far e) in
      let items' = new.inbox (t.far e) in
      let before : end_of m e.port (old.seen e) (old.session e) (old.published e.router) (old.published_fd e.router) items (old.ripe e) (old.unripe e) ≡ end_at t old e =
      end_cong e.port items items (old.ripe e) (old.ripe e) (old.unripe e) (old.unripe e) was refl refl refl refl refl refl in
      let now : end_of (reaction m ev).machine e.port (new.seen e) (old.session e) (old.published e.router) (old.published_fd e.router) items' (old.ripe e) (old.unripe e ++ held_for (new.seen e) (sent_to e.port (reaction m ev).sends)) ≡ end_at t new e =
      end_cong e.port items' items' (new.ripe e) (old.ripe e) (new.unripe e) (old.unripe e ++ held_for (new.seen e) (sent_to e.port (reaction m ev).sends)) is refl ses pub_is pfd_is (cc) (cc) in
      end_step_along before now (reacts laws m ev (I.sound i) X.meets e.port (old.seen e) (new.seen e) (old.session e) taken P there (old.published e.router) (old.published_fd e.router) items items' (old.ripe e) (old.unripe e))

  -- the ends of the router that are on live links make an end step
  stepped_at : (e : LinkEnd) → t.valid e ≡ true → old.up e ≡ true → e.router ≡ i → Stepped t old new e
  stepped_at e v u r =
      let T = X.takes e v u r in
      record { taken = T.message; added = sent_from e; step = acts e v r T.message T.port; took = T.took }

  -- the ends of other routers make an end step that takes and adds nothing
  stepped_away : (e : LinkEnd) → (e.router ≡ i → ⊥) → Stepped t old new e
  stepped_away e f =
      let m_is : old.machine e.router ≡ new.machine e.router = sym (M.machine_elsewhere e.router f) in
      let seen_is : old.seen e ≡ new.seen e = sym (M.seen_elsewhere e f) in
      let ses : old.session e ≡ new.session e = sym (M.links.session_same e) in
      let pub_is : old.published e.router ≡ new.published e.router = sym (M.publications.published_same e.router) in
      let pfd_is : old.published_fd e.router ≡ new.published_fd e.router = sym (M.publications.published_fd_same e.router) in
      let ripe_is : old.ripe e ≡ new.ripe e = sym (M.ripe_same e) in
      let unripe_is : old.unripe e ≡ new.unripe e = sym (M.unripe_elsewhere e f) in
      let items = old.inbox (t.far e) in
      let items' = new.inbox (t.far e) in
      let now : end_of (old.machine e.router) e.port (old.seen e) (old.session e) (old.published e.router) (old.published_fd e.router) items' (old.ripe e) (old.unripe e) ≡ end_at t new e =
      end_cong e.port items' items' (new.ripe e) (old.ripe e) (new.unripe e) (old.unripe e) m_is seen_is ses pub_is pfd_is (cc) (cc) in
      record {
        taken = None;
        added = [];
        step = end_step_along refl now (rests (old.machine e.router) (I.sound e.router) e.port (old.seen e) (old.session e) (old.published e.router) (old.published_fd e.router) items items' (old.ripe e) (old.unripe e));
        took = ap messages (sym (M.inbox_elsewhere e f));
      }

  -- every end of a live link makes an end step
  stepped : (e : LinkEnd) → t.valid e ≡ true → old.up e ≡ true → Stepped t old new e
  stepped e v u = elim (cases_eq e.router i) [ inl r ↦ stepped_at e v u r | inr f ↦ stepped_away e f ]

  -- what was released from e is what is taken across the link, then what is released from e after the step
  outs : (e : LinkEnd) (taken : Option Report) → messages (old.inbox (t.far e)) ≡ front taken ++ messages (new.inbox (t.far e))
      → (end_at t old e).out ≡ front taken ++ (end_at t new e).out
  outs e taken h =
      let ses : new.session e ≡ old.session e = M.links.session_same e in
      let ripe_is : new.ripe e ≡ old.ripe e = M.ripe_same e in
      let lives : live (new.session e) (new.ripe e) ≡ live (old.session e) (old.ripe e) = cc in
      rw (h, lives) (append_assoc (front taken) (messages (new.inbox (t.far e))) (live (old.session e) (old.ripe e)))

  -- the two ends of a live link make a step together
  link_step : (e : LinkEnd) (v : t.valid e ≡ true) (u : old.up e ≡ true) (u' : old.up (t.far e) ≡ true)
      → LinkStep (end_at t old e) (end_at t old (t.far e)) (end_at t new e) (end_at t new (t.far e)) (stepped e v u).taken (stepped (t.far e) (t.far_valid e v) u').taken (stepped e v u).added (stepped (t.far e) (t.far_valid e v) u').added
  link_step e v u u' =
      let f = t.far e in
      let back : t.far f ≡ e = t.far_far e v in
      let A = stepped e v u in
      let B = stepped f (t.far_valid e v) u' in
      let two : EndInvariant (end_at t old f) (end_at t old e) = subst (λ (w : LinkEnd). EndInvariant (end_at t old f) (end_at t old w)) back (I.links f (t.far_valid e v) u') in
      let took_e : messages (old.inbox (t.far f)) ≡ front A.taken ++ messages (new.inbox (t.far f)) = subst (λ (w : LinkEnd). messages (old.inbox w) ≡ front A.taken ++ messages (new.inbox w)) (sym back) A.took in
      record { one = I.links e v u; two = two; here = A.step; there = B.step; out_here = outs e B.taken B.took; out_there = outs f A.taken took_e }

  -- the invariant holds on every live link after the step
  links' : (e : LinkEnd) → t.valid e ≡ true → new.up e ≡ true → EndInvariant (end_at t new e) (end_at t new (t.far e))
  links' e v u = let up_e : old.up e ≡ true = sym (M.links.up_same e) ∙ u in step_keeps (link_step e v up_e (I.up_far e v ∙ up_e))

  -- and who is awaited is so
  answers' : (e : LinkEnd) → t.valid e ≡ true → new.up e ≡ true → Answered (end_at t new e) (end_at t new (t.far e))
  answers' e v u = let up_e : old.up e ≡ true = sym (M.links.up_same e) ∙ u in step_answered (link_step e v up_e (I.up_far e v ∙ up_e)) (I.answers e v up_e)

  -- every machine is sound after the step
  machines' : (k : ℕ) → IsSound (new.machine k)
  machines' k = elim (cases_eq k i) [
    | inl p ↦ subst (λ (j : ℕ). IsSound (new.machine j)) (sym p) (rw M.machine_at (laws.stays_sound m ev (I.sound i) X.meets))
    | inr d ↦ rw (M.machine_elsewhere k d) (I.sound k)
  ]

  -- the unripe messages are lawfully held after the step
  unripe' : (e : LinkEnd) → t.valid e ≡ true → IsLawfullyHeld (new.session e) (new.unripe e)
  unripe' e v =
      let seen_le : new.seen e ≤ old.session e = rw (M.links.session_same e) at (lawful_seen (is_up_at (new.machine e.router) e.port) (new.seen e) (new.up e) (new.session e) (new.inbox e) (X.lawful e v)) in
      let bounded : (s : Outgoing) (k : ℕ) → slice_get (reaction m ev).sends k ≡ Some s → s.value ≤ infinity = λ s k g.
      let a = (laws.sends_distance m ev (I.sound i) X.meets s k g).0 in
      let b = (laws.stays_sound m ev (I.sound i) X.meets).rd_bounded in
      omega (arith, a, b) in
      elim (cases_eq e.router i) [
        | inl r ↦ rw (M.links.session_same e, M.unripe_at e r) (lawfully_held_append (old.session e) (old.unripe e) (held_for (new.seen e) (sent_to e.port (reaction m ev).sends)) (I.unripe_lawful e v)
            (lawfully_held_for (new.seen e) (old.session e) e.port (reaction m ev).sends seen_le bounded))
        | inr f ↦ rw (M.links.session_same e, M.unripe_elsewhere e f) (I.unripe_lawful e v)
      ]

  -- the step keeps the invariant
  pub meeting_keeps : Invariant t new
  meeting_keeps = record {
    sound = machines';
    pfd_bounded = λ k. rw (M.publications.published_fd_same k) (I.pfd_bounded k);
    there = λ e v. rw (X.lengths e.router) (I.there e v);
    up_far = λ e v. M.links.up_same (t.far e) ∙ I.up_far e v ∙ sym (M.links.up_same e);
    session_far = λ e v. M.links.session_same (t.far e) ∙ I.session_far e v ∙ sym (M.links.session_same e);
    cost_positive = λ e v. rw (M.costs.cost_same e) (I.cost_positive e v);
    lawful = X.lawful;
    ripe_lawful = λ e v. rw (M.links.session_same e, M.ripe_same e) (I.ripe_lawful e v);
    unripe_lawful = unripe';
    next_hop_old = λ e v k h. rw (M.links.session_same e) (I.next_hop_old e v k (rw (M.publications.published_same e.router) at h));
    links = links';
    answers = answers';
  }
