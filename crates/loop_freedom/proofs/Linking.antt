-- A link that comes up or goes down keeps the invariant.
use Rattle.std.proofs.Common.{refl, sym, ◌∙◌, ap, subst, arith, inl, inr, ◌≡◌, ℕ, suc, ◌<◌, ◌≤◌, true, false, ◌==◌, [], ◌∷◌, append-nil, ne_eqb}
use Rattle.network_model.proofs.Common.{both_ways, and_left, and_right, false_from_ne_true, Machine, is_port, UpNotice, LinkEnd, State, infinity, one_if}
use Rattle.machine_laws.specs.Laws.{is_up_at, awaits, owes_port}
use Rattle.loop_freedom.specs.Network.{Topology, LinkUp, LinkDown, IsEnd}
use Rattle.loop_freedom.proofs.Ends.{end_cases, end_far, end_near, end_valid, ends_agree}
use Rattle.loop_freedom.proofs.{Link.EndInvariant, Link.Answered, OnTheWay.messages-append}
use Rattle.loop_freedom.specs.Facts.{pipe, messages, live, is_current, is_next_hop, end_at}
use Rattle.loop_freedom.proofs.Notices.{IsLawfulInbox, lawful_seen, lawful_up, lawful_down, lawful_empty, nothing_held_later, lawfully_held_later}
use Rattle.loop_freedom.proofs.Invariant.{Invariant, IsLawfulAt, end_at_cong, end_invariant_same, answered_same, end_invariant_new}

-- a port that saw an earlier session does not know of the link's present one
not_seen : (m : Machine) (q seen n : ℕ) → seen < n → is_current m q seen n ≡ false
not_seen m q seen n lt = and_right (is_up_at m q) (seen == n) (ne_eqb seen n (λ e. omega (arith, e, lt)))

module _ (t : Topology) (old new : State) (I : Invariant t old) (L : LinkUp t old new) where
  was_down_at : (e : LinkEnd) → IsEnd t L.a e → old.up e ≡ false
  was_down_at e (inl p) = ap old.up p ∙ L.was_down
  was_down_at e (inr p) = ap old.up p ∙ I.up_far L.a L.valid_place ∙ L.was_down

  -- an end of a link that has just come up: it does not know of it, has nothing on its way, and no published edge
  record NewEnd (e : LinkEnd) : Type 0 where
    off : (end_at t new e).current ≡ false
    empty : pipe (end_at t new e) ≡ []
    hidden : (end_at t new e).shown ≡ false

  -- each end of the link that came up is such an end
  new_end : (e : LinkEnd) → IsEnd t L.a e → NewEnd e
  new_end e x =
      let v = end_valid t L.a e L.valid_place x in
      let f = t.far e in
      let xf = end_far t L.a e L.valid_place x in
      let vf = end_valid t L.a f L.valid_place xf in
      let seen_is : new.seen e ≡ old.seen e = L.machines.seen_same e in
      let ses : new.session e ≡ suc (old.session e) = L.session_at e x in
      let le : old.seen e ≤ old.session e = lawful_seen (is_up_at (old.machine e.router) e.port) (old.seen e) (old.up e) (old.session e) (old.inbox e) (I.lawful e v) in
      let lt : new.seen e < new.session e = omega (arith, seen_is, ses, le) in
      let later : old.session e < new.session e = omega (arith, ses) in
      let ripe_none : live (new.session e) (new.ripe e) ≡ [] = rw (L.holdings.ripe_same e) (nothing_held_later (old.session e) (new.session e) (old.ripe e) later (I.ripe_lawful e v)) in
      let unripe_none : live (new.session e) (new.unripe e) ≡ [] = rw (L.holdings.unripe_same e) (nothing_held_later (old.session e) (new.session e) (old.unripe e) later (I.unripe_lawful e v)) in
      let lawful_f : IsLawfulInbox (is_up_at (old.machine f.router) f.port) (old.seen f) false (old.session f) (old.inbox f) = rw (was_down_at f xf) at (I.lawful f vf) in
      let none : messages (old.inbox f) ≡ [] = lawful_empty (is_up_at (old.machine f.router) f.port) (old.seen f) (old.session f) (old.inbox f) lawful_f in
      let inbox_none : messages (new.inbox f) ≡ [] = ap messages (L.inbox_at f xf) ∙ messages-append (old.inbox f) (UpNotice (new.session f) (new.cost f) ∷ []) ∙ append-nil (messages (old.inbox f)) ∙ none in
      let hides : is_next_hop e.port (new.session e) (new.published e.router) ≡ true → ⊥ = λ h.
      let g = I.next_hop_old e v (new.session e) (rw (L.publications.published_same e.router) at h) in omega (arith, g, later) in
      record {
        off = not_seen (new.machine e.router) e.port (new.seen e) (new.session e) lt;
        empty = rw (inbox_none, ripe_none, unripe_none) refl;
        hidden = false_from_ne_true (is_next_hop e.port (new.session e) (new.published e.router)) hides;
      }

  -- published feasible distances are at most infinity after the step
  up_bounded : (e : LinkEnd) → (end_at t new e).pfd ≤ infinity
  up_bounded e = rw (L.publications.published_fd_same e.router) (I.pfd_bounded e.router)

  -- the invariant holds on the link that came up
  came_up : (e : LinkEnd) → IsEnd t L.a e → EndInvariant (end_at t new e) (end_at t new (t.far e))
  came_up e x =
      let f = t.far e in
      let X = new_end e x in
      let Y = new_end f (end_far t L.a e L.valid_place x) in
      let mx = new.machine e.router in
      let my = new.machine f.router in
      end_invariant_new (end_at t new e) (end_at t new f) X.off X.empty Y.empty Y.off
      (and_left (is_current mx e.port (new.seen e) (new.session e)) (is_port e.port mx.successor) X.off)
      X.hidden
      (and_left (is_current mx e.port (new.seen e) (new.session e)) (awaits mx e.port) X.off)
      (and_left (is_current my f.port (new.seen f) (new.session f)) (owes_port my f.port) Y.off)
      (up_bounded e)

  -- the ends of other links are as before
  other_end : (e : LinkEnd) → (IsEnd t L.a e → ⊥) → (IsEnd t L.a (t.far e) → ⊥) → end_at t new e ≡ end_at t old e
  other_end e d df =
      let ses : new.session e ≡ old.session e = L.session_elsewhere e d in
      let fre : new.unripe e ≡ old.unripe e = L.holdings.unripe_same e in
      let rip : new.ripe e ≡ old.ripe e = L.holdings.ripe_same e in
      let inb : new.inbox (t.far e) ≡ old.inbox (t.far e) = L.inbox_elsewhere (t.far e) df in
      end_at_cong t old new e (L.machines.machine_same e.router) (L.machines.seen_same e) ses (L.publications.published_same e.router) (L.publications.published_fd_same e.router) (cc) (cc)

  -- the invariant holds on every live link after one came up
  up_links : (e : LinkEnd) → t.valid e ≡ true → new.up e ≡ true → EndInvariant (end_at t new e) (end_at t new (t.far e))
  up_links e v u = elim (end_cases t L.a e) [
    | inl x ↦ came_up e x
    | inr d ↦
        let df : IsEnd t L.a (t.far e) → ⊥ = λ y. d (end_near t L.a e L.valid_place v y) in
        let dff : IsEnd t L.a (t.far (t.far e)) → ⊥ = λ y. d (subst (λ (z : LinkEnd). IsEnd t L.a z) (t.far_far e v) y) in
        end_invariant_same (other_end e d df) (other_end (t.far e) df dff) (I.links e v (sym (L.up_elsewhere e d) ∙ u))
  ]

  -- and who is awaited is so: nobody on a link that came up
  up_answers : (e : LinkEnd) → t.valid e ≡ true → new.up e ≡ true → Answered (end_at t new e) (end_at t new (t.far e))
  up_answers e v u = elim (end_cases t L.a e) [
    | inl x ↦
        let X = new_end e x in
        let none : one_if (end_at t new e).awaits ≡ 0 = ap one_if (and_left (is_current (new.machine e.router) e.port (new.seen e) (new.session e)) (awaits (new.machine e.router) e.port) X.off) in
        record { answered = omega (arith, none) }
    | inr d ↦
        let df : IsEnd t L.a (t.far e) → ⊥ = λ y. d (end_near t L.a e L.valid_place v y) in
        let dff : IsEnd t L.a (t.far (t.far e)) → ⊥ = λ y. d (subst (λ (z : LinkEnd). IsEnd t L.a z) (t.far_far e v) y) in
        answered_same (other_end e d df) (other_end (t.far e) df dff) (I.answers e v (sym (L.up_elsewhere e d) ∙ u))
  ]

  -- the items at every end are lawful after a link came up
  up_lawful : (e : LinkEnd) → t.valid e ≡ true → IsLawfulAt new e
  up_lawful e v = elim (end_cases t L.a e) [
    | inl x ↦
        let before : IsLawfulInbox (is_up_at (old.machine e.router) e.port) (old.seen e) false (old.session e) (old.inbox e) = rw (was_down_at e x) at (I.lawful e v) in
        let cost : 0 < new.cost e = rw (L.costs.cost_same e) (I.cost_positive e v) in
        rw (L.machines.machine_same e.router, L.machines.seen_same e, L.inbox_at e x, L.up_at e x, L.session_at e x)
        (lawful_up (is_up_at (old.machine e.router) e.port) (old.seen e) (old.session e) (new.cost e) (old.inbox e) cost before)
    | inr d ↦ rw (L.machines.machine_same e.router, L.machines.seen_same e, L.up_elsewhere e d, L.session_elsewhere e d, L.inbox_elsewhere e d) (I.lawful e v)
  ]

  -- no link's session falls
  grows : (e : LinkEnd) → old.session e ≤ new.session e
  grows e = elim (end_cases t L.a e) [
    | inl x ↦ (let s = L.session_at e x in omega (arith, s))
    | inr d ↦ (let s = L.session_elsewhere e d in omega (arith, s))
  ]

  -- a link that comes up keeps the invariant
  pub link_up_keeps : Invariant t new
  link_up_keeps = record {
    sound = λ i. rw (L.machines.machine_same i) (I.sound i);
    pfd_bounded = λ i. rw (L.publications.published_fd_same i) (I.pfd_bounded i);
    there = λ e v. rw (L.machines.machine_same e.router) (I.there e v);
    up_far = λ e v. ends_agree t L.a old.up new.up (λ b. true) L.valid_place L.up_at L.up_elsewhere e v (I.up_far e v);
    session_far = λ e v. ends_agree t L.a old.session new.session (λ n. suc n) L.valid_place L.session_at L.session_elsewhere e v (I.session_far e v);
    cost_positive = λ e v. rw (L.costs.cost_same e) (I.cost_positive e v);
    lawful = up_lawful;
    ripe_lawful = λ e v. rw (L.holdings.ripe_same e) (lawfully_held_later (old.session e) (new.session e) (old.ripe e) (grows e) (I.ripe_lawful e v));
    unripe_lawful = λ e v. rw (L.holdings.unripe_same e) (lawfully_held_later (old.session e) (new.session e) (old.unripe e) (grows e) (I.unripe_lawful e v));
    next_hop_old = λ e v k h. (let g = I.next_hop_old e v k (rw (L.publications.published_same e.router) at h) in let w = grows e in omega (arith, g, w));
    links = up_links;
    answers = up_answers;
  }

module _ (t : Topology) (old new : State) (I : Invariant t old) (L : LinkDown t old new) where
  was_up_at : (e : LinkEnd) → IsEnd t L.a e → old.up e ≡ true
  was_up_at e (inl p) = ap old.up p ∙ L.was_up
  was_up_at e (inr p) = ap old.up p ∙ I.up_far L.a L.valid_place ∙ L.was_up

  -- the ends of other links are as before
  down_other_end : (e : LinkEnd) → (IsEnd t L.a (t.far e) → ⊥) → end_at t new e ≡ end_at t old e
  down_other_end e df =
      let ses : new.session e ≡ old.session e = L.session_same e in
      let fre : new.unripe e ≡ old.unripe e = L.holdings.unripe_same e in
      let rip : new.ripe e ≡ old.ripe e = L.holdings.ripe_same e in
      let inb : new.inbox (t.far e) ≡ old.inbox (t.far e) = L.inbox_elsewhere (t.far e) df in
      end_at_cong t old new e (L.machines.machine_same e.router) (L.machines.seen_same e) ses (L.publications.published_same e.router) (L.publications.published_fd_same e.router) (cc) (cc)

  -- the invariant holds on every live link after another went down
  down_links : (e : LinkEnd) → t.valid e ≡ true → new.up e ≡ true → EndInvariant (end_at t new e) (end_at t new (t.far e))
  down_links e v u = elim (end_cases t L.a e) [
    | inl x ↦ absurd (both_ways (new.up e) (L.up_at e x) u)
    | inr d ↦
        let df : IsEnd t L.a (t.far e) → ⊥ = λ y. d (end_near t L.a e L.valid_place v y) in
        let dff : IsEnd t L.a (t.far (t.far e)) → ⊥ = λ y. d (subst (λ (z : LinkEnd). IsEnd t L.a z) (t.far_far e v) y) in
        end_invariant_same (down_other_end e df) (down_other_end (t.far e) dff) (I.links e v (sym (L.up_elsewhere e d) ∙ u))
  ]

  -- and who is awaited is so
  down_answers : (e : LinkEnd) → t.valid e ≡ true → new.up e ≡ true → Answered (end_at t new e) (end_at t new (t.far e))
  down_answers e v u = elim (end_cases t L.a e) [
    | inl x ↦ absurd (both_ways (new.up e) (L.up_at e x) u)
    | inr d ↦
        let df : IsEnd t L.a (t.far e) → ⊥ = λ y. d (end_near t L.a e L.valid_place v y) in
        let dff : IsEnd t L.a (t.far (t.far e)) → ⊥ = λ y. d (subst (λ (z : LinkEnd). IsEnd t L.a z) (t.far_far e v) y) in
        answered_same (down_other_end e df) (down_other_end (t.far e) dff) (I.answers e v (sym (L.up_elsewhere e d) ∙ u))
  ]

  -- the items at every end are lawful after a link went down
  down_lawful : (e : LinkEnd) → t.valid e ≡ true → IsLawfulAt new e
  down_lawful e v = elim (end_cases t L.a e) [
    | inl x ↦
        let before : IsLawfulInbox (is_up_at (old.machine e.router) e.port) (old.seen e) true (old.session e) (old.inbox e) = rw (was_up_at e x) at (I.lawful e v) in
        rw (L.machines.machine_same e.router, L.machines.seen_same e, L.inbox_at e x, L.up_at e x, L.session_same e)
        (lawful_down (is_up_at (old.machine e.router) e.port) (old.seen e) (old.session e) (old.inbox e) before)
    | inr d ↦ rw (L.machines.machine_same e.router, L.machines.seen_same e, L.up_elsewhere e d, L.session_same e, L.inbox_elsewhere e d) (I.lawful e v)
  ]

  -- a link that goes down keeps the invariant
  pub link_down_keeps : Invariant t new
  link_down_keeps = record {
    sound = λ i. rw (L.machines.machine_same i) (I.sound i);
    pfd_bounded = λ i. rw (L.publications.published_fd_same i) (I.pfd_bounded i);
    there = λ e v. rw (L.machines.machine_same e.router) (I.there e v);
    up_far = λ e v. ends_agree t L.a old.up new.up (λ b. false) L.valid_place L.up_at L.up_elsewhere e v (I.up_far e v);
    session_far = λ e v. L.session_same (t.far e) ∙ I.session_far e v ∙ sym (L.session_same e);
    cost_positive = λ e v. rw (L.costs.cost_same e) (I.cost_positive e v);
    lawful = down_lawful;
    ripe_lawful = λ e v. rw (L.holdings.ripe_same e, L.session_same e) (I.ripe_lawful e v);
    unripe_lawful = λ e v. rw (L.holdings.unripe_same e, L.session_same e) (I.unripe_lawful e v);
    next_hop_old = λ e v k h. rw (L.session_same e) (I.next_hop_old e v k (rw (L.publications.published_same e.router) at h));
    links = down_links;
    answers = down_answers;
  }
