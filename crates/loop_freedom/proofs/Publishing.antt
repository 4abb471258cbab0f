-- A router that publishes keeps the invariant.
use Rattle.std.proofs.Common.{refl, sym, ◌∙◌, ap, subst, arith, append_assoc, inl, inr, ◌≡◌, ℕ, ◌≤◌, true, ◌&&◌, ◌==◌, List, [], ◌++◌, Option, Some, None, eqb-true, eq-eqb, ne_eqb}
use Rattle.network_model.proofs.Common.{cases_eq, false≢true, and_parts, and-true, and-false, Machine, is_port, port_successor, SeenHeld, SeenItem, LinkEnd, State, at_port, infinity}
use Rattle.network_model.specs.declared.route.NextHop.{NextHop}
use Rattle.machine_laws.specs.Laws.{is_up_at}
use Rattle.machine_laws.proofs.Successors.{port_successor_from, is_port_successor}
use Rattle.loop_freedom.specs.Network.{Topology, Publish, next_hop_of}
use Rattle.loop_freedom.proofs.{Link.EndInvariant, Link.Answered, OnTheWay.live-append, Notices.lawful_seen, Notices.lawfully_held_append}
use Rattle.loop_freedom.proofs.Published.{shown_as_chosen, shown_published, invariant_here, invariant_there, answered_here, answered_there}
use Rattle.loop_freedom.specs.Facts.{messages, live, is_current, is_next_hop, end_of, end_at}
use Rattle.loop_freedom.proofs.Invariant.{Invariant, end_at_cong, end_invariant_same, answered_same}

-- a published successor is port q in session n exactly where q is the machine's successor and knows of session n
pub next_hop_seen : (m : Machine) (q n : ℕ) (seen : ℕ → ℕ) (s : Option ℕ) → (s ≡ Some q → is_up_at m q ≡ true)
    → is_next_hop q n (next_hop_of seen s) ≡ (is_current m q (seen q) n && is_port q s)
next_hop_seen m q n seen None f = sym (and-false (is_current m q (seen q) n))
next_hop_seen m q n seen (Some p) f = elim (cases_eq p q) [
  | inl e ↦ subst (λ (x : ℕ). ((x == q) && (seen x == n)) ≡ (is_current m q (seen q) n && (q == x))) (sym e)
      (rw (eq-eqb q q refl, f (ap (λ (x : ℕ). Some x) e)) (sym (and-true (seen q == n))))
  | inr d ↦ rw (ne_eqb p q d, ne_eqb q p (λ e. d (sym e))) (sym (and-false (is_current m q (seen q) n)))
]

-- a successor that is published at a port has the session seen there
next_hop_session : (q k : ℕ) (seen : ℕ → ℕ) (s : Option ℕ) → is_next_hop q k (next_hop_of seen s) ≡ true → k ≡ seen q
next_hop_session q k seen None e = absurd (false≢true e)
next_hop_session q k seen (Some p) e =
    let parts = and_parts (p == q) (seen p == k) e in
    let p_is : p ≡ q = eqb-true p q parts.0 in
    let k_is : seen p ≡ k = eqb-true (seen p) k parts.1 in
    sym k_is ∙ ap seen p_is

-- an end with the parts that a publication makes is the old end, as published
pub published_end : {m m' : Machine} {seen seen' n n' : ℕ} {pfd' : ℕ} (q : ℕ) (o o' : Option NextHop) (pfd : ℕ) (items items' : List SeenItem) (ripe ripe' unripe unripe' : List SeenHeld)
    → m' ≡ m → seen' ≡ seen → n' ≡ n → is_next_hop q n' o' ≡ (is_current m q seen n && is_port q m.successor) → pfd' ≡ m.fd
    → messages items' ++ live n' ripe' ≡ (messages items ++ live n ripe) ++ live n unripe → live n' unripe' ≡ []
    → end_of m' q seen' n' o' pfd' items' ripe' unripe' ≡ shown_as_chosen (end_of m q seen n o pfd items ripe unripe)
published_end q o o' pfd items items' ripe ripe' unripe unripe' a b c d e f g = cc

module _ (t : Topology) (old new : State) (I : Invariant t old) (P : Publish t old new) where
  -- an end of the router that publishes is the old end, as published
  here : (e : LinkEnd) → t.valid e ≡ true → e.router ≡ P.j → end_at t new e ≡ shown_as_chosen (end_at t old e)
  here e v r =
      let m = old.machine e.router in
      let M : new.machine e.router ≡ old.machine e.router = P.machines.machine_same e.router in
      let ses : new.session e ≡ old.session e = P.links.session_same e in
      let out_is : new.published e.router ≡ next_hop_of (λ q. old.seen (at_port e.router q)) (port_successor (old.machine e.router)) =
      subst (λ (i : ℕ). new.published i ≡ next_hop_of (λ q. old.seen (at_port i q)) (port_successor (old.machine i))) (sym r) P.published_at in
      let shown : is_next_hop e.port (new.session e) (new.published e.router) ≡ (is_current m e.port (old.seen e) (old.session e) && is_port e.port m.successor) =
      rw (out_is, ses) (next_hop_seen m e.port (old.session e) (λ q. old.seen (at_port e.router q)) (port_successor m) (λ k. (I.sound e.router).successor_up e.port (port_successor_from m e.port k) (I.there e v))
      ∙ ap (λ b. is_current m e.port (old.seen e) (old.session e) && b) (is_port_successor m e.port (I.there e v))) in
      let pfd_is : new.published_fd e.router ≡ m.fd = subst (λ (i : ℕ). new.published_fd i ≡ (old.machine i).fd) (sym r) P.published_fd_at in
      let outs : messages (new.inbox (t.far e)) ++ live (new.session e) (new.ripe e) ≡ (messages (old.inbox (t.far e)) ++ live (old.session e) (old.ripe e)) ++ live (old.session e) (old.unripe e) =
      rw (P.inboxes.inbox_same (t.far e), ses, P.ripe_at e r, live-append (old.session e) (old.ripe e) (old.unripe e)) (sym (append_assoc (messages (old.inbox (t.far e))) (live (old.session e) (old.ripe e)) (live (old.session e) (old.unripe e)))) in
      published_end e.port (old.published e.router) (new.published e.router) (old.published_fd e.router) (old.inbox (t.far e)) (new.inbox (t.far e)) (old.ripe e) (new.ripe e) (old.unripe e) (new.unripe e)
      M (P.machines.seen_same e) ses shown pfd_is outs (ap (live (new.session e)) (P.unripe_at e r))

  -- an end of another router is as before
  elsewhere : (e : LinkEnd) → (e.router ≡ P.j → ⊥) → end_at t new e ≡ end_at t old e
  elsewhere e d =
      let ses : new.session e ≡ old.session e = P.links.session_same e in
      let fre : new.unripe e ≡ old.unripe e = P.unripe_elsewhere e d in
      let rip : new.ripe e ≡ old.ripe e = P.ripe_elsewhere e d in
      let inb : new.inbox (t.far e) ≡ old.inbox (t.far e) = P.inboxes.inbox_same (t.far e) in
      end_at_cong t old new e (P.machines.machine_same e.router) (P.machines.seen_same e) ses (P.published_elsewhere e.router d) (P.published_fd_elsewhere e.router d) (cc) (cc)

  -- the invariant holds on every live link after the publication
  links' : (e : LinkEnd) → t.valid e ≡ true → new.up e ≡ true → EndInvariant (end_at t new e) (end_at t new (t.far e))
  links' e v u =
      let f = t.far e in
      let x = end_at t old e in
      let y = end_at t old f in
      let up_e : old.up e ≡ true = sym (P.links.up_same e) ∙ u in
      let one : EndInvariant x y = I.links e v up_e in
      let cur : x.chosen ≡ true → x.current ≡ true = λ c. (and_parts (is_current (old.machine e.router) e.port (old.seen e) (old.session e)) (is_port e.port (old.machine e.router).successor) c).0 in
      let low : x.fd ≤ infinity = let a = (I.sound e.router).fd_below in let b = (I.sound e.router).rd_bounded in omega (arith, a, b) in
      let only_x : EndInvariant (shown_as_chosen x) y = invariant_here (shown_published x) cur low one in
      let only_y : EndInvariant x (shown_as_chosen y) = invariant_there (shown_published y) one in
      let both : EndInvariant (shown_as_chosen x) (shown_as_chosen y) = invariant_there (shown_published y) only_x in
      elim (cases_eq e.router P.j) [
        | inl re ↦ elim (cases_eq f.router P.j) [
          | inl rf ↦ end_invariant_same (here e v re) (here f (t.far_valid e v) rf) both
          | inr df ↦ end_invariant_same (here e v re) (elsewhere f df) only_x
        ]
        | inr de ↦ elim (cases_eq f.router P.j) [
          | inl rf ↦ end_invariant_same (elsewhere e de) (here f (t.far_valid e v) rf) only_y
          | inr df ↦ end_invariant_same (elsewhere e de) (elsewhere f df) one
        ]
      ]

  -- and who is awaited is so
  answers' : (e : LinkEnd) → t.valid e ≡ true → new.up e ≡ true → Answered (end_at t new e) (end_at t new (t.far e))
  answers' e v u =
      let f = t.far e in
      let x = end_at t old e in
      let y = end_at t old f in
      let one : Answered x y = I.answers e v (sym (P.links.up_same e) ∙ u) in
      elim (cases_eq e.router P.j) [
        | inl re ↦ elim (cases_eq f.router P.j) [
          | inl rf ↦ answered_same (here e v re) (here f (t.far_valid e v) rf) (answered_there (shown_published y) (answered_here (shown_published x) one))
          | inr df ↦ answered_same (here e v re) (elsewhere f df) (answered_here (shown_published x) one)
        ]
        | inr de ↦ elim (cases_eq f.router P.j) [
          | inl rf ↦ answered_same (elsewhere e de) (here f (t.far_valid e v) rf) (answered_there (shown_published y) one)
          | inr df ↦ answered_same (elsewhere e de) (elsewhere f df) one
        ]
      ]

  -- no published successor is of a session later than its link's
  next_hops : (e : LinkEnd) → t.valid e ≡ true → (k : ℕ) → is_next_hop e.port k (new.published e.router) ≡ true → k ≤ new.session e
  next_hops e v k h = elim (cases_eq e.router P.j) [
    | inl r ↦
        let out_is : new.published e.router ≡ next_hop_of (λ q. old.seen (at_port e.router q)) (port_successor (old.machine e.router)) =
        subst (λ (i : ℕ). new.published i ≡ next_hop_of (λ q. old.seen (at_port i q)) (port_successor (old.machine i))) (sym r) P.published_at in
        let k_is : k ≡ old.seen e = next_hop_session e.port k (λ q. old.seen (at_port e.router q)) (port_successor (old.machine e.router)) (rw out_is at h) in
        let le : old.seen e ≤ old.session e = lawful_seen (is_up_at (old.machine e.router) e.port) (old.seen e) (old.up e) (old.session e) (old.inbox e) (I.lawful e v) in
        let ses : new.session e ≡ old.session e = P.links.session_same e in
        omega (arith, k_is, le, ses)
    | inr d ↦ rw (P.links.session_same e) (I.next_hop_old e v k (rw (P.published_elsewhere e.router d) at h))
  ]

  -- a publication keeps the invariant
  pub publish_keeps : Invariant t new
  publish_keeps = record {
    sound = λ i. rw (P.machines.machine_same i) (I.sound i);
    pfd_bounded = λ i. elim (cases_eq i P.j) [
      | inl p ↦ subst (λ (k : ℕ). new.published_fd k ≤ infinity) (sym p) (let a = (I.sound P.j).fd_below in let b = (I.sound P.j).rd_bounded in let c = P.published_fd_at in omega (arith, a, b, c))
      | inr d ↦ rw (P.published_fd_elsewhere i d) (I.pfd_bounded i)
    ];
    there = λ e v. rw (P.machines.machine_same e.router) (I.there e v);
    up_far = λ e v. P.links.up_same (t.far e) ∙ I.up_far e v ∙ sym (P.links.up_same e);
    session_far = λ e v. P.links.session_same (t.far e) ∙ I.session_far e v ∙ sym (P.links.session_same e);
    cost_positive = λ e v. rw (P.costs.cost_same e) (I.cost_positive e v);
    lawful = λ e v. rw (P.machines.machine_same e.router, P.machines.seen_same e, P.links.up_same e, P.links.session_same e, P.inboxes.inbox_same e) (I.lawful e v);
    ripe_lawful = λ e v. elim (cases_eq e.router P.j) [
      | inl r ↦ rw (P.links.session_same e, P.ripe_at e r) (lawfully_held_append (old.session e) (old.ripe e) (old.unripe e) (I.ripe_lawful e v) (I.unripe_lawful e v))
      | inr d ↦ rw (P.links.session_same e, P.ripe_elsewhere e d) (I.ripe_lawful e v)
    ];
    unripe_lawful = λ e v. elim (cases_eq e.router P.j) [
      | inl r ↦ rw (P.links.session_same e, P.unripe_at e r) tt
      | inr d ↦ rw (P.links.session_same e, P.unripe_elsewhere e d) (I.unripe_lawful e v)
    ];
    next_hop_old = next_hops;
    links = links';
    answers = answers';
  }
