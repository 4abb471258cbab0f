-- A step of one router, at one of whose ports something may be taken, keeps the invariant.
use Rattle.std.proofs.Common.{refl, sym, ap, subst, ◌∙◌, arith, append_assoc, inl, inr, ◌≡◌, ◌≢◌, ℕ, Bool, ◌<◌, ◌≤◌, true, false, [], ◌++◌, Option, None}
use Rattle.no_packet_loops.proofs.Common.{Prefix, Router, machine_of, session_at, kept, ripe_of, unripe_of, IsSound, Topology, LinkEnd, at_port, place_cases, is_next_hop, next_hop_at, live, front, EndInvariant, LinkStep, step_keeps, IsLawfullyHeld, lawfully_held_later}
use Rattle.network_model.proofs.Common.{cases_eq, Report}
use Rattle.daemon_laws.specs.Processes.{Processes}
use Rattle.daemon_laws.proofs.{Cases.each_but, Routers.RouterKept, Routers.Unmoved, Goes.Goes, Cheap.IsCheap, Told.Told, Told.told_keeps, Gone.Gone, Gone.Leaves, Gone.gone_keeps}
use Rattle.daemon_laws.proofs.Seen.{carried, messages_arriving, is_port_in, MayBeIn}
use Rattle.daemon_laws.proofs.Moving.{in_session, hop_same, Moved, moved_unmoved}
use Rattle.daemon_laws.proofs.Invariant.{Whole, router_at, session_of, end_from, MayBe, Left, Invariant, links_far, gone_before}

-- router i makes a step, at whose port q it may take a message; nothing else changes
pub record GoesAt (t : Topology) (p : Prefix) (w w' : Processes) : Type 0 where
  pub i : ℕ
  pub q : ℕ
  pub took : ℕ → Option Report
  pub goes : Goes p (w.routers i) (w'.routers i) q took
  pub routers_elsewhere : (j : ℕ) → j ≢ i → w'.routers j ≡ w.routers j
  pub coming_elsewhere : (e : LinkEnd) → (e ≡ at_port i q → ⊥) → w'.coming e ≡ w.coming e
  pub lost_same : w'.lost ≡ w.lost
  pub last_grows : (e : LinkEnd) → w.last e ≤ w'.last e
  pub last_after : (e : LinkEnd) → session_of w' e ≤ w'.last e
  -- a session that a router comes into is later than each that its end was in
  pub fresh : (j : ℕ) → session_at (w.routers i).ports j < session_at (w'.routers i).ports j → w.last (at_port i j) < session_at (w'.routers i).ports j
  pub coming_at : t.valid (at_port i q) ≡ true → (n : ℕ) → MayBe p n w' (at_port i q) → live n (carried p (w.coming (at_port i q))) ≡ front (took n) ++ live n (carried p (w'.coming (at_port i q)))
  pub coming_fewer : (k : ℕ) → IsLawfullyHeld k (carried p (w.coming (at_port i q))) → IsLawfullyHeld k (carried p (w'.coming (at_port i q)))

-- what a step does at one end in a session: an end step, with the message that is taken there
pub record Stepped (t : Topology) (p : Prefix) (n : ℕ) (pfd : ℕ → ℕ) (w w' : Processes) (e : LinkEnd) : Type 0 where
  pub taken : Option Report
  pub moved : Moved p n (pfd e.router) (router_at w e) (router_at w' e) e.port (w.coming (t.far e)) (w'.coming (t.far e)) taken
  pub was : MayBe p n w e
  pub ripe_is : kept p e.port (ripe_of (router_at w' e)) ≡ kept p e.port (ripe_of (router_at w e))
  pub tooks : t.valid e ≡ true → live n (carried p (w.coming e)) ≡ front taken ++ live n (carried p (w'.coming e))

module _ (t : Topology) (p : Prefix) (pfd : ℕ → ℕ) (w w' : Processes) (I : Invariant t p pfd w) (G : GoesAt t p w w') where
  -- the end at which something may be taken
  abbrev a : LinkEnd
  a = at_port G.i G.q

  -- what holds of each router as it was and of router i after its step, holds of each router after the step
  each_router : (P : ℕ → Router → Type 0) → P G.i (w'.routers G.i) → ((j : ℕ) → P j (w.routers j)) → (j : ℕ) → P j (w'.routers j)
  each_router = each_but G.routers_elsewhere

  -- a router that makes no step
  still : (r : Router) → RouterKept p r → Unmoved p r r
  still r R = record { machine_is = refl; published_is = refl; seen_is = λ j. refl; ripe_is = λ j. refl; unripe_is = λ j. refl; keeps = R }

  -- another end of router i is at another port
  other_port : (j : ℕ) → j ≢ G.q → at_port G.i j ≡ a → ⊥
  other_port j d e = d (ap (λ (f : LinkEnd). f.port) e)

  -- an end that may be in a session after the step might be before
  pub may_before : (n j : ℕ) → MayBe p n w' (at_port G.i j) → MayBe p n w (at_port G.i j)
  may_before n j (inr lt) = inr (let le = G.last_grows (at_port G.i j) in omega (arith, lt, le))
  may_before n j (inl on) = by_before before
    where
      seen : session_at (w'.routers G.i).ports j ≡ n
      seen = in_session p (w'.routers G.i) j n on

      by_before : MayBeIn p (w.routers G.i) j n → MayBe p n w (at_port G.i j)
      by_before (inl was) = inl was
      by_before (inr lt) = inr (let f = G.fresh j (omega (arith, seen, lt)) in omega (arith, f, seen))

      before : MayBeIn p (w.routers G.i) j n
      before = elim (cases_eq j G.q) [
        | inl e ↦ subst (λ (k : ℕ). is_port_in p (w'.routers G.i) k n ≡ true → MayBeIn p (w.routers G.i) k n) (sym e) (λ o. ((G.goes).moves_at n 0 [] [] (inl o)).was) on
        | inr d ↦ ((G.goes).moves_beside n 0 j [] [] d (inl on)).was
      ]

  -- after the step it is in it, or its router was last in an earlier one
  near : (n j : ℕ) → MayBe p n w' (at_port G.i j) → MayBeIn p (w'.routers G.i) j n
  near n j (inl on) = inl on
  near n j (inr lt) = inr (let le = G.last_after (at_port G.i j) in omega (arith, le, lt))

  -- each end of router i makes an end step
  stepped_here : (n j : ℕ) → MayBe p n w' (at_port G.i j) → Stepped t p n pfd w w' (at_port G.i j)
  stepped_here n j may = elim (cases_eq j G.q) [
    | inl e ↦ subst (λ (k : ℕ). MayBe p n w' (at_port G.i k) → Stepped t p n pfd w w' (at_port G.i k)) (sym e)
        (λ m. record {
          taken = G.took n;
          moved = (G.goes).moves_at n (pfd G.i) (w.coming (t.far a)) (w'.coming (t.far a)) (near n G.q m);
          was = may_before n G.q m;
          ripe_is = (G.goes).ripe_is G.q;
          tooks = λ v. G.coming_at v n m;
        }) may
    | inr d ↦ record {
      taken = None;
      moved = (G.goes).moves_beside n (pfd G.i) j (w.coming (t.far (at_port G.i j))) (w'.coming (t.far (at_port G.i j))) d (near n j may);
      was = may_before n j may;
      ripe_is = (G.goes).ripe_is j;
      tooks = λ v. ap (λ cs. live n (carried p cs)) (sym (G.coming_elsewhere (at_port G.i j) (other_port j d)));
    }
  ]

  -- so does each end of another router, which takes and adds nothing
  stepped_away : (n : ℕ) (e : LinkEnd) → e.router ≢ G.i → MayBe p n w' e → Stepped t p n pfd w w' e
  stepped_away n e d may =
      let r = router_at w e in
      let same : w'.routers e.router ≡ r = G.routers_elsewhere e.router d in
      let U : Unmoved p r (w'.routers e.router) = subst (λ (x : Router). Unmoved p r x) (sym same) (still r (I.keeps e.router)) in
      record {
        taken = None;
        moved = moved_unmoved p n (pfd e.router) r (w'.routers e.router) e.port (w.coming (t.far e)) (w'.coming (t.far e)) (I.sound e.router) U (near_away may);
        was = by_may may;
        ripe_is = U.ripe_is e.port;
        tooks = λ v. ap (λ cs. live n (carried p cs)) (sym (G.coming_elsewhere e (λ x. d (ap (λ (f : LinkEnd). f.router) x))));
      }
    where
      near_away : MayBe p n w' e → MayBeIn p (w'.routers e.router) e.port n
      near_away (inl on) = inl on
      near_away (inr lt) = inr (let le = G.last_after e in omega (arith, le, lt))

      by_may : MayBe p n w' e → MayBe p n w e
      by_may (inl on) = inl (ap (λ (r : Router). is_port_in p r e.port n) (sym (G.routers_elsewhere e.router d)) ∙ on)
      by_may (inr lt) = inr (let le = G.last_grows e in omega (arith, le, lt))

  -- each end of a router that may be in the session after the step makes an end step
  stepped : (n : ℕ) (e : LinkEnd) → MayBe p n w' e → Stepped t p n pfd w w' e
  stepped n e may = elim (cases_eq e.router G.i) [
    | inl r ↦ subst (λ (f : LinkEnd). MayBe p n w' f → Stepped t p n pfd w w' f) (sym (ap (λ (k : ℕ). at_port k e.port) r)) (λ m. stepped_here n e.port m) may
    | inr d ↦ stepped_away n e d may
  ]

  -- an end that does not know of the session after the step keeps what it shows and holds
  record Silent (n : ℕ) (e : LinkEnd) : Type 0 where
    hop_is : next_hop_at p (router_at w' e) ≡ next_hop_at p (router_at w e)
    ripe_is : kept p e.port (ripe_of (router_at w' e)) ≡ kept p e.port (ripe_of (router_at w e))
    unripe_is : live n (kept p e.port (unripe_of (router_at w' e))) ≡ live n (kept p e.port (unripe_of (router_at w e)))

  -- so it is of each router that has left the session
  silent : (n : ℕ) (e : LinkEnd) → is_port_in p (router_at w' e) e.port n ≡ false → Silent n e
  silent n e off = elim (cases_eq e.router G.i) [
    | inl r ↦ subst (λ (f : LinkEnd). is_port_in p (router_at w' f) f.port n ≡ false → Silent n f) (sym (ap (λ (k : ℕ). at_port k e.port) r))
        (λ m. record { hop_is = hop_same p (w.routers G.i) (w'.routers G.i) (G.goes).published_is; ripe_is = (G.goes).ripe_is e.port; unripe_is = (G.goes).silent n e.port m }) off
    | inr d ↦
        let same : router_at w' e ≡ router_at w e = G.routers_elsewhere e.router d in
        record { hop_is = ap (next_hop_at p) same; ripe_is = ap (λ (r : Router). kept p e.port (ripe_of r)) same; unripe_is = ap (λ (r : Router). live n (kept p e.port (unripe_of r))) same }
  ]

  -- what was released from e is what is taken across the link, and then what is released from e after the step
  outs : (n : ℕ) (e : LinkEnd) (taken : Option Report) → live n (carried p (w.coming (t.far e))) ≡ front taken ++ live n (carried p (w'.coming (t.far e)))
      → kept p e.port (ripe_of (router_at w' e)) ≡ kept p e.port (ripe_of (router_at w e))
      → (end_from t p n pfd w e).out ≡ front taken ++ (end_from t p n pfd w' e).out
  outs n e taken tooks ripe =
      let old = w.coming (t.far e) in
      let new = w'.coming (t.far e) in
      ap (λ ms. ms ++ live n (kept p e.port (ripe_of (router_at w e)))) (messages_arriving n (carried p old) ∙ tooks)
      ∙ append_assoc (front taken) (live n (carried p new)) (live n (kept p e.port (ripe_of (router_at w e))))
      ∙ (λ z. front taken ++ (sym (messages_arriving n (carried p new)) z ++ live n (sym ripe z)))

  -- the two ends of a link in a session that neither router has left after the step, before and after
  record Linked (n : ℕ) (e : LinkEnd) : Type 0 where
    one : Stepped t p n pfd w w' e
    two : Stepped t p n pfd w w' (t.far e)
    step : LinkStep (end_from t p n pfd w e) (end_from t p n pfd w (t.far e)) (end_from t p n pfd w' e) (end_from t p n pfd w' (t.far e)) one.taken two.taken (one.moved).added (two.moved).added

  -- so are the ends of each link
  linked : (e : LinkEnd) → t.valid e ≡ true → (n : ℕ) → MayBe p n w' e → MayBe p n w' (t.far e) → Linked n e
  linked e v n may_e may_f =
      let f = t.far e in
      let back : t.far f ≡ e = t.far_far e v in
      let A = stepped n e may_e in
      let B = stepped n f may_f in
      let took_e : live n (carried p (w.coming (t.far f))) ≡ front A.taken ++ live n (carried p (w'.coming (t.far f))) =
      subst (λ (k : LinkEnd). live n (carried p (w.coming k)) ≡ front A.taken ++ live n (carried p (w'.coming k))) (sym back) (A.tooks v) in
      record {
        one = A;
        two = B;
        step = record {
          one = I.links e v n A.was B.was;
          two = links_far I e v n A.was B.was;
          here = (A.moved).step;
          there = (B.moved).step;
          out_here = outs n e B.taken (B.tooks (t.far_valid e v)) A.ripe_is;
          out_there = outs n f A.taken took_e B.ripe_is;
        };
      }

  -- in a session that neither router has left after the step
  links' : (e : LinkEnd) → t.valid e ≡ true → (n : ℕ) → MayBe p n w' e → MayBe p n w' (t.far e) → EndInvariant (end_from t p n pfd w' e) (end_from t p n pfd w' (t.far e))
  links' e v n one two = step_keeps (linked e v n one two).step

  told' : (e : LinkEnd) → t.valid e ≡ true → (n : ℕ) → Whole t n w'.lost e → MayBe p n w' e → MayBe p n w' (t.far e) → Told (end_from t p n pfd w' e) (end_from t p n pfd w' (t.far e))
  told' e v n whole one two = let L = linked e v n one two in told_keeps L.step ((L.two).moved).speaks (I.told e v n (subst (λ (l : LinkEnd → ℕ → Bool). Whole t n l e) G.lost_same whole) (L.one).was (L.two).was)

  -- in a session that the one has left after the step, and the other has not
  alone' : (e : LinkEnd) → t.valid e ≡ true → (n : ℕ) → Left p n w' e → MayBe p n w' (t.far e) → Gone (end_from t p n pfd w' e) (end_from t p n pfd w' (t.far e))
  alone' e v n left two =
      let f = t.far e in
      let B = stepped n f two in
      let S = silent n e left.off in
      let L : Leaves (end_from t p n pfd w e) (end_from t p n pfd w f) (end_from t p n pfd w' e) (end_from t p n pfd w' f) B.taken (B.moved).added =
      record {
        gone = gone_before I e v n B.was;
        there = (B.moved).step;
        shown_is = ap (λ o. is_next_hop e.port n o) S.hop_is;
        pfd_is = refl;
        kept_is = S.unripe_is;
        out_is = outs n e B.taken (B.tooks (t.far_valid e v)) S.ripe_is;
      } in
      gone_keeps L

  -- what comes to each end is as before, or without a first message
  coming' : (e : LinkEnd) → IsLawfullyHeld (w'.last (t.far e)) (carried p (w'.coming e))
  coming' e =
      let k = w.last (t.far e) in
      let k' = w'.last (t.far e) in
      let fewer : IsLawfullyHeld k (carried p (w'.coming e)) = elim (place_cases e a) [
        | inl at ↦ subst (λ (f : LinkEnd). IsLawfullyHeld k (carried p (w.coming f)) → IsLawfullyHeld k (carried p (w'.coming f))) (sym at) (λ h. G.coming_fewer k h) (I.coming_lawful e)
        | inr d ↦ subst (λ cs. IsLawfullyHeld k (carried p cs)) (sym (G.coming_elsewhere e d)) (I.coming_lawful e)
      ] in
      lawfully_held_later k k' (carried p (w'.coming e)) (G.last_grows (t.far e)) fewer

  -- such a step keeps the invariant
  pub goes_keeps : Invariant t p pfd w'
  goes_keeps = record {
    sound = each_router (λ j r. IsSound (machine_of r p)) (G.goes).sound I.sound;
    pfd_bounded = I.pfd_bounded;
    keeps = each_router (λ j r. RouterKept p r) (G.goes).keeps I.keeps;
    ripe_lawful = λ i q. each_router (λ j r. IsLawfullyHeld (session_at r.ports q) (kept p q (ripe_of r)))
        (lawfully_held_later (session_at (w.routers G.i).ports q) (session_at (w'.routers G.i).ports q) (kept p q (ripe_of (w'.routers G.i))) ((G.goes).later q)
        (subst (λ hs. IsLawfullyHeld (session_at (w.routers G.i).ports q) hs) (sym ((G.goes).ripe_is q)) (I.ripe_lawful G.i q))) (λ j. I.ripe_lawful j q) i;
    unripe_lawful = λ i q. each_router (λ j r. IsLawfullyHeld (session_at r.ports q) (kept p q (unripe_of r))) ((G.goes).unripe_lawful q (I.unripe_lawful G.i q)) (λ j. I.unripe_lawful j q) i;
    last_is = G.last_after;
    coming_lawful = coming';
    cheap = each_router (λ j r. IsCheap (machine_of r p)) ((G.goes).cheap (I.cheap G.i)) I.cheap;
    links = links';
    told = told';
    alone = alone';
  }
