-- Ports that get other neighbours keep the invariant and the order of sessions.
use Rattle.std.proofs.Common.{refl, sym, ap, subst, ◌∙◌, arith, inl, inr, ◌≡◌, ℕ, ◌<◌, ◌≤◌, max, Bool, true, false, not, ◌&&◌, ◌==◌, if◌then◌else◌, [], ◌++◌, eq-eqb}
use Rattle.no_packet_loops.proofs.Common.{and_parts, and_from, Prefix, machine_of, is_port, is_up_at, kept, ripe_of, unripe_of, Topology, LinkEnd, awaits, owes_port, EndInvariant, IsLawfullyHeld, lawfully_held_later, nothing_held_later}
use Rattle.network_model.proofs.Common.{cases_Bool, both_ways, false_from_ne_true, and_left}
use Rattle.loop_freedom.specs.Facts.{End, messages}
use Rattle.daemon_laws.specs.Processes.{Processes}
use Rattle.daemon_laws.specs.Happenings.{is_same_end, link_stays, is_new_link, MayRewire, rewired}
use Rattle.daemon_laws.proofs.Seen.{carried, arriving_in, end_in, is_port_in}
use Rattle.daemon_laws.proofs.{Moving.not_yet, Told.Told, Gone.Gone, Telling.in_session_is, Orderly.CarriedPast, Orderly.carried_later, Orderly.Orderly, Restarting.Blank, Restarting.blank_links, Restarting.blank_told, Steps.end_itself, Steps.end_same}
use Rattle.daemon_laws.proofs.Invariant.{Whole, Placed, router_at, session_of, end_from, MayBe, Left, Invariant}

module _ (t t' : Topology) (p : Prefix) (pfd : ℕ → ℕ) (w : Processes) (I : Invariant t p pfd w) (O : Orderly t p w) (R : MayRewire t t' w) where
  abbrev pub w' : Processes
  w' = rewired t t' w

  -- ---- links

  -- a link that stays was there, and its ends are those that they were
  pub record Stays (e : LinkEnd) : Type 0 where
    pub was : t.valid e ≡ true
    pub is : t'.valid e ≡ true
    pub far_is : t'.far e ≡ t.far e

  pub stays_at : (e : LinkEnd) → link_stays t t' e ≡ true → Stays e
  stays_at e h =
      let one = and_parts (t.valid e) (t'.valid e && is_same_end (t.far e) (t'.far e)) h in
      let two = and_parts (t'.valid e) (is_same_end (t.far e) (t'.far e)) one.1 in
      record { was = one.0; is = two.0; far_is = sym (end_same (t.far e) (t'.far e) two.1) }

  pub stays_far : (e : LinkEnd) → link_stays t t' e ≡ true → link_stays t t' (t'.far e) ≡ true
  stays_far e h =
      let S = stays_at e h in
      let f = t'.far e in
      let was : t.valid f ≡ true = subst (λ (d : LinkEnd). t.valid d ≡ true) (sym S.far_is) (t.far_valid e S.was) in
      let back : t.far f ≡ e = ap t.far S.far_is ∙ t.far_far e S.was in
      let same : is_same_end (t.far f) (t'.far f) ≡ true = subst (λ (d : LinkEnd). is_same_end d (t'.far f) ≡ true) (sym back) (subst (λ (d : LinkEnd). is_same_end e d ≡ true) (sym (t'.far_far e S.is)) (end_itself e)) in
      and_from (t.valid f) (t'.valid f && is_same_end (t.far f) (t'.far f)) was (and_from (t'.valid f) (is_same_end (t.far f) (t'.far f)) (t'.far_valid e S.is) same)

  -- a link that was not there was not at its other end
  new_far : (e : LinkEnd) → t'.valid e ≡ true → link_stays t t' e ≡ false → link_stays t t' (t'.far e) ≡ false
  new_far e v off = false_from_ne_true (link_stays t t' (t'.far e)) (λ on. both_ways (link_stays t t' e) off (subst (λ (d : LinkEnd). link_stays t t' d ≡ true) (t'.far_far e v) (stays_far (t'.far e) on)))

  -- ---- ends

  -- an end has to exceed each session that its process was in
  own_within : (e : LinkEnd) → session_of w e ≤ w'.last e
  own_within e = go (is_new_link t t' e)
    where
      go : (b : Bool) → session_of w e ≤ (if b then max (session_of w e) (session_of w (t'.far e)) else w.last e)
      go true = omega arith
      go false = I.last_is e

  -- at a link that stays all is as before
  pub record Same (e : LinkEnd) : Type 0 where
    pub coming : w'.coming e ≡ w.coming e
    pub last : w'.last e ≡ w.last e
    pub heard : w'.heard e ≡ w.heard e
    pub lost : (n : ℕ) → w'.lost e n ≡ w.lost e n

  pub same_at : (e : LinkEnd) → link_stays t t' e ≡ true → Same e
  same_at e on = record {
    coming = ap (λ b. if b then w.coming e else []) on;
    last = ap (λ b. if b then max (session_of w e) (session_of w (t'.far e)) else w.last e) (old_link e on);
    heard = ap (λ b. if b then w.heard e else 0) on;
    lost = λ n. ap (λ b. b && w.lost e n) on;
  }
    where
      old_link : (e : LinkEnd) → link_stays t t' e ≡ true → is_new_link t t' e ≡ false
      old_link e on = ap (λ b. t'.valid e && not b) on ∙ nothing_of (t'.valid e)
        where
          nothing_of : (b : Bool) → (b && false) ≡ false
          nothing_of true = refl
          nothing_of false = refl

  -- at another nothing comes, and nothing was taken
  none_comes : (e : LinkEnd) → link_stays t t' e ≡ false → w'.coming e ≡ []
  none_comes e off = ap (λ b. if b then w.coming e else []) off

  none_heard : (e : LinkEnd) → link_stays t t' e ≡ false → w'.heard e ≡ 0
  none_heard e off = ap (λ b. if b then w.heard e else 0) off

  -- an end of a link that was not there
  new_at : (e : LinkEnd) → t'.valid e ≡ true → link_stays t t' e ≡ false → is_new_link t t' e ≡ true
  new_at e v off = and_from (t'.valid e) (not (link_stays t t' e)) v (ap not off)

  -- it has to exceed what the process at either was in
  new_last : (e : LinkEnd) → t'.valid e ≡ true → link_stays t t' e ≡ false → w'.last e ≡ max (session_of w e) (session_of w (t'.far e))
  new_last e v off = ap (λ b. if b then max (session_of w e) (session_of w (t'.far e)) else w.last e) (new_at e v off)

  -- it is in no session
  out : (e : LinkEnd) (n : ℕ) → is_new_link t t' e ≡ true → is_port_in p (router_at w e) e.port n ≡ false
  out e n new = sym (in_session_is p w e (I.keeps e.router) n) ∙ R e new n

  -- it is blank in each that it may come into
  blank : (e : LinkEnd) (n : ℕ) → t'.valid e ≡ true → link_stays t t' e ≡ false → session_of w e < n → Blank (end_from t' p n pfd w' e)
  blank e n v off past =
      let r = router_at w e in
      let m = machine_of r p in
      let away : is_port_in p r e.port n ≡ false = not_yet p r e.port n past in
      record {
        off = away;
        chosen = and_left (is_port_in p r e.port n) (is_port e.port m.successor) away;
        shown = false_from_ne_true (end_from t' p n pfd w' e).shown (λ s. (let le = O.row_past e n s in omega (arith, le, past)));
        awaits = and_left (is_port_in p r e.port n) (awaits m e.port) away;
        owes = and_left (is_port_in p r e.port n) (owes_port m e.port) away;
        empty = (λ z. (messages (arriving_in n (carried p (none_comes (t'.far e) (new_far e v off) z))) ++ nothing_held_later (session_of w e) n (kept p e.port (ripe_of r)) past (I.ripe_lawful e.router e.port) z) ++ nothing_held_later (session_of w e) n (kept p e.port (unripe_of r)) past (I.unripe_lawful e.router e.port) z);
        pfd_low = I.pfd_bounded e.router;
      }

  -- an end that may be in a session after has to come into it
  to_come : (e : LinkEnd) (n : ℕ) → t'.valid e ≡ true → link_stays t t' e ≡ false → MayBe p n w' e → (session_of w e < n) × (session_of w (t'.far e) < n)
  to_come e n v off (inl on) = absurd (both_ways (is_port_in p (router_at w e) e.port n) (out e n (new_at e v off)) on)
  to_come e n v off (inr lt) = (let is = new_last e v off in (omega (arith, lt, is), omega (arith, lt, is)))

  -- so both ends of a link that was not there are blank
  blanks : (e : LinkEnd) (n : ℕ) → t'.valid e ≡ true → link_stays t t' e ≡ false → MayBe p n w' e → Blank (end_from t' p n pfd w' e) × Blank (end_from t' p n pfd w' (t'.far e))
  blanks e n v off may =
      let c = to_come e n v off may in
      (blank e n v off c.0, blank (t'.far e) n (t'.far_valid e v) (new_far e v off) c.1)

  -- an end of a link that stays is as before
  end_same' : (e : LinkEnd) (n : ℕ) → link_stays t t' e ≡ true → end_from t' p n pfd w' e ≡ end_from t p n pfd w e
  end_same' e n on = ap (end_in p n (pfd e.router) (router_at w e) e.port) ((same_at (t'.far e) (stays_far e on)).coming ∙ ap w.coming (stays_at e on).far_is)

  far_same : (e : LinkEnd) (n : ℕ) → link_stays t t' e ≡ true → end_from t' p n pfd w' (t'.far e) ≡ end_from t p n pfd w (t.far e)
  far_same e n on = end_same' (t'.far e) n (stays_far e on) ∙ ap (end_from t p n pfd w) (stays_at e on).far_is

  -- it may be in the sessions that it might be in
  may_before : (e : LinkEnd) (n : ℕ) → link_stays t t' e ≡ true → MayBe p n w' e → MayBe p n w e
  may_before e n on (inl is) = inl is
  may_before e n on (inr lt) = inr (let g = (same_at e on).last in omega (arith, lt, g))

  may_far : (e : LinkEnd) (n : ℕ) → link_stays t t' e ≡ true → MayBe p n w' (t'.far e) → MayBe p n w (t.far e)
  may_far e n on may = subst (MayBe p n w) (stays_at e on).far_is (may_before (t'.far e) n (stays_far e on) may)

  -- ---- each session

  links' : (e : LinkEnd) → t'.valid e ≡ true → (n : ℕ) → MayBe p n w' e → MayBe p n w' (t'.far e) → EndInvariant (end_from t' p n pfd w' e) (end_from t' p n pfd w' (t'.far e))
  links' e v n one two = elim (cases_Bool (link_stays t t' e)) [
    | inl on ↦ subst (λ (x : End). EndInvariant x (end_from t' p n pfd w' (t'.far e))) (sym (end_same' e n on))
        (subst (λ (y : End). EndInvariant (end_from t p n pfd w e) y) (sym (far_same e n on)) (I.links e (stays_at e on).was n (may_before e n on one) (may_far e n on two)))
    | inr off ↦ let B = blanks e n v off one in blank_links B.0 B.1
  ]

  told' : (e : LinkEnd) → t'.valid e ≡ true → (n : ℕ) → Whole t' n w'.lost e → MayBe p n w' e → MayBe p n w' (t'.far e) → Told (end_from t' p n pfd w' e) (end_from t' p n pfd w' (t'.far e))
  told' e v n whole one two = elim (cases_Bool (link_stays t t' e)) [
    | inl on ↦
        let near : w.lost e n ≡ false = sym ((same_at e on).lost n) ∙ whole.0 in
        let far : w.lost (t.far e) n ≡ false = subst (λ (d : LinkEnd). w.lost d n ≡ false) (stays_at e on).far_is (sym ((same_at (t'.far e) (stays_far e on)).lost n) ∙ whole.1) in
        subst (λ (x : End). Told x (end_from t' p n pfd w' (t'.far e))) (sym (end_same' e n on))
        (subst (λ (y : End). Told (end_from t p n pfd w e) y) (sym (far_same e n on)) (I.told e (stays_at e on).was n (near, far) (may_before e n on one) (may_far e n on two)))
    | inr off ↦ let B = blanks e n v off one in blank_told B.0 B.1
  ]

  alone' : (e : LinkEnd) → t'.valid e ≡ true → (n : ℕ) → Left p n w' e → MayBe p n w' (t'.far e) → Gone (end_from t' p n pfd w' e) (end_from t' p n pfd w' (t'.far e))
  alone' e v n left two = elim (cases_Bool (link_stays t t' e)) [
    | inl on ↦
        let was : Left p n w e = record { off = left.off; past = (let l = left.past in let s = (same_at e on).last in omega (arith, l, s)) } in
        subst (λ (x : End). Gone x (end_from t' p n pfd w' (t'.far e))) (sym (end_same' e n on))
        (subst (λ (y : End). Gone (end_from t p n pfd w e) y) (sym (far_same e n on)) (I.alone e (stays_at e on).was n was (may_far e n on two)))
    | inr off ↦
        let c = to_come (t'.far e) n (t'.far_valid e v) (new_far e v off) two in
        let back : session_of w e < n = subst (λ (d : LinkEnd). session_of w d < n) (t'.far_far e v) c.1 in
        absurd (let is = new_last e v off in let l = left.past in let there = c.0 in omega (arith, is, l, back, there))
  ]

  coming' : (e : LinkEnd) → IsLawfullyHeld (w'.last (t'.far e)) (carried p (w'.coming e))
  coming' e = elim (cases_Bool (link_stays t t' e)) [
    | inl on ↦ subst (λ cs. IsLawfullyHeld (w'.last (t'.far e)) (carried p cs)) (sym (same_at e on).coming)
        (lawfully_held_later (w.last (t.far e)) (w'.last (t'.far e)) (carried p (w.coming e))
        (let g = (same_at (t'.far e) (stays_far e on)).last in let s : w.last (t'.far e) ≡ w.last (t.far e) = ap w.last (stays_at e on).far_is in omega (arith, g, s)) (I.coming_lawful e))
    | inr off ↦ subst (λ cs. IsLawfullyHeld (w'.last (t'.far e)) (carried p cs)) (sym (none_comes e off)) tt
  ]

  -- other neighbours keep the invariant
  pub rewired_keeps : Invariant t' p pfd w'
  rewired_keeps = record {
    sound = I.sound;
    pfd_bounded = I.pfd_bounded;
    keeps = I.keeps;
    ripe_lawful = I.ripe_lawful;
    unripe_lawful = I.unripe_lawful;
    cheap = I.cheap;
    last_is = own_within;
    coming_lawful = coming';
    links = links';
    told = told';
    alone = alone';
  }

  -- ---- the order of sessions

  -- a port that is up is in the last session of its end
  up_last' : (e : LinkEnd) → is_up_at (machine_of (router_at w e) p) e.port ≡ true → w'.last e ≤ session_of w e
  up_last' e u = by_new (is_new_link t t' e) refl
    where
      by_new : (b : Bool) → is_new_link t t' e ≡ b → (if b then max (session_of w e) (session_of w (t'.far e)) else w.last e) ≤ session_of w e
      by_new false is = O.up_last e u
      by_new true is = absurd (both_ways (is_port_in p (router_at w e) e.port (session_of w e)) (out e (session_of w e) is)
          (and_from (is_up_at (machine_of (router_at w e) p) e.port) (session_of w e == session_of w e) u (eq-eqb (session_of w e) (session_of w e) refl)))

  heard_less : (e : LinkEnd) → w'.heard e ≤ w.heard e
  heard_less e = go (link_stays t t' e)
    where
      go : (b : Bool) → (if b then w.heard e else 0) ≤ w.heard e
      go true = omega arith
      go false = omega arith

  -- what comes to the far end of a link is past a session, where it was before if the link was there
  coming_then : (e : LinkEnd) (k : ℕ) → t'.valid e ≡ true → (link_stays t t' e ≡ true → t.valid e ≡ true → CarriedPast k (w.coming (t.far e))) → CarriedPast k (w'.coming (t'.far e))
  coming_then e k v past = elim (cases_Bool (link_stays t t' e)) [
    | inl on ↦ subst (CarriedPast k) (sym ((same_at (t'.far e) (stays_far e on)).coming ∙ ap w.coming (stays_at e on).far_is)) (past on (stays_at e on).was)
    | inr off ↦ subst (CarriedPast k) (sym (none_comes (t'.far e) (new_far e v off))) tt
  ]

  heard_then : (e : LinkEnd) (k : ℕ) → t'.valid e ≡ true → (link_stays t t' e ≡ true → t.valid e ≡ true → w.heard (t.far e) ≤ k) → w'.heard (t'.far e) ≤ k
  heard_then e k v past = elim (cases_Bool (link_stays t t' e)) [
    | inl on ↦
        let s : w'.heard (t'.far e) ≡ w.heard (t.far e) = (same_at (t'.far e) (stays_far e on)).heard ∙ ap w.heard (stays_at e on).far_is in
        let le = past on (stays_at e on).was in
        omega (arith, s, le)
    | inr off ↦ (let z = none_heard (t'.far e) (new_far e v off) in omega (arith, z))
  ]

  -- other neighbours keep the order
  pub rewired_orderly : Orderly t' p w'
  rewired_orderly = record {
    up_last = up_last';
    held_past = O.held_past;
    coming_past = λ e v. coming_then e (w'.last e) v (λ on was. carried_later (w.last e) (w'.last e) (w.coming (t.far e)) (let s = (same_at e on).last in omega (arith, s)) (O.coming_past e was));
    heard_past = λ e v. heard_then e (w'.last e) v (λ on was. (let h = O.heard_past e was in let s = (same_at e on).last in omega (arith, h, s)));
    heard_here = λ e. (let l = heard_less e in let h = O.heard_here e in omega (arith, l, h));
    row_past = O.row_past;
    row_held = O.row_held;
    row_coming = λ e v k h. coming_then e k v (λ on was. O.row_coming e was k h);
    row_heard = λ e v k h. heard_then e k v (λ on was. O.row_heard e was k h);
  }

-- nothing is on its way where no link is
pub rewired_placed : (t t' : Topology) (w : Processes) → Placed t' (rewired t t' w)
rewired_placed t t' w e out = ap (λ b. if b then w.coming e else []) (gone (t.valid e) (t'.valid e) (is_same_end (t.far e) (t'.far e)) out)
  where
    gone : (a b c : Bool) → b ≡ false → (a && (b && c)) ≡ false
    gone true b c h = ap (λ x. x && c) h
    gone false b c h = refl
