-- A router that releases a message keeps the invariant.
use Rattle.std.proofs.Common.{refl, sym, ap, subst, ◌∙◌, arith, append_assoc, inl, inr, ◌≡◌, ◌≢◌, ℕ, ◌+◌, ◌≤◌, Bool, true, false, ◌==◌, if◌then◌else◌, List, [], ◌∷◌, ◌++◌, Some, append-nil, length-drop, eq-eqb, ne_eqb}
use Rattle.no_packet_loops.proofs.Common.{and_from, and_right, is_next_hop, Prefix, prefix_eq, Held, Router, machine_of, session_at, router_releasing, ripe_front, next_hop_at, kept, is_kept, held_as, ripe_of, unripe_of, IsSound, Topology, LinkEnd, at_port, place_cases, count-append, EndInvariant, live-append, IsLawfullyHeld, lawfully_held_append, end_cong, end_invariant_same}
use Rattle.network_model.proofs.Common.{cases_eq, cases_Bool, both_ways, and_left, Kind, Reply, Report, SeenHeld}
use Rattle.loop_freedom.specs.Facts.{End, live, count, pipe}
use Rattle.no_packet_loops.proofs.Releasing.{Front, front_of, ripe_front_is, unripe_left}
use Rattle.daemon_laws.specs.Processes.{Carried, Processes}
use Rattle.daemon_laws.proofs.{Cases.each_but, Routers.RouterKept, Cheap.IsCheap, Told.Told, Gone.Gone, Gone.gone_less}
use Rattle.daemon_laws.proofs.Seen.{carried, carried-append, arriving_in, messages_arriving, is_port_in}
use Rattle.daemon_laws.proofs.Invariant.{Whole, router_at, session_of, end_from, MayBe, Left, Invariant}

-- ---- the router

-- a router that releases keeps what a router keeps
released_kept : (p : Prefix) (r : Router) → RouterKept p r → RouterKept p (router_releasing r)
released_kept p r R = record {
  ripe_within = (let le = R.ripe_within in omega (arith, le, length-drop 1 (r.gate).held));
  sorted = R.sorted;
  published_sorted = R.published_sorted;
  control_is = R.control_is;
  published_heard = R.published_heard;
  faces_are = R.faces_are;
}

-- the rest of what is lawfully held is
rest_lawful : (k : ℕ) (x : SeenHeld) (xs : List SeenHeld) → IsLawfullyHeld k (x ∷ xs) → IsLawfullyHeld k xs
rest_lawful k x xs h = h.2

-- ---- the message

-- a message that is released, as it is on its way
abbrev pub as_carried : Held → Carried
as_carried h = record { session = h.session; message = h.message }

-- router i releases message h, which is on its way then, or is lost, since its port is not in the message's session
pub data Sent (t : Topology) (p : Prefix) (i : ℕ) (h : Held) (w w' : Processes) : Type 0 where
  OnItsWay : t.valid (at_port i h.port) ≡ true → w'.coming (t.far (at_port i h.port)) ≡ w.coming (t.far (at_port i h.port)) ++ as_carried h ∷ []
      → ((e : LinkEnd) → (e ≡ t.far (at_port i h.port) → ⊥) → w'.coming e ≡ w.coming e) → Sent t p i h w w'
  Lost : (t.valid (at_port i h.port) ≡ true → is_port_in p (w.routers i) h.port h.session ≡ false) → ((e : LinkEnd) → w'.coming e ≡ w.coming e) → Sent t p i h w w'

-- router i releases a message; nothing else changes but what is on its way
pub record ReleasesAt (t : Topology) (p : Prefix) (w w' : Processes) : Type 0 where
  pub i : ℕ
  pub h : Held
  pub front : ripe_front (w.routers i) ≡ Some h
  pub router_is : w'.routers i ≡ router_releasing (w.routers i)
  pub routers_elsewhere : (j : ℕ) → j ≢ i → w'.routers j ≡ w.routers j
  pub last_same : (e : LinkEnd) → w'.last e ≡ w.last e
  pub lost_same : w'.lost ≡ w.lost
  pub sent : Sent t p i h w w'

module _ (t : Topology) (p : Prefix) (pfd : ℕ → ℕ) (w w' : Processes) (I : Invariant t p pfd w) (L : ReleasesAt t p w w') where
  -- the router that releases
  abbrev r : Router
  r = w.routers L.i

  -- the end from which the message goes
  abbrev a : LinkEnd
  a = at_port L.i (L.h).port

  -- the message is the oldest, and ripe
  F : Front r L.h
  F = front_of r L.h L.front

  -- each router is as it was, or released a message
  each_router : (Q : Router → Type 0) → Q (router_releasing r) → ((j : ℕ) → Q (w.routers j)) → (j : ℕ) → Q (w'.routers j)
  each_router Q here = each_but L.routers_elsewhere (λ j. Q) (subst Q (sym L.router_is) here)

  -- what a release leaves of the router at an end
  record SameAt (e : LinkEnd) : Type 0 where
    machine_is : machine_of (router_at w' e) p ≡ machine_of (router_at w e) p
    session_is : session_of w' e ≡ session_of w e
    hop_is : next_hop_at p (router_at w' e) ≡ next_hop_at p (router_at w e)
    in_is : (n : ℕ) → is_port_in p (router_at w' e) e.port n ≡ is_port_in p (router_at w e) e.port n
    unripe_is : kept p e.port (unripe_of (router_at w' e)) ≡ kept p e.port (unripe_of (router_at w e))

  same_at : (e : LinkEnd) → SameAt e
  same_at e = elim (cases_eq e.router L.i) [
    | inl g ↦
        let is : router_at w' e ≡ router_releasing r = ap w'.routers g ∙ L.router_is in
        let was : r ≡ router_at w e = sym (ap w.routers g) in
        record {
          machine_is = ap (λ (x : Router). machine_of x p) is ∙ ap (λ (x : Router). machine_of x p) was;
          session_is = ap (λ (x : Router). session_at x.ports e.port) is ∙ ap (λ (x : Router). session_at x.ports e.port) was;
          hop_is = ap (next_hop_at p) is ∙ ap (next_hop_at p) was;
          in_is = λ n. ap (λ (x : Router). is_port_in p x e.port n) is ∙ ap (λ (x : Router). is_port_in p x e.port n) was;
          unripe_is = ap (λ (x : Router). kept p e.port (unripe_of x)) is ∙ ap (kept p e.port) (unripe_left r L.h F) ∙ ap (λ (x : Router). kept p e.port (unripe_of x)) was;
        }
    | inr d ↦
        let same : router_at w' e ≡ router_at w e = L.routers_elsewhere e.router d in
        record {
          machine_is = ap (λ (x : Router). machine_of x p) same;
          session_is = ap (λ (x : Router). session_at x.ports e.port) same;
          hop_is = ap (next_hop_at p) same;
          in_is = λ n. ap (λ (x : Router). is_port_in p x e.port n) same;
          unripe_is = ap (λ (x : Router). kept p e.port (unripe_of x)) same;
        }
  ]

  -- a router may be in the sessions that it might be in
  may_before : (n : ℕ) (e : LinkEnd) → MayBe p n w' e → MayBe p n w e
  may_before n e (inl on) = inl (sym ((same_at e).in_is n) ∙ on)
  may_before n e (inr lt) = inr (let s = L.last_same e in omega (arith, lt, s))

  -- and has left those that it had left
  left_before : (n : ℕ) (e : LinkEnd) → Left p n w' e → Left p n w e
  left_before n e l = record { off = sym ((same_at e).in_is n) ∙ l.off; past = (let s = L.last_same e in let k = l.past in omega (arith, k, s)) }

  -- ---- what is on its way from an end

  -- what is on its way from e in session n, of all that was released or may be
  abbrev out_of : ℕ → Processes → LinkEnd → List Report
  out_of n v e = live n (carried p (v.coming (t.far e))) ++ live n (kept p e.port (ripe_of (router_at v e)))

  -- it stays, or the router has left the session, and one message of it is lost
  data Out (n : ℕ) (e : LinkEnd) : Type 0 where
    Same : out_of n w' e ≡ out_of n w e → Out n e
    Less : Left p n w e → ((k : Kind) → count k (out_of n w' e) ≤ count k (out_of n w e)) → Out n e

  -- what may be released at a port for which the message is not kept, or of which it is not
  ripe_beside : (q : ℕ) → is_kept p q L.h ≡ false → kept p q (ripe_of (router_releasing r)) ≡ kept p q (ripe_of r)
  ripe_beside q off = sym (ap (kept p q) (ripe_front_is r L.h F) ∙ ap (λ b. if b then held_as L.h ∷ kept p q (ripe_of (router_releasing r)) else kept p q (ripe_of (router_releasing r))) off)

  -- and at its port, of which it is the first
  ripe_here : (q : ℕ) → is_kept p q L.h ≡ true → kept p q (ripe_of r) ≡ held_as L.h ∷ kept p q (ripe_of (router_releasing r))
  ripe_here q on = ap (kept p q) (ripe_front_is r L.h F) ∙ ap (λ b. if b then held_as L.h ∷ kept p q (ripe_of (router_releasing r)) else kept p q (ripe_of (router_releasing r))) on

  -- the router is then the router that released
  now_at : (e : LinkEnd) → e.router ≡ L.i → router_at w' e ≡ router_releasing r
  now_at e g = ap w'.routers g ∙ L.router_is

  -- what comes to the far end of another link is as before
  coming_beside : (e : LinkEnd) → t.valid e ≡ true → (e ≡ a → ⊥) → w'.coming (t.far e) ≡ w.coming (t.far e)
  coming_beside e v d = by_sent L.sent
    where
      by_sent : Sent t p L.i L.h w w' → w'.coming (t.far e) ≡ w.coming (t.far e)
      by_sent (OnItsWay va at elsewhere) = elsewhere (t.far e) (λ x. d (sym (t.far_far e v) ∙ ap t.far x ∙ t.far_far a va))
      by_sent (Lost off same) = same (t.far e)

  -- at another end, all that is on its way stays
  out_beside : (n : ℕ) (e : LinkEnd) → t.valid e ≡ true → (e ≡ a → ⊥) → Out n e
  out_beside n e v d =
      let ripe : kept p e.port (ripe_of (router_at w' e)) ≡ kept p e.port (ripe_of (router_at w e)) = elim (cases_eq e.router L.i) [
        | inl g ↦
            let off : is_kept p e.port L.h ≡ false = and_left ((L.h).port == e.port) (prefix_eq p ((L.h).message).prefix) (ne_eqb (L.h).port e.port
            (λ f. d (ap (λ (k : ℕ). at_port k e.port) g ∙ ap (λ (k : ℕ). at_port L.i k) (sym f)))) in
            ap (λ (x : Router). kept p e.port (ripe_of x)) (now_at e g) ∙ ripe_beside e.port off ∙ ap (λ (x : Router). kept p e.port (ripe_of x)) (sym (ap w.routers g))
        | inr f ↦ ap (λ (x : Router). kept p e.port (ripe_of x)) (L.routers_elsewhere e.router f)
      ] in
      Same (λ z. live n (carried p (coming_beside e v d z)) ++ live n (ripe z))

  -- a message of another prefix leaves all of this one on its way
  out_other : (n : ℕ) → prefix_eq p ((L.h).message).prefix ≡ false → out_of n w' a ≡ out_of n w a
  out_other n apart =
      let ripe : kept p (L.h).port (ripe_of (router_at w' a)) ≡ kept p (L.h).port (ripe_of r) =
      ap (λ (x : Router). kept p (L.h).port (ripe_of x)) L.router_is ∙ ripe_beside (L.h).port (and_right ((L.h).port == (L.h).port) (prefix_eq p ((L.h).message).prefix) apart) in
      let comes : carried p (w'.coming (t.far a)) ≡ carried p (w.coming (t.far a)) = by_sent L.sent in
      (λ z. live n (comes z) ++ live n (ripe z))
    where
      by_sent : Sent t p L.i L.h w w' → carried p (w'.coming (t.far a)) ≡ carried p (w.coming (t.far a))
      by_sent (OnItsWay va at elsewhere) =
          ap (carried p) at ∙ carried-append p (w.coming (t.far a)) (as_carried L.h ∷ [])
          ∙ ap (λ xs. carried p (w.coming (t.far a)) ++ xs) (ap (λ b. if b then held_as L.h ∷ [] else []) apart)
          ∙ append-nil (carried p (w.coming (t.far a)))
      by_sent (Lost off same) = ap (carried p) (same (t.far a))

  module _ (same : prefix_eq p ((L.h).message).prefix ≡ true) (v : t.valid a ≡ true) (n : ℕ) where
    -- what may be released before
    abbrev old_ripe : List SeenHeld
    old_ripe = kept p (L.h).port (ripe_of r)

    -- what may be released after
    abbrev new_ripe : List SeenHeld
    new_ripe = kept p (L.h).port (ripe_of (router_releasing r))

    -- the message is the first of those that might be released
    first : old_ripe ≡ held_as L.h ∷ new_ripe
    first = ripe_here (L.h).port (and_from ((L.h).port == (L.h).port) (prefix_eq p ((L.h).message).prefix) (eq-eqb (L.h).port (L.h).port refl) same)

    -- after the step
    ripe_now : kept p (L.h).port (ripe_of (router_at w' a)) ≡ new_ripe
    ripe_now = ap (λ (x : Router). kept p (L.h).port (ripe_of x)) L.router_is

    -- the message is of a session in which its router was
    lawful_first : IsLawfullyHeld (session_at r.ports (L.h).port) (held_as L.h ∷ new_ripe)
    lawful_first = subst (λ hs. IsLawfullyHeld (session_at r.ports (L.h).port) hs) first (I.ripe_lawful L.i (L.h).port)

    -- what came to the other end
    abbrev old : List SeenHeld
    old = carried p (w.coming (t.far a))

    -- what comes is as before, or has the message at the back
    out_here : Out n a
    out_here = by_sent L.sent
      where
        in_front : live n (held_as L.h ∷ []) ++ live n new_ripe ≡ live n (held_as L.h ∷ new_ripe)
        in_front = sym (live-append n (held_as L.h ∷ []) new_ripe)

        by_sent : Sent t p L.i L.h w w' → Out n a
        by_sent (OnItsWay va at elsewhere) =
            let comes : carried p (w'.coming (t.far a)) ≡ old ++ held_as L.h ∷ [] =
            ap (carried p) at ∙ carried-append p (w.coming (t.far a)) (as_carried L.h ∷ []) ∙ ap (λ xs. carried p (w.coming (t.far a)) ++ xs) (ap (λ b. if b then held_as L.h ∷ [] else []) same) in
            Same (
            (λ z. live n (comes z) ++ live n (ripe_now z))
            ∙ ap (λ ms. ms ++ live n new_ripe) (live-append n old (held_as L.h ∷ []))
            ∙ append_assoc (live n old) (live n (held_as L.h ∷ [])) (live n new_ripe)
            ∙ ap (λ ms. live n old ++ ms) (in_front ∙ ap (live n) (sym first)))
        by_sent (Lost off still) =
            let comes : carried p (w'.coming (t.far a)) ≡ old = ap (carried p) (still (t.far a)) in
            elim (cases_eq (L.h).session n) [
              | inl e ↦
                  Less (record { off = subst (λ (k : ℕ). is_port_in p r (L.h).port k ≡ false) e (off v); past = (let le = lawful_first.0 in let li = I.last_is a in omega (arith, le, li, e)) })
                  (λ k. let c1 = count-append k (live n old) (live n new_ripe) in
                  let c2 = count-append k (live n old) (live n old_ripe) in
                  let c3 : count k (live n old_ripe) ≡ count k (live n (held_as L.h ∷ [])) + count k (live n new_ripe) =
                  ap (λ hs. count k (live n hs)) first ∙ ap (count k) (sym in_front) ∙ count-append k (live n (held_as L.h ∷ [])) (live n new_ripe) in
                  let c4 : count k (out_of n w' a) ≡ count k (live n old ++ live n new_ripe) = (λ z. count k (live n (comes z) ++ live n (ripe_now z))) in
                  omega (arith, c1, c2, c3, c4))
              | inr d ↦ Same ((λ z. live n (comes z) ++ live n (ripe_now z))
                  ∙ ap (λ ms. live n old ++ ms) (sym (ap (live n) first ∙ ap (λ b. if b then (held_as L.h).message ∷ live n new_ripe else live n new_ripe) (ne_eqb (L.h).session n d))))
            ]

  -- what is on its way from an end that is there
  out : (n : ℕ) (e : LinkEnd) → t.valid e ≡ true → Out n e
  out n e v = elim (place_cases e a) [
    | inl at ↦ subst (λ (f : LinkEnd). t.valid f ≡ true → Out n f) (sym at) (λ va. elim (cases_Bool (prefix_eq p ((L.h).message).prefix)) [
      | inl same ↦ out_here same va n
      | inr apart ↦ Same (out_other n apart)
    ]) v
    | inr d ↦ out_beside n e v d
  ]

  -- an end from which all that is on its way stays is as before
  end_same : (n : ℕ) (e : LinkEnd) → out_of n w' e ≡ out_of n w e → end_from t p n pfd w' e ≡ end_from t p n pfd w e
  end_same n e same =
      let S = same_at e in
      end_cong e.port (arriving_in n (carried p (w.coming (t.far e)))) (arriving_in n (carried p (w'.coming (t.far e)))) (kept p e.port (ripe_of (router_at w e))) (kept p e.port (ripe_of (router_at w' e))) (kept p e.port (unripe_of (router_at w e))) (kept p e.port (unripe_of (router_at w' e)))
      S.machine_is S.session_is refl S.hop_is refl
      ((λ z. messages_arriving n (carried p (w'.coming (t.far e))) z ++ live n (kept p e.port (ripe_of (router_at w' e)))) ∙ same ∙ (λ z. sym (messages_arriving n (carried p (w.coming (t.far e)))) z ++ live n (kept p e.port (ripe_of (router_at w e)))))
      (ap (live n) S.unripe_is)

  -- so is one whose router may be in the session
  end_may : (n : ℕ) (e : LinkEnd) → t.valid e ≡ true → MayBe p n w e → end_from t p n pfd w' e ≡ end_from t p n pfd w e
  end_may n e v may = by_out (out n e v)
    where
      not_both : MayBe p n w e → Left p n w e → ⊥
      not_both (inl on) l = both_ways (is_port_in p (router_at w e) e.port n) l.off on
      not_both (inr lt) l = (let k = l.past in omega (arith, lt, k))

      by_out : Out n e → end_from t p n pfd w' e ≡ end_from t p n pfd w e
      by_out (Same same) = end_same n e same
      by_out (Less l less) = absurd (not_both may l)

  -- in a session that neither router has left
  links' : (e : LinkEnd) → t.valid e ≡ true → (n : ℕ) → MayBe p n w' e → MayBe p n w' (t.far e) → EndInvariant (end_from t p n pfd w' e) (end_from t p n pfd w' (t.far e))
  links' e v n one two =
      let f = t.far e in
      let may_e = may_before n e one in
      let may_f = may_before n f two in
      end_invariant_same (end_may n e v may_e) (end_may n f (t.far_valid e v) may_f) (I.links e v n may_e may_f)

  told' : (e : LinkEnd) → t.valid e ≡ true → (n : ℕ) → Whole t n w'.lost e → MayBe p n w' e → MayBe p n w' (t.far e) → Told (end_from t p n pfd w' e) (end_from t p n pfd w' (t.far e))
  told' e v n whole one two =
      let f = t.far e in
      let may_e = may_before n e one in
      let may_f = may_before n f two in
      subst (λ (x : End). Told x (end_from t p n pfd w' f)) (sym (end_may n e v may_e))
      (subst (λ (y : End). Told (end_from t p n pfd w e) y) (sym (end_may n f (t.far_valid e v) may_f)) (I.told e v n (subst (λ (l : LinkEnd → ℕ → Bool). Whole t n l e) L.lost_same whole) may_e may_f))

  -- in a session that the one has left, and the other has not
  alone' : (e : LinkEnd) → t.valid e ≡ true → (n : ℕ) → Left p n w' e → MayBe p n w' (t.far e) → Gone (end_from t p n pfd w' e) (end_from t p n pfd w' (t.far e))
  alone' e v n left two =
      let f = t.far e in
      let may_f = may_before n f two in
      let G : Gone (end_from t p n pfd w e) (end_from t p n pfd w f) = I.alone e v n (left_before n e left) may_f in
      subst (λ (y : End). Gone (end_from t p n pfd w' e) y) (sym (end_may n f (t.far_valid e v) may_f)) (by_out G (out n e v))
    where
      S : SameAt e
      S = same_at e

      by_out : Gone (end_from t p n pfd w e) (end_from t p n pfd w (t.far e)) → Out n e → Gone (end_from t p n pfd w' e) (end_from t p n pfd w (t.far e))
      by_out G (Same same) = subst (λ (x : End). Gone x (end_from t p n pfd w (t.far e))) (sym (end_same n e same)) G
      by_out G (Less l less) =
          let x = end_from t p n pfd w e in
          let x' = end_from t p n pfd w' e in
          let less_out : (k : Kind) → count k x'.out ≤ count k x.out = λ k.
          let o : count k x.out ≡ count k (out_of n w e) = ap (λ ms. count k (ms ++ live n (kept p e.port (ripe_of (router_at w e))))) (messages_arriving n (carried p (w.coming (t.far e)))) in
          let o' : count k x'.out ≡ count k (out_of n w' e) = ap (λ ms. count k (ms ++ live n (kept p e.port (ripe_of (router_at w' e))))) (messages_arriving n (carried p (w'.coming (t.far e)))) in
          let l = less k in
          omega (arith, o, o', l) in
          let less_all : (k : Kind) → count k (pipe x') ≤ count k (pipe x) = λ k.
          let h : count k x'.kept ≡ count k x.kept = ap (λ hs. count k (live n hs)) S.unripe_is in
          let c = count-append k x.out x.kept in
          let c' = count-append k x'.out x'.kept in
          let l = less_out k in
          omega (arith, l, h, c, c') in
          gone_less x x' (end_from t p n pfd w (t.far e)) (ap (λ h. is_next_hop e.port n h) S.hop_is) refl less_all (less_out Reply) G

  coming' : (e : LinkEnd) → IsLawfullyHeld (w'.last (t.far e)) (carried p (w'.coming e))
  coming' e = subst (λ (s : ℕ). IsLawfullyHeld s (carried p (w'.coming e))) (sym (L.last_same (t.far e))) (by_sent L.sent)
    where
      one : w.last (t.far (t.far a)) ≡ w.last a → IsLawfullyHeld (w.last (t.far (t.far a))) (carried p (as_carried L.h ∷ []))
      one at = by_prefix (prefix_eq p ((L.h).message).prefix) refl
        where
          by_prefix : (b : Bool) → prefix_eq p ((L.h).message).prefix ≡ b → IsLawfullyHeld (w.last (t.far (t.far a))) (if b then held_as L.h ∷ [] else [])
          by_prefix false is = tt
          by_prefix true is =
              let h : IsLawfullyHeld (session_at r.ports (L.h).port) (held_as L.h ∷ kept p (L.h).port (ripe_of (router_releasing r))) =
              subst (λ hs. IsLawfullyHeld (session_at r.ports (L.h).port) hs)
              (ripe_here (L.h).port (and_from ((L.h).port == (L.h).port) (prefix_eq p ((L.h).message).prefix) (eq-eqb (L.h).port (L.h).port refl) is)) (I.ripe_lawful L.i (L.h).port) in
              (let le = h.0 in let li = I.last_is a in omega (arith, le, li, at), h.1, tt)

      by_sent : Sent t p L.i L.h w w' → IsLawfullyHeld (w.last (t.far e)) (carried p (w'.coming e))
      by_sent (Lost off same) = subst (λ cs. IsLawfullyHeld (w.last (t.far e)) (carried p cs)) (sym (same e)) (I.coming_lawful e)
      by_sent (OnItsWay va at elsewhere) = elim (place_cases e (t.far a)) [
        | inr d ↦ subst (λ cs. IsLawfullyHeld (w.last (t.far e)) (carried p cs)) (sym (elsewhere e d)) (I.coming_lawful e)
        | inl is ↦ subst (λ (f : LinkEnd). IsLawfullyHeld (w.last (t.far f)) (carried p (w'.coming f))) (sym is)
            (subst (λ hs. IsLawfullyHeld (w.last (t.far (t.far a))) hs) (sym (ap (carried p) at ∙ carried-append p (w.coming (t.far a)) (as_carried L.h ∷ [])))
            (lawfully_held_append (w.last (t.far (t.far a))) (carried p (w.coming (t.far a))) (carried p (as_carried L.h ∷ [])) (I.coming_lawful (t.far a)) (one (ap w.last (t.far_far a va)))))
      ]

  -- what the router may still release is lawfully held
  ripe_left : (q : ℕ) → IsLawfullyHeld (session_at r.ports q) (kept p q (ripe_of (router_releasing r)))
  ripe_left q = elim (cases_Bool (is_kept p q L.h)) [
    | inl on ↦ rest_lawful (session_at r.ports q) (held_as L.h) (kept p q (ripe_of (router_releasing r))) (subst (λ hs. IsLawfullyHeld (session_at r.ports q) hs) (ripe_here q on) (I.ripe_lawful L.i q))
    | inr off ↦ subst (λ hs. IsLawfullyHeld (session_at r.ports q) hs) (sym (ripe_beside q off)) (I.ripe_lawful L.i q)
  ]

  pub release_keeps : Invariant t p pfd w'
  release_keeps = record {
    sound = each_router (λ x. IsSound (machine_of x p)) (I.sound L.i) I.sound;
    pfd_bounded = I.pfd_bounded;
    keeps = each_router (λ x. RouterKept p x) (released_kept p r (I.keeps L.i)) I.keeps;
    ripe_lawful = λ j q. each_router (λ x. IsLawfullyHeld (session_at x.ports q) (kept p q (ripe_of x))) (ripe_left q) (λ k. I.ripe_lawful k q) j;
    unripe_lawful = λ j q. each_router (λ x. IsLawfullyHeld (session_at x.ports q) (kept p q (unripe_of x)))
        (subst (λ hs. IsLawfullyHeld (session_at r.ports q) hs) (sym (ap (kept p q) (unripe_left r L.h F))) (I.unripe_lawful L.i q)) (λ k. I.unripe_lawful k q) j;
    last_is = λ e. (let le = I.last_is e in let s = (same_at e).session_is in let l = L.last_same e in omega (arith, le, s, l));
    coming_lawful = coming';
    cheap = each_router (λ x. IsCheap (machine_of x p)) (I.cheap L.i) I.cheap;
    links = links';
    told = told';
    alone = alone';
  }
