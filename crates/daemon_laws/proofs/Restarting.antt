-- A process that ends, and one that begins in its place, keep the invariant.
use Rattle.std.proofs.Common.{refl, sym, ap, subst, ◌∙◌, arith, inl, inr, ◌≡◌, ◌≢◌, ◌⊎◌, ℕ, min, ◌<◌, ◌≤◌, true, false, List, [], ◌∷◌, ◌++◌, take, drop, append-nil, ◌==◌}
use Rattle.no_packet_loops.proofs.Common.{Prefix, Router, machine_of, session_at, is_port, is_next_hop, kept, ripe_of, unripe_of, IsSound, is_up_at, Topology, LinkEnd, at_port, take-nil, drop-nil, awaits, owes_port, at_least_left, count-append, one_if_at_most_one, Answered, EndInvariant, IsLawfullyHeld, lawfully_held_later, nothing_held_later, end_invariant_new, end_invariant_same}
use Rattle.network_model.proofs.Common.{cases_eq, cases_lt, cases_Bool, both_ways, false_from_ne_true, and_left, Kind, Query, Reply, Report, infinity, one_if}
use Rattle.loop_freedom.specs.Facts.{End, pipe, count, messages, live, AtLeast}
use Rattle.daemon_laws.specs.Processes.{Processes}
use Rattle.daemon_laws.proofs.{Cases.each_but, Routers.RouterKept, Moving.not_yet, Cheap.IsCheap, Told.Told, Told.listens, Told.last_value, Gone.Gone, Beginning.Made, Orderly.Orderly}
use Rattle.daemon_laws.proofs.Seen.{carried, arriving_in, end_in, is_port_in}
use Rattle.daemon_laws.specs.Happenings.{latest, latest_coming, last_anew, lost_anew}
use Rattle.daemon_laws.proofs.Anew.{none_of, lawful_least, anew_least, anew_own, Nothing, nothing_left, lost_still, nothing_back}
use Rattle.daemon_laws.proofs.Invariant.{Whole, Placed, router_at, session_of, end_from, MayBe, Left, Invariant, links_far, gone_before}

-- ---- two ends

-- an end whose router has just been made: it is in no session, holds nothing, and is passive
pub record Fresh (x : End) : Type 0 where
  pub off : x.current ≡ false
  pub chosen : x.chosen ≡ false
  pub shown : x.shown ≡ false
  pub awaits : x.awaits ≡ false
  pub owes : x.owes ≡ false
  pub passive : x.active ≡ false
  pub low : x.fd ≤ infinity
  pub pfd_low : x.pfd ≤ infinity

-- an end that is in no session, awaits nothing and owes nothing
pub record Absent (x : End) : Type 0 where
  pub off : x.current ≡ false
  pub awaits : x.awaits ≡ false
  pub owes : x.owes ≡ false

-- where an end is absent, in a session that it has not been in, its router may be made anew
anew_here : (x x' y : End) → Absent x → Fresh x' → pipe x' ≡ [] → EndInvariant x y → EndInvariant x' y
anew_here x x' y A F empty h =
    let none : pipe x ≡ [] = h.nothing_sent A.off in
    let q : count Query (pipe x) ≡ 0 = ap (count Query) none in
    let q' : count Query (pipe x') ≡ 0 = ap (count Query) empty in
    let a : one_if x.awaits ≡ 0 = ap one_if A.awaits in
    let a' : one_if x'.awaits ≡ 0 = ap one_if F.awaits in
    record {
      nothing_sent = λ e. empty;
      unheard = λ e f. h.unheard A.off f;
      chosen_current = λ e. absurd (both_ways x'.chosen F.chosen e);
      shown_current = λ e. absurd (both_ways x'.shown F.shown e);
      pfd_bounded = F.pfd_low;
      feasible_below_sent = subst (AtLeast x'.fd) (sym empty) tt;
      feasible_below_kept = λ f. (let u = h.unheard A.off f in let l = F.low in omega (arith, u, l));
      published_below_sent = at_least_left x'.pfd x'.out x'.kept (subst (AtLeast x'.pfd) (sym empty) tt);
      published_below_kept = λ f. (let u = h.unheard A.off f in let l = F.pfd_low in omega (arith, u, l));
      control_edge_falls = λ e. absurd (both_ways x'.chosen F.chosen e);
      published_edge_falls = λ e. absurd (both_ways x'.shown F.shown e);
      awaited_once = (let t = h.awaited_once in omega (arith, t, q, q', a, a'));
      computation_below_sent = h.computation_below_sent;
      computation_below_kept = λ c e. absurd (both_ways x'.current F.off e);
      control_edge_waits = λ c e. absurd (both_ways x'.chosen F.chosen e);
      published_edge_waits = λ c e. absurd (both_ways x'.shown F.shown e);
    }

-- seen from the end across
anew_there : (x x' y : End) → Absent x → Fresh x' → pipe x' ≡ [] → EndInvariant x y → EndInvariant y x → EndInvariant y x'
anew_there x x' y A F empty h g =
    let none : pipe x ≡ [] = h.nothing_sent A.off in
    let r : count Reply (pipe x) ≡ 0 = ap (count Reply) none in
    let r' : count Reply (pipe x') ≡ 0 = ap (count Reply) empty in
    let o : one_if x.owes ≡ 0 = ap one_if A.owes in
    let o' : one_if x'.owes ≡ 0 = ap one_if F.owes in
    record {
      nothing_sent = g.nothing_sent;
      unheard = λ e f. absurd (both_ways x'.current F.off f);
      chosen_current = λ e. absurd (both_ways x.current A.off (g.chosen_current e));
      shown_current = λ e. absurd (both_ways x.current A.off (g.shown_current e).1);
      pfd_bounded = g.pfd_bounded;
      feasible_below_sent = g.feasible_below_sent;
      feasible_below_kept = λ f. absurd (both_ways x'.current F.off f);
      published_below_sent = g.published_below_sent;
      published_below_kept = λ f. absurd (both_ways x'.current F.off f);
      control_edge_falls = λ e. absurd (both_ways x.current A.off (g.chosen_current e));
      published_edge_falls = λ e. absurd (both_ways x.current A.off (g.shown_current e).1);
      awaited_once = (let t = g.awaited_once in omega (arith, t, r, r', o, o'));
      computation_below_sent = λ c. absurd (both_ways x'.active F.passive c);
      computation_below_kept = λ c. absurd (both_ways x'.active F.passive c);
      control_edge_waits = λ c. absurd (both_ways x'.active F.passive c);
      published_edge_waits = λ c. absurd (both_ways x'.active F.passive c);
    }

-- where an end has left a session, and its router is made anew
gone_anew : (x x' y : End) → Fresh x' → ((k : Kind) → count k (pipe x') ≤ count k (pipe x)) → Gone x y → Gone x' y
gone_anew x x' y F less G = record {
  shown_current = λ e. absurd (both_ways x'.shown F.shown e);
  published_edge_falls = λ e. absurd (both_ways x'.shown F.shown e);
  replies_awaited = (let a = G.replies_awaited in let l = less Reply in omega (arith, a, l));
  queries_once = (let a = G.queries_once in let l = less Query in omega (arith, a, l));
  published_edge_waits = λ c e. absurd (both_ways x'.shown F.shown e);
}

-- where an end has left a session, and the router across, which has not been in it, is made anew
gone_to_anew : (x y y' : End) → Absent y → Fresh y' → Gone x y → Gone x y'
gone_to_anew x y y' A F G = record {
  shown_current = λ e. absurd (both_ways y.current A.off (G.shown_current e));
  published_edge_falls = λ e. absurd (both_ways y.current A.off (G.shown_current e));
  replies_awaited = (let a = G.replies_awaited in let z : one_if y.awaits ≡ 0 = ap one_if A.awaits in omega (arith, a, z));
  queries_once = (let a = G.queries_once in let z : one_if y'.owes ≡ 0 = ap one_if F.owes in omega (arith, a, z));
  published_edge_waits = λ c. absurd (both_ways y'.active F.passive c);
}

-- an end of a session of which nothing is left: it is in no session, shows nothing of it, and nothing of it is on its way
pub record Blank (x : End) : Type 0 where
  pub off : x.current ≡ false
  pub chosen : x.chosen ≡ false
  pub shown : x.shown ≡ false
  pub awaits : x.awaits ≡ false
  pub owes : x.owes ≡ false
  pub empty : pipe x ≡ []
  pub pfd_low : x.pfd ≤ infinity

-- between two such ends all holds
pub blank_links : {x y : End} → Blank x → Blank y → EndInvariant x y
blank_links {x} {y} X Y = end_invariant_new x y X.off X.empty Y.empty Y.off X.chosen X.shown X.awaits Y.owes X.pfd_low

pub blank_gone : {x y : End} → Blank x → Blank y → Gone x y
blank_gone {x} {y} X Y = record {
  shown_current = λ s. absurd (both_ways x.shown X.shown s);
  published_edge_falls = λ s. absurd (both_ways x.shown X.shown s);
  replies_awaited = (let none = ap (count Reply) X.empty in omega (arith, none));
  queries_once = (let none = ap (count Query) X.empty in let l = one_if_at_most_one y.owes in omega (arith, none, l));
  published_edge_waits = λ a s. absurd (both_ways x.shown X.shown s);
}

pub blank_told : {x y : End} → Blank x → Blank y → Told x y
blank_told {x} {y} X Y = record { last_is = λ on. absurd (both_ways y.current Y.off on); answers = record { answered = (let a : one_if x.awaits ≡ 0 = ap one_if X.awaits in omega (arith, a)) } }

-- an end that is in no session listens to nothing
listens_none : (x : End) → x.current ≡ false → listens x ≡ infinity
listens_none x off = rw off refl

-- where two lists in a row are empty, the first is
nil_left : (xs ys : List Report) → xs ++ ys ≡ [] → xs ≡ []
nil_left [] ys e = refl
nil_left (x ∷ xs) ys e = cc

-- ---- the processes

-- router i is made, in place of the one that was there, and its ends may use sessions again of which nothing is left; nothing else changes
pub record RestartsAt (t : Topology) (p : Prefix) (w w' : Processes) (pfd pfd' : ℕ → ℕ) : Type 0 where
  pub i : ℕ
  pub made_here : Made p (w'.routers i)
  pub routers_elsewhere : (j : ℕ) → j ≢ i → w'.routers j ≡ w.routers j
  pub coming_is : (e : LinkEnd) → w'.coming e ≡ w.coming e
  pub last_is : (e : LinkEnd) → w'.last e ≡ last_anew t i w e
  pub lost_is : (e : LinkEnd) (n : ℕ) → w'.lost e n ≡ lost_anew t i w e n
  pub pfd_is : pfd' i ≡ (machine_of (w'.routers i) p).fd
  pub pfd_elsewhere : (j : ℕ) → j ≢ i → pfd' j ≡ pfd j

module _ (t : Topology) (p : Prefix) (pfd pfd' : ℕ → ℕ) (w w' : Processes) (I : Invariant t p pfd w) (O : Orderly t p w) (P : Placed t w) (R : RestartsAt t p w w' pfd pfd') where
  -- what an end shows before
  abbrev old : ℕ → LinkEnd → End
  old n e = end_from t p n pfd w e

  -- what it shows after
  abbrev new : ℕ → LinkEnd → End
  new n e = end_from t p n pfd' w' e

  -- what is known of a router that is made
  made_at : (e : LinkEnd) → e.router ≡ R.i → Made p (router_at w' e)
  made_at e g = subst (λ (k : ℕ). Made p (w'.routers k)) (sym g) R.made_here

  -- what is on its way to the far end of a link stays
  comes : (n : ℕ) (e : LinkEnd) → messages (arriving_in n (carried p (w'.coming (t.far e)))) ≡ messages (arriving_in n (carried p (w.coming (t.far e))))
  comes n e = ap (λ cs. messages (arriving_in n (carried p cs))) (R.coming_is (t.far e))

  -- the router that is made holds nothing
  ripe_none : (e : LinkEnd) → e.router ≡ R.i → kept p e.port (ripe_of (router_at w' e)) ≡ []
  ripe_none e g = ap (λ hs. kept p e.port (take ((router_at w' e).gate).ripe hs)) (made_at e g).holds_none ∙ ap (kept p e.port) (take-nil ((router_at w' e).gate).ripe)

  -- neither back
  unripe_none : (e : LinkEnd) → e.router ≡ R.i → kept p e.port (unripe_of (router_at w' e)) ≡ []
  unripe_none e g = ap (λ hs. kept p e.port (drop ((router_at w' e).gate).ripe hs)) (made_at e g).holds_none ∙ ap (kept p e.port) (drop-nil ((router_at w' e).gate).ripe)

  -- an end of the router that is made is fresh
  fresh : (n : ℕ) (e : LinkEnd) → e.router ≡ R.i → Fresh (new n e)
  fresh n e g =
      let M = made_at e g in
      let m = machine_of (router_at w' e) p in
      let off : is_port_in p (router_at w' e) e.port n ≡ false = and_left (is_up_at m e.port) (session_of w' e == n) (M.none_up e.port) in
      let bound : m.fd ≤ infinity = (let a = (M.sound).fd_below in let b = (M.sound).rd_bounded in omega (arith, a, b)) in
      let pfd_now : pfd' e.router ≡ m.fd = subst (λ (k : ℕ). pfd' k ≡ (machine_of (w'.routers k) p).fd) (sym g) R.pfd_is in
      record {
        off = off;
        chosen = and_left (is_port_in p (router_at w' e) e.port n) (is_port e.port m.successor) off;
        shown = ap (λ o. is_next_hop e.port n o) M.no_hop_is;
        awaits = and_left (is_port_in p (router_at w' e) e.port n) (awaits m e.port) off;
        owes = and_left (is_port_in p (router_at w' e) e.port n) (owes_port m e.port) off;
        passive = M.passive;
        low = bound;
        pfd_low = omega (arith, bound, pfd_now);
      }

  -- what is on its way from it is what came, and no more
  pipe_is : (n : ℕ) (e : LinkEnd) → e.router ≡ R.i → pipe (new n e) ≡ messages (arriving_in n (carried p (w.coming (t.far e))))
  pipe_is n e g =
      (λ z. (comes n e z ++ live n (ripe_none e g z)) ++ live n (unripe_none e g z))
      ∙ append-nil (messages (arriving_in n (carried p (w.coming (t.far e)))) ++ [])
      ∙ append-nil (messages (arriving_in n (carried p (w.coming (t.far e)))))

  -- an end that has not been in the session is absent before
  absent : (n : ℕ) (e : LinkEnd) → w.last e < n → Absent (old n e)
  absent n e lt =
      let le = I.last_is e in
      let m = machine_of (router_at w e) p in
      let off : is_port_in p (router_at w e) e.port n ≡ false = not_yet p (router_at w e) e.port n (omega (arith, le, lt)) in
      record { off = off; awaits = and_left (is_port_in p (router_at w e) e.port n) (awaits m e.port) off; owes = and_left (is_port_in p (router_at w e) e.port n) (owes_port m e.port) off }

  -- another router's end is as before
  away : (n : ℕ) (e : LinkEnd) → e.router ≢ R.i → new n e ≡ old n e
  away n e d = λ z. end_in p n (R.pfd_elsewhere e.router d z) (R.routers_elsewhere e.router d z) e.port (R.coming_is (t.far e) z)

  -- ---- a session that may be used again

  -- an end that was in no such session, and to which nothing of it is on its way, is blank
  blank_before : (n : ℕ) (e : LinkEnd) → session_of w e < n → latest (w.coming (t.far e)) < n → Blank (old n e)
  blank_before n e lt quiet =
      let r = router_at w e in
      let m = machine_of r p in
      let off : is_port_in p r e.port n ≡ false = not_yet p r e.port n lt in
      record {
        off = off;
        chosen = and_left (is_port_in p r e.port n) (is_port e.port m.successor) off;
        shown = false_from_ne_true (old n e).shown (λ s. (let le = O.row_past e n s in omega (arith, le, lt)));
        awaits = and_left (is_port_in p r e.port n) (awaits m e.port) off;
        owes = and_left (is_port_in p r e.port n) (owes_port m e.port) off;
        empty = (λ z. (none_of p n (w.coming (t.far e)) quiet z ++ nothing_held_later (session_of w e) n (kept p e.port (ripe_of r)) lt (I.ripe_lawful e.router e.port) z) ++ nothing_held_later (session_of w e) n (kept p e.port (unripe_of r)) lt (I.unripe_lawful e.router e.port) z);
        pfd_low = I.pfd_bounded e.router;
      }

  -- so is each end of a session of which nothing is left
  blank_at : (n : ℕ) (e : LinkEnd) → Nothing t R.i w e n → Blank (new n e)
  blank_at n e N = elim (cases_eq e.router R.i) [
    | inl g ↦
        let F = fresh n e g in
        record { off = F.off; chosen = F.chosen; shown = F.shown; awaits = F.awaits; owes = F.owes; empty = pipe_is n e g ∙ none_of p n (w.coming (t.far e)) (let q = N.quiet in omega (arith, q)); pfd_low = F.pfd_low }
    | inr d ↦ subst Blank (sym (away n e d)) (blank_before n e (elim N.here [ inl g ↦ absurd (d g) | inr lt ↦ lt ]) (let q = N.quiet in omega (arith, q)))
  ]

  -- a session may be used again at an end
  abbrev Again : ℕ → LinkEnd → Type 0
  Again n e = (w'.last e < n) × (n ≤ w.last e)

  -- then both ends of the link are blank
  blank_near : (n : ℕ) (e : LinkEnd) → t.valid e ≡ true → Again n e → Blank (new n e) × Blank (new n (t.far e))
  blank_near n e v again =
      let is = R.last_is e in
      let N : Nothing t R.i w e n = nothing_left t R.i w e n (let lt = again.0 in omega (arith, is, lt)) again.1 in
      (blank_at n e N, blank_at n (t.far e) (nothing_back t R.i w e n v N))

  blank_far : (n : ℕ) (e : LinkEnd) → t.valid e ≡ true → Again n (t.far e) → Blank (new n e) × Blank (new n (t.far e))
  blank_far n e v again =
      let B = blank_near n (t.far e) (t.far_valid e v) again in
      (subst (λ (d : LinkEnd). Blank (new n d)) (t.far_far e v) B.1, B.0)

  -- it may not, where an end that may come into it after might before
  abbrev Stays : ℕ → LinkEnd → Type 0
  Stays n e = w'.last e < n → w.last e < n

  again_or : (n : ℕ) (e : LinkEnd) → Again n e ⊎ Stays n e
  again_or n e = elim (cases_lt (w.last e) n) [
    | inl lt ↦ inr (λ x. lt)
    | inr le ↦ elim (cases_lt (w'.last e) n) [ inl lt ↦ inl (lt, le) | inr past ↦ inr (λ x. absurd (omega (arith, x, past))) ]
  ]

  -- ---- another session

  -- an end might be in the session before, and one of the router that is made had not been in it
  record Was (n : ℕ) (e : LinkEnd) : Type 0 where
    may : MayBe p n w e
    new_there : e.router ≡ R.i → w.last e < n

  -- so it is of each that may be in it after
  was : (n : ℕ) (e : LinkEnd) → Stays n e → MayBe p n w' e → Was n e
  was n e stays (inr lt) = record { may = inr (stays lt); new_there = λ g. stays lt }
  was n e stays (inl on) = elim (cases_eq e.router R.i) [
    | inl g ↦ absurd (both_ways (is_port_in p (router_at w' e) e.port n) (fresh n e g).off on)
    | inr d ↦ record { may = inl (ap (λ (r : Router). is_port_in p r e.port n) (sym (R.routers_elsewhere e.router d)) ∙ on); new_there = λ g. absurd (d g) }
  ]

  -- nothing was lost of it before, where nothing is after
  unlost : (n : ℕ) (e : LinkEnd) → Stays n e → Stays n (t.far e) → w'.lost e n ≡ false → w.lost e n ≡ false
  unlost n e stays far_stays off = elim (lost_still t R.i w e n (sym (R.lost_is e n) ∙ off)) [
    | inl is ↦ is
    | inr again ↦ absurd (elim again [ inl here ↦ never e stays here | inr there ↦ never (t.far e) far_stays there ])
  ]
    where
      never : (d : LinkEnd) → Stays n d → (last_anew t R.i w d < n) × (n ≤ w.last d) → ⊥
      never d keeps again =
          let is = R.last_is d in
          let lt = keeps (let a = again.0 in omega (arith, is, a)) in
          let le = again.1 in
          omega (arith, lt, le)

  -- in a session that it has not been in, nothing is on its way from the router that is made
  empty : (n : ℕ) (e : LinkEnd) → e.router ≡ R.i → t.valid e ≡ true → Was n e → Was n (t.far e) → pipe (new n e) ≡ []
  empty n e g v one two =
      let h = I.links e v n one.may two.may in
      let none : pipe (old n e) ≡ [] = h.nothing_sent (absent n e (one.new_there g)).off in
      pipe_is n e g ∙ nil_left (messages (arriving_in n (carried p (w.coming (t.far e))))) (live n (kept p e.port (ripe_of (router_at w e)))) (nil_left ((old n e).out) ((old n e).kept) none)

  -- in a session that neither end has left
  links_kept : (e : LinkEnd) → t.valid e ≡ true → (n : ℕ) → Was n e → Was n (t.far e) → EndInvariant (new n e) (new n (t.far e))
  links_kept e v n one two =
      let f = t.far e in
      let vf = t.far_valid e v in
      let h : EndInvariant (old n e) (old n f) = I.links e v n one.may two.may in
      let k : EndInvariant (old n f) (old n e) = links_far I e v n one.may two.may in
      let one_back : Was n (t.far f) = subst (Was n) (sym (t.far_far e v)) one in
      elim (cases_eq e.router R.i) [
        | inl g ↦
            let F = fresh n e g in
            let none = empty n e g v one two in
            elim (cases_eq f.router R.i) [
              | inl gf ↦
                  let G = fresh n f gf in
                  end_invariant_new (new n e) (new n f) F.off none (empty n f gf vf two one_back) G.off F.chosen F.shown F.awaits G.owes F.pfd_low
              | inr df ↦ end_invariant_same refl (away n f df) (anew_here (old n e) (new n e) (old n f) (absent n e (one.new_there g)) F none h)
            ]
        | inr d ↦ elim (cases_eq f.router R.i) [
          | inl gf ↦ end_invariant_same (away n e d) refl (anew_there (old n f) (new n f) (old n e) (absent n f (two.new_there gf)) (fresh n f gf) (empty n f gf vf two one_back) k h)
          | inr df ↦ end_invariant_same (away n e d) (away n f df) h
        ]
      ]

  told_kept : (e : LinkEnd) → t.valid e ≡ true → (n : ℕ) → Whole t n w.lost e → Was n e → Was n (t.far e) → Told (new n e) (new n (t.far e))
  told_kept e v n whole one two =
      let f = t.far e in
      let h : Told (old n e) (old n f) = I.told e v n whole one.may two.may in
      elim (cases_eq f.router R.i) [
        | inl gf ↦ record { last_is = λ on. absurd (both_ways (new n f).current (fresh n f gf).off on); answers = asks_new e v n whole one two gf }
        | inr df ↦
            let far_same : new n f ≡ old n f = away n f df in
            subst (λ (y : End). Told (new n e) y) (sym far_same) (elim (cases_eq e.router R.i) [
              | inl g ↦ record {
                last_is = λ on.
                    ap (λ v. last_value v (pipe (old n f))) (listens_none (new n e) (fresh n e g).off ∙ sym (listens_none (old n e) (absent n e (one.new_there g)).off)) ∙ h.last_is on;
                answers = awaits_none n e g (old n f);
              }
              | inr d ↦ subst (λ (x : End). Told x (old n f)) (sym (away n e d)) h
            ])
      ]
    where
      -- an end of the router that is made awaits nothing
      awaits_none : (n : ℕ) (e : LinkEnd) → e.router ≡ R.i → (y : End) → Answered (new n e) y
      awaits_none n e g y = record { answered = (let a : one_if (new n e).awaits ≡ 0 = ap one_if (fresh n e g).awaits in omega (arith, a)) }

      -- what another awaits of the router that is made is on its way still
      asks_new : (e : LinkEnd) → t.valid e ≡ true → (n : ℕ) → Whole t n w.lost e → Was n e → Was n (t.far e) → (t.far e).router ≡ R.i → Answered (new n e) (new n (t.far e))
      asks_new e v n whole one two gf = elim (cases_eq e.router R.i) [
        | inl g ↦ awaits_none n e g (new n (t.far e))
        | inr d ↦
            let f = t.far e in
            let h : Told (old n e) (old n f) = I.told e v n whole one.may two.may in
            let A = absent n f (two.new_there gf) in
            let none : pipe (old n f) ≡ [] = (links_far I e v n one.may two.may).nothing_sent A.off in
            let r : count Reply (pipe (old n f)) ≡ 0 = ap (count Reply) none in
            let o : one_if (old n f).owes ≡ 0 = ap one_if A.owes in
            let a : one_if (new n e).awaits ≡ one_if (old n e).awaits = ap (λ (x : End). one_if x.awaits) (away n e d) in
            let q : count Query (pipe (new n e)) ≡ count Query (pipe (old n e)) = ap (λ (x : End). count Query (pipe x)) (away n e d) in
            let u = (h.answers).answered in
            record { answered = omega (arith, r, o, a, q, u) }
      ]

  -- in a session that the one has left, and the other has not
  alone_kept : (e : LinkEnd) → t.valid e ≡ true → (n : ℕ) → Was n (t.far e) → Gone (new n e) (new n (t.far e))
  alone_kept e v n two =
      let f = t.far e in
      let h : Gone (old n e) (old n f) = gone_before I e v n two.may in
      let far : Gone (old n e) (new n f) = elim (cases_eq f.router R.i) [
        | inl gf ↦ gone_to_anew (old n e) (old n f) (new n f) (absent n f (two.new_there gf)) (fresh n f gf) h
        | inr df ↦ subst (λ (y : End). Gone (old n e) y) (sym (away n f df)) h
      ] in
      elim (cases_eq e.router R.i) [
        | inl g ↦ gone_anew (old n e) (new n e) (new n f) (fresh n e g) (λ k. fewer n e g k) far
        | inr d ↦ subst (λ (x : End). Gone x (new n f)) (sym (away n e d)) far
      ]
    where
      fewer : (n : ℕ) (e : LinkEnd) → e.router ≡ R.i → (k : Kind) → count k (pipe (new n e)) ≤ count k (pipe (old n e))
      fewer n e g k =
          let is = ap (count k) (pipe_is n e g) in
          let all = count-append k (old n e).out (old n e).kept in
          let some = count-append k (messages (arriving_in n (carried p (w.coming (t.far e))))) (live n (kept p e.port (ripe_of (router_at w e)))) in
          omega (arith, is, all, some)

  -- ---- each session

  -- what is kept where neither end may use the session again, and holds where both are blank, holds after
  links' : (e : LinkEnd) → t.valid e ≡ true → (n : ℕ) → MayBe p n w' e → MayBe p n w' (t.far e) → EndInvariant (new n e) (new n (t.far e))
  links' e v n one two = elim (again_or n e) [
    | inl again ↦ let B = blank_near n e v again in blank_links B.0 B.1
    | inr here ↦ elim (again_or n (t.far e)) [
      | inl again ↦ let B = blank_far n e v again in blank_links B.0 B.1
      | inr there ↦ links_kept e v n (was n e here one) (was n (t.far e) there two)
    ]
  ]

  told' : (e : LinkEnd) → t.valid e ≡ true → (n : ℕ) → Whole t n w'.lost e → MayBe p n w' e → MayBe p n w' (t.far e) → Told (new n e) (new n (t.far e))
  told' e v n whole one two = elim (again_or n e) [
    | inl again ↦ let B = blank_near n e v again in blank_told B.0 B.1
    | inr here ↦ elim (again_or n (t.far e)) [
      | inl again ↦ let B = blank_far n e v again in blank_told B.0 B.1
      | inr there ↦ told_kept e v n (unlost n e here there whole.0, unlost n (t.far e) there (subst (Stays n) (sym (t.far_far e v)) here) whole.1) (was n e here one) (was n (t.far e) there two)
    ]
  ]

  alone' : (e : LinkEnd) → t.valid e ≡ true → (n : ℕ) → Left p n w' e → MayBe p n w' (t.far e) → Gone (new n e) (new n (t.far e))
  alone' e v n left two = elim (again_or n (t.far e)) [
    | inl again ↦ let B = blank_far n e v again in blank_gone B.0 B.1
    | inr there ↦ alone_kept e v n (was n (t.far e) there two)
  ]

  -- what is on its way is of sessions that its end has to exceed
  coming' : (e : LinkEnd) → IsLawfullyHeld (w'.last (t.far e)) (carried p (w'.coming e))
  coming' e = subst (λ cs. IsLawfullyHeld (w'.last (t.far e)) (carried p cs)) (sym (R.coming_is e)) (elim (cases_Bool (t.valid e)) [
    | inl v ↦
        let d = t.far e in
        let is = R.last_is d in
        let least = anew_least t R.i w d in
        let most : latest (w.coming e) ≤ latest_coming t w d = subst (λ (f : LinkEnd). latest (w.coming f) ≤ latest_coming t w d) (t.far_far e v) (omega arith) in
        lawfully_held_later (min (w.last d) (latest_coming t w d)) (w'.last d) (carried p (w.coming e)) (omega (arith, is, least))
        (lawful_least p (w.last d) (latest_coming t w d) (w.coming e) most (I.coming_lawful e))
    | inr out ↦ subst (λ cs. IsLawfullyHeld (w'.last (t.far e)) (carried p cs)) (sym (P e out)) tt
  ])

  -- each router is as it was, or made
  each_router : (Q : ℕ → Router → Type 0) → Q R.i (w'.routers R.i) → ((j : ℕ) → Q j (w.routers j)) → (j : ℕ) → Q j (w'.routers j)
  each_router = each_but R.routers_elsewhere

  -- a process that begins in the place of another keeps the invariant
  pub restart_keeps : Invariant t p pfd' w'
  restart_keeps = record {
    sound = each_router (λ j r. IsSound (machine_of r p)) (R.made_here).sound I.sound;
    pfd_bounded = λ j. elim (cases_eq j R.i) [
      | inl e ↦ subst (λ (k : ℕ). pfd' k ≤ infinity) (sym e) (let a = ((R.made_here).sound).fd_below in let b = ((R.made_here).sound).rd_bounded in let c = R.pfd_is in omega (arith, a, b, c))
      | inr d ↦ (let a = I.pfd_bounded j in let c = R.pfd_elsewhere j d in omega (arith, a, c))
    ];
    keeps = each_router (λ j r. RouterKept p r) (R.made_here).keeps I.keeps;
    ripe_lawful = λ j q. each_router (λ k r. IsLawfullyHeld (session_at r.ports q) (kept p q (ripe_of r))) (subst (λ hs. IsLawfullyHeld (session_at (w'.routers R.i).ports q) hs) (sym (ripe_none (at_port R.i q) refl)) tt) (λ k. I.ripe_lawful k q) j;
    unripe_lawful = λ j q. each_router (λ k r. IsLawfullyHeld (session_at r.ports q) (kept p q (unripe_of r))) (subst (λ hs. IsLawfullyHeld (session_at (w'.routers R.i).ports q) hs) (sym (unripe_none (at_port R.i q) refl)) tt) (λ k. I.unripe_lawful k q) j;
    cheap = each_router (λ j r. IsCheap (machine_of r p)) (R.made_here).cheap I.cheap;
    last_is = last';
    coming_lawful = coming';
    links = links';
    told = told';
    alone = alone';
  }
    where
      last' : (e : LinkEnd) → session_of w' e ≤ w'.last e
      last' e = elim (cases_eq e.router R.i) [
        | inl g ↦ (let z = (made_at e g).never e.port in omega (arith, z))
        | inr d ↦ (let s : session_of w' e ≡ session_of w e = ap (λ (r : Router). session_at r.ports e.port) (R.routers_elsewhere e.router d) in let l = R.last_is e in let own = anew_own t R.i w e d (I.last_is e) in omega (arith, s, l, own))
      ]
