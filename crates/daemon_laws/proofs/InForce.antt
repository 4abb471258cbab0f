-- A router that puts rows in force, or forgets a prefix, keeps the invariant.
use Rattle.std.proofs.Common.{sym, ap, subst, ◌∙◌, arith, inl, inr, ◌≡◌, ◌≢◌, ℕ, Bool, ◌≤◌, true, ◌&&◌, ◌==◌, List, option_and_then, take, drop}
use Rattle.no_packet_loops.proofs.Common.{and_parts, Prefix, prefix_cmp, Router, machine_of, session_at, next_hop, kept, ripe_of, unripe_of, IsSound, is_up_at, is_port, is_current, Topology, LinkEnd, EndInvariant, ShownAs, invariant_here, invariant_there, IsLawfullyHeld}
use Rattle.network_model.proofs.Common.{cases_eq, and_left, infinity, Gate, find as row_of}
use Rattle.loop_freedom.specs.Facts.{End, end_of}
use Rattle.daemon_laws.specs.Processes.{Carried, Processes}
use Rattle.daemon_laws.proofs.{Cases.each_but, Routers.RouterKept, Cheap.IsCheap, Told.Told, Gone.Gone}
use Rattle.daemon_laws.proofs.Seen.{carried, arriving_in, end_in, is_port_in}
use Rattle.daemon_laws.proofs.Shows.{told_here, told_there, gone_here, gone_there}
use Rattle.daemon_laws.proofs.Invariant.{Whole, router_at, session_of, end_from, MayBe, Left, Invariant}

-- ---- a router

-- what the ends of a router's links show then: its row is in force, or all is as before
pub data Ends (p : Prefix) (r r' : Router) (fd fd' : ℕ) : Type 0 where
  AsChosen : ((n q : ℕ) (cs : List Carried) → ShownAs (end_in p n fd r q cs) (end_in p n fd' r' q cs)) → Ends p r r' fd fd'
  AsBefore : ((n q : ℕ) (cs : List Carried) → end_in p n fd' r' q cs ≡ end_in p n fd r q cs) → ripe_of r' ≡ ripe_of r → Ends p r r' fd fd'

-- from r to r' a router puts its row of the prefix in force, or leaves it; fd and fd' are the feasible distances that count as published
pub record PutsInForce (p : Prefix) (r r' : Router) (fd fd' : ℕ) : Type 0 where
  pub sound : IsSound (machine_of r' p)
  pub keeps : RouterKept p r'
  pub cheap : IsCheap (machine_of r' p)
  pub ports_are : r'.ports ≡ r.ports
  pub held_is : (r'.gate).held ≡ (r.gate).held
  pub up_is : (q : ℕ) → is_up_at (machine_of r' p) q ≡ is_up_at (machine_of r p) q
  pub ripe_lawful : (k q : ℕ) → IsLawfullyHeld k (kept p q (ripe_of r)) → IsLawfullyHeld k (kept p q (unripe_of r)) → IsLawfullyHeld k (kept p q (ripe_of r'))
  pub unripe_lawful : (k q : ℕ) → IsLawfullyHeld k (kept p q (unripe_of r)) → IsLawfullyHeld k (kept p q (unripe_of r'))
  pub fd_bounded : fd' ≤ infinity
  pub ends : Ends p r r' fd fd'

pub puts_held : (p : Prefix) (r r' : Router) (fd fd' : ℕ) → IsSound (machine_of r' p) → RouterKept p r' → IsCheap (machine_of r' p) → r'.ports ≡ r.ports → r'.gate ≡ r.gate
    → ((q : ℕ) → is_up_at (machine_of r' p) q ≡ is_up_at (machine_of r p) q) → fd' ≤ infinity → Ends p r r' fd fd' → PutsInForce p r r' fd fd'
puts_held p r r' fd fd' sound keeps cheap ports gate up bounded ends = record {
  sound = sound;
  keeps = keeps;
  cheap = cheap;
  ports_are = ports;
  held_is = ap (λ (g : Gate). g.held) gate;
  up_is = up;
  ripe_lawful = λ k q h g. subst (λ hs. IsLawfullyHeld k hs) (sym (λ z. kept p q (take (gate z).ripe (gate z).held))) h;
  unripe_lawful = λ k q h. subst (λ hs. IsLawfullyHeld k hs) (sym (λ z. kept p q (drop (gate z).ripe (gate z).held))) h;
  fd_bounded = bounded;
  ends = ends;
}

-- where the machine, the row and what is held are as before
pub puts_nothing : (p : Prefix) (r r' : Router) (fd fd' : ℕ) → IsSound (machine_of r p) → RouterKept p r' → IsCheap (machine_of r p) → fd ≤ infinity → r'.ports ≡ r.ports → r'.gate ≡ r.gate
    → machine_of r' p ≡ machine_of r p → row_of prefix_cmp p (r'.table).published ≡ row_of prefix_cmp p (r.table).published → fd' ≡ fd → PutsInForce p r r' fd fd'
puts_nothing p r r' fd fd' sound keeps cheap bounded ports gate machine row same =
    puts_held p r r' fd fd' (subst IsSound (sym machine) sound) keeps (subst IsCheap (sym machine) cheap) ports gate (λ q. ap (λ m. is_up_at m q) machine) (omega (arith, bounded, same))
    (AsBefore
    (λ n q cs. λ z. end_of (machine z) q (session_at (ports z) q) n (option_and_then next_hop (row z)) (same z) (arriving_in n (carried p cs)) (kept p q (take (gate z).ripe (gate z).held)) (kept p q (drop (gate z).ripe (gate z).held)))
    (λ z. take (gate z).ripe (gate z).held))

-- ---- the processes

-- router i puts its row of the prefix in force, or leaves it; nothing else changes
pub record PutsAt (p : Prefix) (w w' : Processes) (pfd pfd' : ℕ → ℕ) : Type 0 where
  pub i : ℕ
  pub puts : PutsInForce p (w.routers i) (w'.routers i) (pfd i) (pfd' i)
  pub routers_elsewhere : (j : ℕ) → j ≢ i → w'.routers j ≡ w.routers j
  pub coming_is : (e : LinkEnd) → w'.coming e ≡ w.coming e
  pub last_same : (e : LinkEnd) → w'.last e ≡ w.last e
  pub lost_same : w'.lost ≡ w.lost
  pub pfd_elsewhere : (j : ℕ) → j ≢ i → pfd' j ≡ pfd j

module _ (t : Topology) (p : Prefix) (pfd pfd' : ℕ → ℕ) (w w' : Processes) (I : Invariant t p pfd w) (P : PutsAt p w w' pfd pfd') where
  -- an end after the step is the end before, with its row in force, or as it was
  data Either (n : ℕ) (e : LinkEnd) : Type 0 where
    Here : ShownAs (end_from t p n pfd w e) (end_from t p n pfd' w' e) → Either n e
    Away : end_from t p n pfd' w' e ≡ end_from t p n pfd w e → Either n e

  either : (n : ℕ) (e : LinkEnd) → Either n e
  either n e = elim (cases_eq e.router P.i) [
    | inl r ↦ by_ends r (P.puts).ends
    | inr d ↦ Away (λ z. end_in p n (P.pfd_elsewhere e.router d z) (P.routers_elsewhere e.router d z) e.port (P.coming_is (t.far e) z))
  ]
    where
      by_ends : e.router ≡ P.i → Ends p (w.routers P.i) (w'.routers P.i) (pfd P.i) (pfd' P.i) → Either n e
      by_ends r (AsChosen shown) = Here (
          subst (λ (j : ℕ). ShownAs (end_in p n (pfd j) (w.routers j) e.port (w.coming (t.far e))) (end_in p n (pfd' j) (w'.routers j) e.port (w'.coming (t.far e)))) (sym r)
          (subst (λ cs. ShownAs (end_in p n (pfd P.i) (w.routers P.i) e.port (w.coming (t.far e))) (end_in p n (pfd' P.i) (w'.routers P.i) e.port cs)) (sym (P.coming_is (t.far e))) (shown n e.port (w.coming (t.far e)))))
      by_ends r (AsBefore same ripe) = Away (
          subst (λ (j : ℕ). end_in p n (pfd' j) (w'.routers j) e.port (w'.coming (t.far e)) ≡ end_in p n (pfd j) (w.routers j) e.port (w.coming (t.far e))) (sym r)
          (ap (end_in p n (pfd' P.i) (w'.routers P.i) e.port) (P.coming_is (t.far e)) ∙ same n e.port (w.coming (t.far e))))

  -- what holds of an end before the step, and then of one whose row is in force, holds of it after the step
  along : (Q : End → Type 0) (n : ℕ) (e : LinkEnd) → (ShownAs (end_from t p n pfd w e) (end_from t p n pfd' w' e) → Q (end_from t p n pfd' w' e)) → Q (end_from t p n pfd w e) → Q (end_from t p n pfd' w' e)
  along Q n e shown h = by_either (either n e)
    where
      by_either : Either n e → Q (end_from t p n pfd' w' e)
      by_either (Here S) = shown S
      by_either (Away a) = subst Q (sym a) h

  -- what holds of each router as it was and of router i after the step, holds of each router after it
  each_router : (Q : Router → Type 0) → Q (w'.routers P.i) → ((j : ℕ) → Q (w.routers j)) → (j : ℕ) → Q (w'.routers j)
  each_router Q = each_but P.routers_elsewhere (λ j. Q)

  -- a router is in the sessions that it was in, and was last in the same session
  record SameAt (e : LinkEnd) : Type 0 where
    in_is : (n : ℕ) → is_port_in p (router_at w' e) e.port n ≡ is_port_in p (router_at w e) e.port n
    session_is : session_of w' e ≡ session_of w e

  same_at : (e : LinkEnd) → SameAt e
  same_at e = elim (cases_eq e.router P.i) [
    | inl r ↦ record {
      in_is = λ n. subst (λ (j : ℕ). is_port_in p (w'.routers j) e.port n ≡ is_port_in p (w.routers j) e.port n) (sym r) (λ z. (P.puts).up_is e.port z && (session_at ((P.puts).ports_are z) e.port == n));
      session_is = subst (λ (j : ℕ). session_at (w'.routers j).ports e.port ≡ session_at (w.routers j).ports e.port) (sym r) (ap (λ ports. session_at ports e.port) (P.puts).ports_are);
    }
    | inr d ↦ record { in_is = λ n. ap (λ (x : Router). is_port_in p x e.port n) (P.routers_elsewhere e.router d); session_is = ap (λ (x : Router). session_at x.ports e.port) (P.routers_elsewhere e.router d) }
  ]

  -- a router may be in the sessions that it might be in
  may_before : (n : ℕ) (e : LinkEnd) → MayBe p n w' e → MayBe p n w e
  may_before n e (inl on) = inl (sym ((same_at e).in_is n) ∙ on)
  may_before n e (inr lt) = inr (let s = P.last_same e in omega (arith, lt, s))

  -- and has left those that it had left
  left_before : (n : ℕ) (e : LinkEnd) → Left p n w' e → Left p n w e
  left_before n e left = record { off = sym ((same_at e).in_is n) ∙ left.off; past = (let s = P.last_same e in let l = left.past in omega (arith, l, s)) }

  -- in a session that neither router has left
  links' : (e : LinkEnd) → t.valid e ≡ true → (n : ℕ) → MayBe p n w' e → MayBe p n w' (t.far e) → EndInvariant (end_from t p n pfd' w' e) (end_from t p n pfd' w' (t.far e))
  links' e v n one two =
      let f = t.far e in
      let m = machine_of (router_at w e) p in
      let x = end_from t p n pfd w e in
      let first : EndInvariant x (end_from t p n pfd w f) = I.links e v n (may_before n e one) (may_before n f two) in
      let cur : x.chosen ≡ true → x.current ≡ true = λ c. (and_parts (is_current m e.port (session_of w e) n) (is_port e.port m.successor) c).0 in
      let low : x.fd ≤ infinity = let a = (I.sound e.router).fd_below in let b = (I.sound e.router).rd_bounded in omega (arith, a, b) in
      let near = along (λ z. EndInvariant z (end_from t p n pfd w f)) n e (λ S. invariant_here S cur low first) first in
      along (λ z. EndInvariant (end_from t p n pfd' w' e) z) n f (λ S. invariant_there S near) near

  told' : (e : LinkEnd) → t.valid e ≡ true → (n : ℕ) → Whole t n w'.lost e → MayBe p n w' e → MayBe p n w' (t.far e) → Told (end_from t p n pfd' w' e) (end_from t p n pfd' w' (t.far e))
  told' e v n whole one two =
      let f = t.far e in
      let first : Told (end_from t p n pfd w e) (end_from t p n pfd w f) = I.told e v n (subst (λ (l : LinkEnd → ℕ → Bool). Whole t n l e) P.lost_same whole) (may_before n e one) (may_before n f two) in
      let near = along (λ z. Told z (end_from t p n pfd w f)) n e (λ S. told_here S first) first in
      along (λ z. Told (end_from t p n pfd' w' e) z) n f (λ S. told_there S near) near

  -- in a session that the one has left, and the other has not
  alone' : (e : LinkEnd) → t.valid e ≡ true → (n : ℕ) → Left p n w' e → MayBe p n w' (t.far e) → Gone (end_from t p n pfd' w' e) (end_from t p n pfd' w' (t.far e))
  alone' e v n left two =
      let f = t.far e in
      let m = machine_of (router_at w e) p in
      let was : Left p n w e = left_before n e left in
      let first : Gone (end_from t p n pfd w e) (end_from t p n pfd w f) = I.alone e v n was (may_before n f two) in
      let near = along (λ z. Gone z (end_from t p n pfd w f)) n e (λ S. gone_here S (and_left (is_current m e.port (session_of w e) n) (is_port e.port m.successor) was.off) first) first in
      along (λ z. Gone (end_from t p n pfd' w' e) z) n f (λ S. gone_there S near) near

  -- published feasible distances are at most infinity
  bounded : (j : ℕ) → pfd' j ≤ infinity
  bounded j = elim (cases_eq j P.i) [
    | inl e ↦ subst (λ (k : ℕ). pfd' k ≤ infinity) (sym e) (P.puts).fd_bounded
    | inr d ↦ (let a = I.pfd_bounded j in let c = P.pfd_elsewhere j d in omega (arith, a, c))
  ]

  -- such a step keeps the invariant
  pub puts_keeps : Invariant t p pfd' w'
  puts_keeps = record {
    sound = each_router (λ r. IsSound (machine_of r p)) (P.puts).sound I.sound;
    pfd_bounded = bounded;
    keeps = each_router (λ r. RouterKept p r) (P.puts).keeps I.keeps;
    ripe_lawful = λ j q. each_router (λ r. IsLawfullyHeld (session_at r.ports q) (kept p q (ripe_of r)))
        (subst (λ ports. IsLawfullyHeld (session_at ports q) (kept p q (ripe_of (w'.routers P.i)))) (sym (P.puts).ports_are)
        ((P.puts).ripe_lawful (session_at (w.routers P.i).ports q) q (I.ripe_lawful P.i q) (I.unripe_lawful P.i q))) (λ k. I.ripe_lawful k q) j;
    unripe_lawful = λ j q. each_router (λ r. IsLawfullyHeld (session_at r.ports q) (kept p q (unripe_of r)))
        (subst (λ ports. IsLawfullyHeld (session_at ports q) (kept p q (unripe_of (w'.routers P.i)))) (sym (P.puts).ports_are)
        ((P.puts).unripe_lawful (session_at (w.routers P.i).ports q) q (I.unripe_lawful P.i q))) (λ k. I.unripe_lawful k q) j;
    last_is = λ e. (let le = I.last_is e in let s = (same_at e).session_is in let l = P.last_same e in omega (arith, le, s, l));
    coming_lawful = λ e. subst (λ cs. IsLawfullyHeld (w'.last (t.far e)) (carried p cs)) (sym (P.coming_is e))
        (subst (λ (s : ℕ). IsLawfullyHeld s (carried p (w.coming e))) (sym (P.last_same (t.far e))) (I.coming_lawful e));
    cheap = each_router (λ r. IsCheap (machine_of r p)) (P.puts).cheap I.cheap;
    links = links';
    told = told';
    alone = alone';
  }
