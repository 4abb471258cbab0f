-- A message of the session that its end is in is of no kind that is a fault: a reply that comes is awaited, and a query comes only once
-- the reply to the one before is sent.
use Rattle.std.proofs.Common.{refl, sym, ap, subst, ◌∙◌, arith, inl, inr, ◌≡◌, ℕ, ◌+◌, ◌≤◌, Bool, true, false, ◌&&◌, if◌then◌else◌, List, [], ◌∷◌, ◌++◌, drop, Option, Some, None, slice_get, unwrap_or, eq-eqb}
use Rattle.no_packet_loops.proofs.Common.{None_not_Some, Some_injective, and_parts, Prefix, prefix_eq, Machine, Computation, machine_of, msg_of, Reported, Topology, LinkEnd, kept, ripe_of, test_at, is_kind, awaits, owes_port, awaits_of, owes_of, count-append, one_if_at_most_one}
use Rattle.network_model.proofs.Common.{Kind, Query, Reply, Update, one_if}
use Rattle.dual_machine.specs.State.{awaits_at}
use Rattle.c_interface.specs.declared.fault.CallFault.TheVariants.{AskedTwice, Unasked}
use Rattle.single_router.specs.Inputs.{owes_at, kind_fault}
use Rattle.loop_freedom.specs.Facts.{End, count, pipe, messages, live}
use Rattle.daemon_laws.specs.Processes.{Carried, Processes}
use Rattle.daemon_laws.proofs.{Seen.carried, Seen.arriving_in, Seen.is_port_in, Gone.Gone}
use Rattle.daemon_laws.proofs.Invariant.{router_at, end_from, MayBe, may_or_left, Invariant, links_far}

-- ---- a machine's computation, as the router tests it

-- whether it awaits a reply
awaits_same : (c : Option Computation) (q : ℕ) → awaits_at c q ≡ awaits_of c q
awaits_same None q = refl
awaits_same (Some c) q = by_place (slice_get c.awaited q)
  where
    by_place : (o : Option Bool) → unwrap_or o false ≡ test_at (λ b. b) o
    by_place None = refl
    by_place (Some b) = refl

-- whether it owes one
owes_same : (c : Option Computation) (q : ℕ) → owes_at c q ≡ owes_of c q
owes_same None q = refl
owes_same (Some c) q = refl

-- what counts one is true
true_one : (b : Bool) → 1 ≤ one_if b → b ≡ true
true_one true h = refl
true_one false h = absurd (omega (arith, h))

-- what counts none is false
false_none : (b : Bool) → one_if b ≤ 0 → b ≡ false
false_none true h = absurd (omega (arith, h))
false_none false h = refl

-- no fault is found in a kind where a reply is awaited, and a query is not owed the reply to one before
no_fault : (c : Option Computation) (q : ℕ) (k : Kind) → (k ≡ Reply → awaits_of c q ≡ true) → (k ≡ Query → owes_of c q ≡ false) → kind_fault c q k ≡ None
no_fault c q Update a o = refl
no_fault c q Query a o = ap (λ b. if b then Some AskedTwice else None) (owes_same c q ∙ o refl)
no_fault c q Reply a o = ap (λ b. if b then None else Some Unasked) (awaits_same c q ∙ a refl)

-- the first message, and the rest
pub first_is : (c : Carried) (cs : List Carried) → slice_get cs 0 ≡ Some c → cs ≡ c ∷ drop 1 cs
first_is c [] e = absurd (None_not_Some e)
first_is c (x ∷ xs) e = ap (λ (y : Carried). y ∷ xs) (Some_injective e)

module _ (t : Topology) (p : Prefix) (pfd : ℕ → ℕ) (w : Processes) (I : Invariant t p pfd w) (e : LinkEnd) (v : t.valid e ≡ true) (c : Carried) (at : slice_get (w.coming e) 0 ≡ Some c) (same : prefix_eq p (c.message).prefix ≡ true) where
  -- the end across the link
  abbrev f : LinkEnd
  f = t.far e

  -- the session of the message
  abbrev n : ℕ
  n = c.session

  -- the end, as its link sees it
  abbrev x : End
  x = end_from t p n pfd w e

  -- and the one across
  abbrev y : End
  y = end_from t p n pfd w f

  -- the message is the first of those that the other end has released
  first_out : y.out ≡ msg_of c.message ∷ (messages (arriving_in n (carried p (drop 1 (w.coming e)))) ++ live n (kept p f.port (ripe_of (router_at w f))))
  first_out =
      ap (λ (d : LinkEnd). messages (arriving_in n (carried p (w.coming d))) ++ live n (kept p f.port (ripe_of (router_at w f)))) (t.far_far e v)
      ∙ ap (λ cs. messages (arriving_in n (carried p cs)) ++ live n (kept p f.port (ripe_of (router_at w f)))) (first_is c (w.coming e) at)
      ∙ ap (λ b. messages (arriving_in n (if b then record { session = c.session; message = msg_of c.message } ∷ carried p (drop 1 (w.coming e)) else carried p (drop 1 (w.coming e)))) ++ live n (kept p f.port (ripe_of (router_at w f)))) same
      ∙ ap (λ b. messages (if b then Reported (msg_of c.message) ∷ arriving_in n (carried p (drop 1 (w.coming e))) else arriving_in n (carried p (drop 1 (w.coming e)))) ++ live n (kept p f.port (ripe_of (router_at w f)))) (eq-eqb n n refl)

  -- so it counts among all that is on its way
  first_counts : (k : Kind) → one_if (is_kind k (c.message).kind) ≤ count k (pipe y)
  first_counts k = let a = ap (count k) first_out in let b = count-append k y.out y.kept in omega (arith, a, b)

  -- the replies on their way are awaited, and a query is on its way only where no reply is owed
  record Counted : Type 0 where
    replies : count Reply (pipe y) ≤ one_if x.awaits
    queries : count Query (pipe y) + one_if x.owes ≤ 1

  -- so it is where this end is in the session, whether the other is, or has left it
  counted : is_port_in p (router_at w e) e.port n ≡ true → Counted
  counted on = elim (may_or_left p n w f) [
    | inl may ↦
        let h = (I.links e v n (inl on) may).awaited_once in
        let g = (links_far I e v n (inl on) may).awaited_once in
        let l = one_if_at_most_one y.awaits in
        record { replies = omega (arith, h); queries = omega (arith, g, l) }
    | inr left ↦
        let G : Gone y x = subst (λ (d : LinkEnd). Gone y (end_from t p n pfd w d)) (t.far_far e v) (I.alone f (t.far_valid e v) n left (subst (λ (d : LinkEnd). MayBe p n w d) (sym (t.far_far e v)) (inl on))) in
        record { replies = G.replies_awaited; queries = G.queries_once }
  ]

  -- so its kind is no fault there
  pub polite : is_port_in p (router_at w e) e.port n ≡ true → kind_fault (machine_of (router_at w e) p).computation e.port (c.message).kind ≡ None
  polite on = no_fault m.computation e.port (c.message).kind is_awaited not_owed
    where
      m : Machine
      m = machine_of (router_at w e) p

      is_awaited : (c.message).kind ≡ Reply → awaits_of (machine_of (router_at w e) p).computation e.port ≡ true
      is_awaited k =
          let one : one_if (is_kind Reply (c.message).kind) ≡ 1 = ap (λ j. one_if (is_kind Reply j)) k in
          let a = first_counts Reply in
          let b = (counted on).replies in
          (and_parts (is_port_in p (router_at w e) e.port n) (awaits (machine_of (router_at w e) p) e.port) (true_one x.awaits (omega (arith, one, a, b)))).1

      not_owed : (c.message).kind ≡ Query → owes_of (machine_of (router_at w e) p).computation e.port ≡ false
      not_owed k =
          let one : one_if (is_kind Query (c.message).kind) ≡ 1 = ap (λ j. one_if (is_kind Query j)) k in
          let a = first_counts Query in
          let b = (counted on).queries in
          sym (ap (λ b. b && owes_port (machine_of (router_at w e) p) e.port) on) ∙ false_none x.owes (omega (arith, one, a, b))
