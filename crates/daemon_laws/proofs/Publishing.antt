-- A router that publishes puts its rows in force.
use Rattle.std.proofs.Common.{refl, sym, ap, subst, ◌∙◌, arith, append_assoc, take_all, take-append-drop, inl, inr, ◌≡◌, ℕ, ◌<◌, ◌≤◌, true, false, ◌&&◌, ◌==◌, List, [], ◌++◌, length, Option, Some, None, option_map, eqb-true}
use Rattle.no_packet_loops.proofs.Common.{and_parts, drop_all, slice_get_past, Prefix, Machine, port_count, port_successor, is_port, Neighbour, Router, machine_of, entry_of, session_at, router_publishing, next_hop_at, next_hop_of, kept, ripe_of, unripe_of, IsSound, is_up_at, test_at, is_current, is_next_hop, port_successor_from, is_port_successor, port_successor_home, live, messages, ShownAs, shown_as_chosen, shown_published, next_hop_seen, published_end, live-append, IsLawfullyHeld, lawfully_held_append}
use Rattle.network_model.proofs.Common.{cases_lt, and_left, false≢true, false_from_ne_true, none-some}
use Rattle.no_packet_loops.proofs.{Publishing.control_row, Publishing.control_hop, Publishing.control_sorted, View.kept-append}
use Rattle.daemon_laws.specs.Processes.{Carried}
use Rattle.daemon_laws.proofs.{Seen.carried, Seen.arriving_in, Seen.end_in, Routers.RouterKept, Cheap.IsCheap, InForce.AsChosen, InForce.PutsInForce}

-- ---- the next hop that is published

-- a next hop at a port is of that port
hop_port : (q n : ℕ) (seen : ℕ → ℕ) (s : Option ℕ) → is_next_hop q n (next_hop_of seen s) ≡ true → s ≡ Some q
hop_port q n seen None e = absurd (false≢true e)
hop_port q n seen (Some p) e = ap (λ (x : ℕ). Some x) (eqb-true p q (and_parts (p == q) (seen p == n) e).0)

-- no port past the last is up
none_past : (m : Machine) (q : ℕ) → port_count m ≤ q → is_up_at m q ≡ false
none_past m q le = ap (λ o. test_at (λ (x : Neighbour). x.up) o) (slice_get_past m.ports q le)

-- a successor that is a port of a sound machine is one of its ports
pub successor_there : (m : Machine) → IsSound m → (q : ℕ) → port_successor m ≡ Some q → q < port_count m
successor_there m sound q k = elim (cases_lt q (port_count m)) [
  | inl lt ↦ lt
  | inr le ↦
      let s : m.successor ≡ Some q = port_successor_from m q k in
      let within : q ≤ port_count m = sound.successor_within q s in
      let last : q ≡ port_count m = omega (arith, le, within) in
      absurd (none-some q (sym (port_successor_home m (s ∙ ap (λ (x : ℕ). Some x) last)) ∙ k))
]

-- what a sound machine publishes is a port in a session exactly where that is its successor, and it is in the session there
pub published_as : (m : Machine) → IsSound m → (q n : ℕ) (seen : ℕ → ℕ) → is_next_hop q n (next_hop_of seen (port_successor m)) ≡ (is_current m q (seen q) n && is_port q m.successor)
published_as m sound q n seen = elim (cases_lt q (port_count m)) [
  | inl lt ↦ next_hop_seen m q n seen (port_successor m) (λ k. sound.successor_up q (port_successor_from m q k) lt) ∙ ap (λ b. is_current m q (seen q) n && b) (is_port_successor m q lt)
  | inr le ↦
      let none : is_next_hop q n (next_hop_of seen (port_successor m)) ≡ false = false_from_ne_true (is_next_hop q n (next_hop_of seen (port_successor m))) (λ h.
      let lt : q < port_count m = successor_there m sound q (hop_port q n seen (port_successor m) h) in omega (arith, lt, le)) in
      none ∙ sym (and_left (is_current m q (seen q) n) (is_port q m.successor) (and_left (is_up_at m q) (seen q == n) (none_past m q le)))
]

module _ (p : Prefix) (r : Router) (R : RouterKept p r) (sound : IsSound (machine_of r p)) where
  -- the router that published
  abbrev r' : Router
  r' = router_publishing r

  -- all that it held for a port may be released
  pub ripe_all : (q : ℕ) → kept p q (ripe_of r') ≡ kept p q (ripe_of r) ++ kept p q (unripe_of r)
  ripe_all q =
      let held = (r.gate).held in
      ap (kept p q) (take_all (length held) held (omega arith) ∙ sym (take-append-drop (r.gate).ripe held)) ∙ kept-append p q (ripe_of r) (unripe_of r)

  -- nothing is left that may not
  pub unripe_none : (q : ℕ) → kept p q (unripe_of r') ≡ []
  unripe_none q = ap (kept p q) (drop_all (length (r.gate).held) (r.gate).held (omega arith))

  -- it keeps what a router keeps
  pub kept_published : RouterKept p r'
  kept_published = record {
    ripe_within = omega arith;
    sorted = R.sorted;
    published_sorted = control_sorted r R.control_is R.sorted;
    control_is = R.control_is;
    published_heard = λ none. control_row p r R.control_is ∙ ap (option_map (λ m. entry_of r.ports m)) none;
    faces_are = R.faces_are;
  }

  -- the end of the router after is the end before, as published
  pub end_published : (n pfd q : ℕ) (cs : List Carried) → end_in p n (machine_of r p).fd r' q cs ≡ shown_as_chosen (end_in p n pfd r q cs)
  end_published n pfd q cs =
      let m = machine_of r p in
      let items = arriving_in n (carried p cs) in
      let hop : next_hop_at p r' ≡ next_hop_of (λ q. session_at r.ports q) (port_successor m) = control_hop p r (λ q. session_at r.ports q) R.control_is (λ q. refl) in
      let shown : is_next_hop q n (next_hop_at p r') ≡ (is_current m q (session_at r.ports q) n && is_port q m.successor) = ap (λ o. is_next_hop q n o) hop ∙ published_as m sound q n (λ q. session_at r.ports q) in
      let ripe : live n (kept p q (ripe_of r')) ≡ live n (kept p q (ripe_of r)) ++ live n (kept p q (unripe_of r)) = ap (live n) (ripe_all q) ∙ live-append n (kept p q (ripe_of r)) (kept p q (unripe_of r)) in
      published_end {m = m} {m' = machine_of r' p} {seen = session_at r.ports q} {seen' = session_at r'.ports q} {n = n} {n' = n} {pfd' = m.fd} q (next_hop_at p r) (next_hop_at p r') pfd items items (kept p q (ripe_of r)) (kept p q (ripe_of r')) (kept p q (unripe_of r)) (kept p q (unripe_of r'))
      refl refl refl shown refl
      (ap (λ ms. messages items ++ ms) ripe ∙ sym (append_assoc (messages items) (live n (kept p q (ripe_of r))) (live n (kept p q (unripe_of r)))))
      (ap (live n) (unripe_none q))

  -- it puts its row in force
  pub puts_published : (fd : ℕ) → IsCheap (machine_of r p) → PutsInForce p r r' fd (machine_of r p).fd
  puts_published fd cheap = record {
    sound = sound;
    keeps = kept_published;
    cheap = cheap;
    ports_are = refl;
    held_is = refl;
    up_is = λ q. refl;
    ripe_lawful = λ k q h g. subst (λ hs. IsLawfullyHeld k hs) (sym (ripe_all q)) (lawfully_held_append k (kept p q (ripe_of r)) (kept p q (unripe_of r)) h g);
    unripe_lawful = λ k q h. subst (λ hs. IsLawfullyHeld k hs) (sym (unripe_none q)) tt;
    fd_bounded = (let a = sound.fd_below in let b = sound.rd_bounded in omega (arith, a, b));
    ends = AsChosen (λ n q cs. subst (ShownAs (end_in p n fd r q cs)) (sym (end_published n fd q cs)) (shown_published (end_in p n fd r q cs)));
  }
