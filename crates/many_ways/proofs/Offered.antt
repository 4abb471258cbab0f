-- Each next hop that a machine offers is feasible: over a port that is up, whose neighbour reported less than the feasible distance.
use Rattle.std.proofs.Common.{refl, sym, ap, subst, ◌∙◌, arith, inl, inr, ◌≡◌, ◌≢◌, ◌⊎◌, ℕ, zero, suc, ◌<◌, Bool, true, false, not, cond, ◌&&◌, ◌==◌, nat_lt, if◌then◌else◌, List, [], ◌∷◌, ◌++◌, map, filter, take, Option, Some, None, slice_get, unwrap_or, option_map, eqb-true, ltb-true}
use Rattle.no_packet_loops.proofs.Common.{find as row_of, and_parts, false≢true, find-map, infinity, least, is_port, Machine, Prefix, prefix_cmp, Router, machine_of, opening_machine, neighbours, session_at, NextHop, Neighbour, offered_hops, changed_hops, list_all, is_empty}
use Rattle.network_model.proofs.{Common.distance, Common.ways, HopLaws.hops_there, HopLaws.offered_rows, HopLaws.equal_not_one, HopLaws.feasible_not_one}
use Rattle.network_model.specs.{declared.network.Offer.Offer, declared.network.Offer.TheVariants.One, declared.network.Offer.TheVariants.Equal, declared.network.Offer.TheVariants.Feasible, Step.has_hops}
use Rattle.network_model.specs.NextHops.{may_forward, is_offered, most_offered, passing_from, with_nearer, nearest_first, own_first, is_local, offered_ports, hops_of, hops_by_prefix, hops_at}
use Rattle.no_packet_loops.proofs.Quiet.{nothing_filtered, row_passes}
use Rattle.many_ways.specs.{Network.Among, Packets.is_low, Packets.hop_over, Packets.feasible_hops}
use Rattle.many_ways.proofs.Feasible.{Stands, stands, among, in_map, map_in, Passing, in_passing, passing_in}

-- ---- lists

in_take : {A : Type 0} (n : ℕ) (x : A) (xs : List A) → Stands x (take n xs) → Stands x xs
in_take zero x xs s = absurd s
in_take (suc n) x [] s = absurd s
in_take (suc n) x (y ∷ ys) (inl e) = inl e
in_take (suc n) x (y ∷ ys) (inr s) = inr (in_take n x ys s)

in_append : {A : Type 0} (x : A) (xs ys : List A) → Stands x (xs ++ ys) → Stands x xs ⊎ Stands x ys
in_append x [] ys s = inr s
in_append x (y ∷ xs) ys (inl e) = inl (inl e)
in_append x (y ∷ xs) ys (inr s) = elim (in_append x xs ys s) [ inl a ↦ inl (inr a) | inr b ↦ inr b ]

in_filter : {A : Type 0} (f : A → Bool) (x : A) (xs : List A) → Stands x (filter f xs) → Stands x xs
in_filter f x [] s = absurd s
in_filter f x (y ∷ ys) s = by_test (λ t. in_filter f x ys t) (f y) s
  where
    by_test : (Stands x (filter f ys) → Stands x ys) → (b : Bool) → Stands x (cond b (y ∷ filter f ys) (filter f ys)) → Stands x (y ∷ ys)
    by_test rest true (inl e) = inl e
    by_test rest true (inr t) = inr (rest t)
    by_test rest false t = inr (rest t)

-- ---- the nearest first, of equal ones the successor

in_nearer : (x y : ℕ × ℕ) (ys : List (ℕ × ℕ)) → Stands x (with_nearer y ys) → (x ≡ y) ⊎ Stands x ys
in_nearer x y [] (inl e) = inl e
in_nearer x y [] (inr s) = absurd s
in_nearer x y (z ∷ zs) s = by_test (λ t. in_nearer x y zs t) (nat_lt z.0 y.0) s
  where
    by_test : (Stands x (with_nearer y zs) → (x ≡ y) ⊎ Stands x zs) → (b : Bool) → Stands x (if b then z ∷ with_nearer y zs else y ∷ z ∷ zs) → (x ≡ y) ⊎ Stands x (z ∷ zs)
    by_test rest true (inl e) = inr (inl e)
    by_test rest true (inr t) = elim (rest t) [ inl e ↦ inl e | inr u ↦ inr (inr u) ]
    by_test rest false (inl e) = inl e
    by_test rest false (inr t) = inr t

pub in_nearest : (x : ℕ × ℕ) (xs : List (ℕ × ℕ)) → Stands x (nearest_first xs) → Stands x xs
in_nearest x [] s = absurd s
in_nearest x (y ∷ ys) s = elim (in_nearer x y (nearest_first ys) s) [ inl e ↦ inl e | inr t ↦ inr (in_nearest x ys t) ]

pub in_own : (p : Option ℕ) (x : ℕ × ℕ) (xs : List (ℕ × ℕ)) → Stands x (own_first p xs) → Stands x xs
in_own p x xs s = elim (in_append x (filter (λ y. is_port y.1 p) xs) (filter (λ y. not (is_port y.1 p)) xs) s) [
  | inl a ↦ in_filter (λ y. is_port y.1 p) x xs a
  | inr b ↦ in_filter (λ y. not (is_port y.1 p)) x xs b
]

-- ---- a machine

-- each port that it offers is that of a neighbour that passes
pub port_passes : (o : Offer) (m : Machine) (q : ℕ) → Stands q (offered_ports o m) → Passing (is_offered o m) 0 m.ports q
port_passes o m q s = by_place (is_local m) s
  where
    by_place : (b : Bool) → Stands q (if b then [] else map (λ x. x.1) (take (most_offered o) (nearest_first (own_first m.successor (passing_from (is_offered o m) 0 m.ports))))) → Passing (is_offered o m) 0 m.ports q
    by_place true t = absurd t
    by_place false t =
        let passing : List (ℕ × ℕ) = passing_from (is_offered o m) 0 m.ports in
        let in_order : List (ℕ × ℕ) = own_first m.successor passing in
        let r = in_map (λ (x : ℕ × ℕ). x.1) q (take (most_offered o) (nearest_first in_order)) t in
        let P = in_passing (is_offered o m) 0 m.ports r.0 (in_own m.successor r.0 passing (in_nearest r.0 in_order (in_take (most_offered o) r.0 (nearest_first in_order) r.1))) in
        subst (Passing (is_offered o m) 0 m.ports) (sym r.2) P

-- one that passes may forward
pub passing_forwards : (o : Offer) (m : Machine) (n : Neighbour) → is_offered o m n ≡ true → may_forward m.fd n ≡ true
passing_forwards One m n h = absurd (false≢true h)
passing_forwards (Equal most) m n h = (and_parts (may_forward m.fd n) (distance n == least (ways m)) h).0
passing_forwards (Feasible most) m n h = h

-- each next hop that it offers is over such a port
pub hop_passes : (o : Offer) (session : ℕ → ℕ) (m : Machine) (h : NextHop) → Stands h (hops_of o session m) → Passing (is_offered o m) 0 m.ports h.port × (h.session ≡ session h.port)
hop_passes o session m h s =
    let r = in_map (λ (q : ℕ). record { port = q; session = session q }) h (offered_ports o m) s in
    let port : h.port ≡ r.0 = ap (λ (x : NextHop). x.port) r.2 in
    (subst (Passing (is_offered o m) 0 m.ports) (sym port) (port_passes o m r.0 r.1), ap (λ (x : NextHop). x.session) r.2 ∙ ap session (sym port))

-- ---- a router

-- the next hops of a prefix are those of its machine
pub hops_of_machine : (o : Offer) (session : ℕ → ℕ) (ms : List (Prefix × Machine)) (p : Prefix) (h : NextHop) → Stands h (hops_at p (hops_by_prefix o session ms)) → (m : Machine) × (row_of prefix_cmp p ms ≡ Some m) × Stands h (hops_of o session m)
hops_of_machine o session ms p h s = by_offer o s
  where
    by_row : (o : Offer) (x : Option Machine) → row_of prefix_cmp p ms ≡ x → Stands h (unwrap_or (option_map (λ m. hops_of o session m) x) []) → (m : Machine) × (row_of prefix_cmp p ms ≡ Some m) × Stands h (hops_of o session m)
    by_row o None is t = absurd t
    by_row o (Some m) is t = (m, is, t)

    by_offer : (o : Offer) → Stands h (hops_at p (hops_by_prefix o session ms)) → (m : Machine) × (row_of prefix_cmp p ms ≡ Some m) × Stands h (hops_of o session m)
    by_offer One t = absurd t
    by_offer (Equal most) t = by_row (Equal most) (row_of prefix_cmp p ms) refl (subst (λ y. Stands h (unwrap_or y [])) (find-map prefix_cmp (λ m. hops_of (Equal most) session m) p ms) t)
    by_offer (Feasible most) t = by_row (Feasible most) (row_of prefix_cmp p ms) refl (subst (λ y. Stands h (unwrap_or y [])) (find-map prefix_cmp (λ m. hops_of (Feasible most) session m) p ms) t)

-- each is over a port of its machine, in the session that the router saw there last, and the neighbour passes
pub record OfferedAt (p : Prefix) (r : Router) (h : NextHop) : Type 0 where
  pub neighbour : Neighbour
  pub at : slice_get (machine_of r p).ports h.port ≡ Some neighbour
  pub passes : is_offered (r.hops).offer (machine_of r p) neighbour ≡ true
  pub session_is : h.session ≡ session_at r.ports h.port

pub offered_at : (p : Prefix) (r : Router) (h : NextHop) → Among h (hops_at p (offered_hops r)) → OfferedAt p r h
offered_at p r h a =
    let (m, is, s) = hops_of_machine (r.hops).offer (session_at r.ports) r.machines p h (stands h (hops_at p (offered_hops r)) a.0 a.1) in
    let (P, seen) = hop_passes (r.hops).offer (session_at r.ports) m h s in
    let machine : machine_of r p ≡ m = ap (λ o. unwrap_or o (opening_machine None (neighbours r.ports))) is in
    let e = P.port_is in
    let place : h.port ≡ P.place = omega (arith, e) in
    record {
      neighbour = P.neighbour;
      at = ap (slice_get (machine_of r p).ports) place ∙ ap (λ (x : Machine). slice_get x.ports P.place) machine ∙ P.at;
      passes = subst (λ (x : Machine). is_offered (r.hops).offer x P.neighbour ≡ true) (sym machine) P.passes;
      session_is = seen;
    }

-- so each is feasible
pub offers_feasible : (p : Prefix) (r : Router) (h : NextHop) → Among h (hops_at p (offered_hops r)) → Among h (feasible_hops p r)
offers_feasible p r h a =
    let P = offered_at p r h a in
    let m = machine_of r p in
    let low = and_parts (is_low m.fd P.neighbour) (nat_lt (distance P.neighbour) infinity) (passing_forwards (r.hops).offer m P.neighbour P.passes) in
    let s = map_in (hop_over r) (distance P.neighbour, h.port) (passing_from (is_low m.fd) 0 m.ports) (passing_in (is_low m.fd) 0 m.ports h.port P.neighbour h.port P.at low.0 (omega arith)) in
    among h (feasible_hops p r) (subst (λ (y : NextHop). Stands y (feasible_hops p r)) (λ i. record { port = h.port; session = sym P.session_is i }) s)

-- one of equal cost is at the least distance, and within reach
pub record EqualAt (p : Prefix) (r : Router) (h : NextHop) : Type 0 where
  pub neighbour : Neighbour
  pub at : slice_get (machine_of r p).ports h.port ≡ Some neighbour
  pub equal : distance neighbour ≡ least (ways (machine_of r p))
  pub reached : distance neighbour < infinity

pub equal_at : (most : ℕ) (p : Prefix) (r : Router) (h : NextHop) → (r.hops).offer ≡ Equal most → Among h (hops_at p (offered_hops r)) → EqualAt p r h
equal_at most p r h equal a =
    let P = offered_at p r h a in
    let m = machine_of r p in
    let x = P.neighbour in
    let tests = and_parts (may_forward m.fd x) (distance x == least (ways m)) (subst (λ (o : Offer). is_offered o m x ≡ true) equal P.passes) in
    record {
      neighbour = x;
      at = P.at;
      equal = eqb-true (distance x) (least (ways m)) tests.1;
      reached = ltb-true (distance x) infinity (and_parts (x.up && nat_lt x.reported m.fd) (nat_lt (distance x) infinity) tests.0).1;
    }

-- a router that offers no next hops beside its rows has published none
abbrev pub OneAlone : Router → Type 0
OneAlone r = (r.hops).offer ≡ One → (r.hops).published ≡ []

-- what a router offers of a prefix is what its machine does, if a row may have more than one next hop
pub offered_row : (p : Prefix) (r : Router) → (r.hops).offer ≢ One → row_of prefix_cmp p (offered_hops r) ≡ option_map (λ m. hops_of (r.hops).offer (session_at r.ports) m) (row_of prefix_cmp p r.machines)
offered_row p r many = ap (row_of prefix_cmp p) (offered_rows (r.hops).offer many (session_at r.ports) r.machines) ∙ find-map prefix_cmp (λ m. hops_of (r.hops).offer (session_at r.ports) m) p r.machines

-- what a router published of a prefix is what it offers, where nothing differs, and it published none of a prefix that is unheard
pub offered_now : (p : Prefix) (r : Router) → OneAlone r → (row_of prefix_cmp p r.machines ≡ None → hops_at p (r.hops).published ≡ []) → is_empty (changed_hops r) ≡ true → hops_at p (r.hops).published ≡ hops_at p (offered_hops r)
offered_now p r alone unheard quiet = by_offer (r.hops).offer refl
  where
    hops_of_it : Machine → List NextHop
    hops_of_it m = hops_of (r.hops).offer (session_at r.ports) m

    all : list_all (has_hops (r.hops).published) (offered_hops r) ≡ true
    all = nothing_filtered (has_hops (r.hops).published) (offered_hops r) quiet

    by_machine : ((r.hops).offer ≢ One) → (o : Option Machine) → row_of prefix_cmp p r.machines ≡ o → hops_at p (r.hops).published ≡ hops_at p (offered_hops r)
    by_machine many None is = unheard is ∙ sym (ap (λ y. unwrap_or y []) (offered_row p r many ∙ ap (option_map hops_of_it) is))
    by_machine many (Some m) is =
        let there : row_of prefix_cmp p (offered_hops r) ≡ Some (hops_of_it m) = offered_row p r many ∙ ap (option_map hops_of_it) is in
        ap (λ y. unwrap_or y []) (hops_there p (r.hops).published (hops_of_it m) (row_passes p (has_hops (r.hops).published) (offered_hops r) all (hops_of_it m) there))
        ∙ sym (ap (λ y. unwrap_or y []) there)

    by_offer : (o : Offer) → (r.hops).offer ≡ o → hops_at p (r.hops).published ≡ hops_at p (offered_hops r)
    by_offer One is = ap (hops_at p) (alone is) ∙ sym (ap (λ (o : Offer). hops_at p (hops_by_prefix o (session_at r.ports) r.machines)) is)
    by_offer (Equal most) is = by_machine (λ one. equal_not_one most (sym is ∙ one)) (row_of prefix_cmp p r.machines) refl
    by_offer (Feasible most) is = by_machine (λ one. feasible_not_one most (sym is ∙ one)) (row_of prefix_cmp p r.machines) refl
