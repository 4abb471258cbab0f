-- The first next hop that a passive machine offers is that of its row: its neighbour is at the least distance, and comes before others at that.
use Rattle.std.proofs.Common.{refl, sym, ap, subst, ◌∙◌, arith, inl, inr, ◌≡◌, ◌≢◌, ℕ, zero, suc, ◌+◌, ◌<◌, ◌≤◌, Bool, true, false, not, cond, ◌&&◌, ◌==◌, nat_lt, if◌then◌else◌, List, [], ◌∷◌, ◌++◌, map, filter, take, Option, Some, None, slice_get, option_map, unwrap_or, eqb-true, eq-eqb, ne_eqb, lt-ltb}
use Rattle.std.proofs.lemmas.Bool.{le-ltb}
use Rattle.no_packet_loops.proofs.Common.{find as row_of, option_map_or, and_from, None_not_Some, Prefix, prefix_cmp, Router, machine_of, opening_machine, neighbours, offered_hops, Some_injective, slice_get_within, slice_get-map, infinity, least, is_port, Machine, port_count, Entry, Via, Local, Unreachable, Port, entry_of, session_at, NextHop, Neighbour}
use Rattle.network_model.proofs.Common.{both_ways, cases_lt, distance, ways}
use Rattle.network_model.specs.{declared.network.Offer.Offer, declared.network.Offer.TheVariants.One, declared.network.Offer.TheVariants.Equal, declared.network.Offer.TheVariants.Feasible}
use Rattle.network_model.specs.NextHops.{hops_at, may_forward, is_offered, most_offered, passing_from, with_nearer, nearest_first, own_first, is_local, offered_ports, hops_of}
use Rattle.machine_laws.specs.Laws.{IsSound, is_active, is_up_at, reported_at}
use Rattle.machine_laws.proofs.{Distances.least_below, Lists.append_within}
use Rattle.many_ways.proofs.{Feasible.Stands, Feasible.all_passing, Feasible.passing_in, AtQuiet.neighbour_at, Offered.in_nearest, Offered.in_own, Offered.offered_row}

-- where something in a list passes there is a first that does
first_passing : {A : Type 0} (f : A → Bool) (x : A) (xs : List A) → Stands x xs → f x ≡ true → (z : A) × (zs : List A) × (filter f xs ≡ z ∷ zs) × (f z ≡ true) × Stands z xs
first_passing f x [] s passes = absurd s
first_passing {A} f x (y ∷ ys) s passes = by_test (λ t. first_passing f x ys t passes) (f y) refl s
  where
    by_test : (Stands x ys → (z : A) × (zs : List A) × (filter f ys ≡ z ∷ zs) × (f z ≡ true) × Stands z ys) → (b : Bool) → f y ≡ b → Stands x (y ∷ ys) → (z : A) × (zs : List A) × (filter f (y ∷ ys) ≡ z ∷ zs) × (f z ≡ true) × Stands z (y ∷ ys)
    by_test rest true is t = (y, filter f ys, ap (λ b. cond b (y ∷ filter f ys) (filter f ys)) is, is, inl refl)
    by_test rest false is (inl e) = absurd (both_ways (f y) is (ap f (sym e) ∙ passes))
    by_test rest false is (inr t) =
        let (z, zs, list, pass, there) = rest t in
        (z, zs, ap (λ b. cond b (y ∷ filter f ys) (filter f ys)) is ∙ list, pass, inr there)

-- where none of the others is nearer the first stays first
stays_first : (x : ℕ × ℕ) (ys : List (ℕ × ℕ)) → ((y : ℕ × ℕ) → Stands y ys → x.0 ≤ y.0) → (zs : List (ℕ × ℕ)) × (nearest_first (x ∷ ys) ≡ x ∷ zs)
stays_first x ys far = by_rest (nearest_first ys) (λ y s. far y (in_nearest y ys s))
  where
    by_rest : (us : List (ℕ × ℕ)) → ((y : ℕ × ℕ) → Stands y us → x.0 ≤ y.0) → (zs : List (ℕ × ℕ)) × (with_nearer x us ≡ x ∷ zs)
    by_rest [] far' = ([], refl)
    by_rest (u ∷ us) far' = (u ∷ us, ap (λ b. if b then u ∷ with_nearer x us else x ∷ u ∷ us) (le-ltb u.0 x.0 (far' u (inl refl))))

first_taken : (k : ℕ) (x : ℕ × ℕ) (xs : List (ℕ × ℕ)) → 0 < k → slice_get (map (λ (y : ℕ × ℕ). y.1) (take k (x ∷ xs))) 0 ≡ Some x.1
first_taken zero x xs some = absurd (omega (arith, some))
first_taken (suc k) x xs some = refl

-- the port of the successor is offered first, if its neighbour is offered and at the least distance
module _ (o : Offer) (m : Machine) (q : ℕ) (x : Neighbour) (chosen : m.successor ≡ Some q) (at : slice_get m.ports q ≡ Some x) (nearest : distance x ≡ least (ways m)) where
  -- each neighbour that is offered is no nearer, and one at that port is at that distance
  abbrev Far : ℕ × ℕ → Type 0
  Far y = (least (ways m) ≤ y.0) × (y.1 ≡ q → y.0 ≡ least (ways m))

  abbrev offered : List (ℕ × ℕ)
  offered = passing_from (is_offered o m) 0 m.ports

  far : (y : ℕ × ℕ) → Stands y offered → Far y
  far y s = all_passing Far (is_offered o m) 0 m.ports each y s
    where
      each : (k : ℕ) (n : Neighbour) → slice_get m.ports k ≡ Some n → is_offered o m n ≡ true → Far (distance n, 0 + k)
      each k n is _ = (
        least_below (ways m) k n (append_within m.ports _ k (slice_get_within m.ports k n is) ∙ is),
        λ e. (let port : k ≡ q = omega (arith, e) in ap distance (Some_injective (sym is ∙ ap (slice_get m.ports) port ∙ at)) ∙ nearest),
      )

  module _ (passes : is_offered o m x ≡ true) where
    abbrev is_own : ℕ × ℕ → Bool
    is_own y = is_port y.1 m.successor

    -- it is the first of those at that port, and so before the others
    own : (y : ℕ × ℕ) × (ys : List (ℕ × ℕ)) × (filter is_own offered ≡ y ∷ ys) × (is_own y ≡ true) × Stands y offered
    own = first_passing is_own (distance x, q) offered (passing_in (is_offered o m) 0 m.ports q x q at passes (omega arith)) (ap (is_port q) chosen ∙ eq-eqb q q refl)

    others : List (ℕ × ℕ)
    others = own.1 ++ filter (λ y. not (is_own y)) offered

    in_order : own_first m.successor offered ≡ own.0 ∷ others
    unfolding others
    in_order = ap (λ ys. ys ++ filter (λ y. not (is_own y)) offered) own.2

    port : (own.0).1 ≡ q
    port = eqb-true (own.0).1 q (sym (ap (is_port (own.0).1) chosen) ∙ own.3)

    head : (ys : List (ℕ × ℕ)) × (nearest_first (own.0 ∷ others) ≡ own.0 ∷ ys)
    head = stays_first own.0 others (λ y s. (let near = (far own.0 own.4).1 port in let le = (far y (in_own m.successor y offered (subst (Stands y) (sym in_order) (inr s)))).0 in omega (arith, near, le)))

    own_port_first : is_local m ≡ false → 0 < most_offered o → slice_get (offered_ports o m) 0 ≡ Some q
    own_port_first on some =
        ap (λ b. slice_get (if b then [] else map (λ (y : ℕ × ℕ). y.1) (take (most_offered o) (nearest_first (own_first m.successor offered)))) 0) on
        ∙ ap (λ ys. slice_get (map (λ (y : ℕ × ℕ). y.1) (take (most_offered o) ys)) 0) (ap nearest_first in_order ∙ head.1)
        ∙ first_taken (most_offered o) own.0 head.0 some
        ∙ ap Some port

  -- such a neighbour is offered where any are, if packets may go to it
  own_offered : may_forward m.fd x ≡ true → 0 < most_offered o → is_offered o m x ≡ true
  own_offered may some = by_offer o some
    where
      by_offer : (o' : Offer) → 0 < most_offered o' → is_offered o' m x ≡ true
      by_offer One some' = absurd (omega (arith, some'))
      by_offer (Equal most) some' = and_from (may_forward m.fd x) (distance x == least (ways m)) may (eq-eqb (distance x) (least (ways m)) nearest)
      by_offer (Feasible most) some' = may

-- an entry over a link is that of a machine whose successor is this port, in the session there
record OverPort (ports : List Port) (m : Machine) (q session : ℕ) : Type 0 where
  chosen : m.successor ≡ Some q
  no_home : q ≢ port_count m
  session_is : session_at ports q ≡ session

over_port : (ports : List Port) (m : Machine) (q session : ℕ) → entry_of ports m ≡ Via q session → OverPort ports m q session
over_port ports m q session e = by_successor m.successor refl e
  where
    by_home : (k : ℕ) → m.successor ≡ Some k → (b : Bool) → (k == port_count m) ≡ b → (if b then Local else Via k (session_at ports k)) ≡ Via q session → OverPort ports m q session
    by_home k chosen true is g = absurd (local_via g)
      where
        local_via : ◌≡◌ {A = Entry} Local (Via q session) → ⊥
        local_via h = cc
    by_home k chosen false is g =
        let port : k ≡ q = port_same g in
        record {
          chosen = chosen ∙ ap Some port;
          no_home = λ home. both_ways (k == port_count m) is (eq-eqb k (port_count m) (port ∙ home));
          session_is = ap (session_at ports) (sym port) ∙ session_same g;
        }
      where
        port_same : ◌≡◌ {A = Entry} (Via k (session_at ports k)) (Via q session) → k ≡ q
        port_same h = cc

        session_same : ◌≡◌ {A = Entry} (Via k (session_at ports k)) (Via q session) → session_at ports k ≡ session
        session_same h = cc

    by_successor : (x : Option ℕ) → m.successor ≡ x → option_map_or (λ k. if k == port_count m then Local else Via k (session_at ports k)) x Unreachable ≡ Via q session → OverPort ports m q session
    by_successor None chosen g = absurd (lost_via g)
      where
        lost_via : ◌≡◌ {A = Entry} Unreachable (Via q session) → ⊥
        lost_via h = cc
    by_successor (Some k) chosen g = by_home k chosen (k == port_count m) refl g

-- so the first next hop of a passive machine is that of its entry, if that is over a link and the machine is within reach then
module _ (o : Offer) (ports : List Port) (m : Machine) (S : IsSound m) (passive : is_active m ≡ false) (q session : ℕ) (entry : entry_of ports m ≡ Via q session) (reach : is_up_at m q ≡ true → m.successor ≡ Some q → m.rd < infinity) (some : 0 < most_offered o) where
  over : OverPort ports m q session
  over = over_port ports m q session entry

  within : q < port_count m
  within = (let le = S.successor_within q over.chosen in elim (cases_lt q (port_count m)) [ inl l ↦ l | inr ge ↦ absurd (over.no_home (omega (arith, le, ge))) ])

  up : is_up_at m q ≡ true
  up = S.successor_up q over.chosen within

  there : (x : Neighbour) × (slice_get m.ports q ≡ Some x)
  there = neighbour_at m q up

  nearest : distance there.0 ≡ least (ways m)
  nearest = S.passive_attains q there.0 passive over.chosen (append_within m.ports _ q within ∙ there.1)

  may : may_forward m.fd there.0 ≡ true
  may =
      let x : Neighbour = there.0 in
      let low : x.reported < m.fd = (let l = S.passive_feasible q passive over.chosen up in let is : reported_at m q ≡ x.reported = rw there.1 refl in omega (arith, l, is)) in
      let near : distance x < infinity = (let l = S.passive_least passive in let r = reach up over.chosen in let e = nearest in omega (arith, l, r, e)) in
      and_from (x.up && nat_lt x.reported m.fd) (nat_lt (distance x) infinity) (and_from x.up (nat_lt x.reported m.fd) (rw there.1 at up) (lt-ltb x.reported m.fd low)) (lt-ltb (distance x) infinity near)

  first_port : slice_get (offered_ports o m) 0 ≡ Some q
  first_port = own_port_first o m q there.0 over.chosen there.1 nearest (own_offered o m q there.0 over.chosen there.1 nearest may some) (ap (is_port (port_count m)) over.chosen ∙ ne_eqb (port_count m) q (λ e. over.no_home (sym e))) some

  abbrev hop : ℕ → NextHop
  hop k = record { port = k; session = session_at ports k }

  first_hop : slice_get (hops_of o (session_at ports) m) 0 ≡ Some (record { port = q; session = session })
  first_hop = slice_get-map hop (offered_ports o m) 0 ∙ ap (option_map hop) first_port ∙ ap (λ (k : ℕ). Some (record { port = q; session = k })) over.session_is

-- and so the first that a router published, if it published what it offers
module _ (p : Prefix) (r : Router) (in_force : hops_at p (r.hops).published ≡ hops_at p (offered_hops r)) (S : IsSound (machine_of r p)) (passive : is_active (machine_of r p) ≡ false) (some : 0 < most_offered (r.hops).offer) where
  pub first_published : (q session : ℕ) → option_map (λ m. entry_of r.ports m) (row_of prefix_cmp p r.machines) ≡ Some (Via q session)
      → (is_up_at (machine_of r p) q ≡ true → (machine_of r p).successor ≡ Some q → (machine_of r p).rd < infinity) → slice_get (hops_at p (r.hops).published) 0 ≡ Some (record { port = q; session = session })
  first_published q session row reach = by_machine (row_of prefix_cmp p r.machines) refl
    where
      many : (r.hops).offer ≢ One
      many one = let none : most_offered (r.hops).offer ≡ 0 = ap most_offered one in omega (arith, none, some)

      by_machine : (x : Option Machine) → row_of prefix_cmp p r.machines ≡ x → slice_get (hops_at p (r.hops).published) 0 ≡ Some (record { port = q; session = session })
      by_machine None is = absurd (None_not_Some (sym (ap (option_map (λ m. entry_of r.ports m)) is) ∙ row))
      by_machine (Some m) is =
          let own : machine_of r p ≡ m = ap (λ y. unwrap_or y (opening_machine None (neighbours r.ports))) is in
          let within : is_up_at m q ≡ true → m.successor ≡ Some q → m.rd < infinity = subst (λ (y : Machine). is_up_at y q ≡ true → y.successor ≡ Some q → y.rd < infinity) own reach in
          ap (λ (hs : List NextHop). slice_get hs 0) (in_force ∙ ap (λ y. unwrap_or y []) (offered_row p r many ∙ ap (option_map (λ y. hops_of (r.hops).offer (session_at r.ports) y)) is))
          ∙ first_hop (r.hops).offer r.ports m (subst IsSound own S) (ap is_active (sym own) ∙ passive) q session (Some_injective (sym (ap (option_map (λ y. entry_of r.ports y)) is) ∙ row)) within some
