-- What a feasible next hop of a router is: over a port that is up, whose neighbour reported less than the feasible distance.
use Rattle.std.proofs.Common.{refl, sym, ap, subst, ◌∙◌, arith, inl, inr, ◌≡◌, ◌⊎◌, ℕ, zero, suc, ◌+◌, ◌<◌, Bool, true, false, nat_lt, if◌then◌else◌, List, [], ◌∷◌, map, Some, slice_get, ltb-true}
use Rattle.no_packet_loops.proofs.Common.{and_parts, none-some, Some_injective, Prefix, Router, NextHop, machine_of, session_at, is_up_at, reported_at, Neighbour}
use Rattle.network_model.proofs.Common.{distance}
use Rattle.network_model.specs.NextHops.{passing_from}
use Rattle.many_ways.specs.{Network.Among, Packets.is_low, Packets.hop_over, Packets.feasible_hops}

-- ---- lists

-- the element stands in the list
abbrev pub Stands : {A : Type 0} → A → List A → Type 0
Stands x [] = ⊥
Stands x (y ∷ ys) = (x ≡ y) ⊎ Stands x ys

pub stands : {A : Type 0} (x : A) (xs : List A) (k : ℕ) → slice_get xs k ≡ Some x → Stands x xs
stands x [] k at = absurd (none-some x at)
stands x (y ∷ ys) zero at = inl (sym (Some_injective at))
stands x (y ∷ ys) (suc k) at = inr (stands x ys k at)

pub among : (h : NextHop) (hs : List NextHop) → Stands h hs → Among h hs
among h [] s = absurd s
among h (x ∷ xs) (inl e) = (zero, ap Some (sym e))
among h (x ∷ xs) (inr s) = let a = among h xs s in (suc a.0, a.1)

pub in_map : {A B : Type 0} (f : A → B) (y : B) (xs : List A) → Stands y (map f xs) → (x : A) × Stands x xs × (y ≡ f x)
in_map f y [] s = absurd s
in_map f y (x ∷ xs) (inl e) = (x, inl refl, e)
in_map f y (x ∷ xs) (inr s) = let r = in_map f y xs s in (r.0, inr r.1, r.2)

pub map_in : {A B : Type 0} (f : A → B) (x : A) (xs : List A) → Stands x xs → Stands (f x) (map f xs)
map_in f x [] s = absurd s
map_in f x (y ∷ ys) (inl e) = inl (ap f e)
map_in f x (y ∷ ys) (inr s) = inr (map_in f x ys s)

-- ---- those that pass

-- the neighbour at this place passes, and this is its port
pub record Passing (test : Neighbour → Bool) (q : ℕ) (ns : List Neighbour) (port : ℕ) : Type 0 where
  pub place : ℕ
  pub neighbour : Neighbour
  pub at : slice_get ns place ≡ Some neighbour
  pub passes : test neighbour ≡ true
  pub port_is : port ≡ q + place

-- what holds of each neighbour that passes, by its distance and its port, holds of all that are listed
pub all_passing : (P : ℕ × ℕ → Type 0) (test : Neighbour → Bool) (q : ℕ) (ns : List Neighbour) → ((k : ℕ) (n : Neighbour) → slice_get ns k ≡ Some n → test n ≡ true → P (distance n, q + k))
    → (x : ℕ × ℕ) → Stands x (passing_from test q ns) → P x
all_passing P test q [] each x s = absurd s
all_passing P test q (n ∷ ns) each x s = by_test (all_passing P test (suc q) ns (λ k m at passes. subst (λ (a : ℕ). P (distance m, a)) (omega arith) (each (suc k) m at passes)) x) (test n) refl s
  where
    by_test : (Stands x (passing_from test (suc q) ns) → P x) → (b : Bool) → test n ≡ b → Stands x (if b then (distance n, q) ∷ passing_from test (suc q) ns else passing_from test (suc q) ns) → P x
    by_test rest true is (inl e) = let here : q + 0 ≡ q = omega arith in subst P (sym e) (subst (λ (a : ℕ). P (distance n, a)) here (each 0 n refl is))
    by_test rest true is (inr t) = rest t
    by_test rest false is t = rest t

pub in_passing : (test : Neighbour → Bool) (q : ℕ) (ns : List Neighbour) (x : ℕ × ℕ) → Stands x (passing_from test q ns) → Passing test q ns x.1
in_passing test q ns x s = all_passing (λ (y : ℕ × ℕ). Passing test q ns y.1) test q ns (λ k n at passes. record { place = k; neighbour = n; at = at; passes = passes; port_is = refl }) x s

-- and each neighbour that passes is among them
pub passing_in : (test : Neighbour → Bool) (q : ℕ) (ns : List Neighbour) (k : ℕ) (n : Neighbour) (port : ℕ) → slice_get ns k ≡ Some n → test n ≡ true → port ≡ q + k → Stands (distance n, port) (passing_from test q ns)
passing_in test q [] k n port at passes is = absurd (none-some n at)
passing_in test q (x ∷ xs) zero n port at passes is =
    let same : n ≡ x = sym (Some_injective at) in
    let here : port ≡ q = omega (arith, is) in
    subst (λ (b : Bool). Stands (distance n, port) (if b then (distance x, q) ∷ passing_from test (suc q) xs else passing_from test (suc q) xs)) (sym (ap test (Some_injective at) ∙ passes))
    (inl (λ i. (distance (same i), here i)))
passing_in test q (x ∷ xs) (suc k) n port at passes is = by_test (test x) (passing_in test (suc q) xs k n port at passes (omega (arith, is)))
  where
    by_test : (b : Bool) → Stands (distance n, port) (passing_from test (suc q) xs) → Stands (distance n, port) (if b then (distance x, q) ∷ passing_from test (suc q) xs else passing_from test (suc q) xs)
    by_test true s = inr s
    by_test false s = s

-- where none passes there are none
pub none_passing : (test : Neighbour → Bool) (q : ℕ) (ns : List Neighbour) → ((k : ℕ) (n : Neighbour) → slice_get ns k ≡ Some n → test n ≡ false) → passing_from test q ns ≡ []
none_passing test q [] fail = refl
none_passing test q (n ∷ ns) fail = ap (λ b. if b then (distance n, q) ∷ passing_from test (suc q) ns else passing_from test (suc q) ns) (fail 0 n refl) ∙ none_passing test (suc q) ns (λ k m at. fail (suc k) m at)

-- ---- a router

-- one among those of a router is over a port that is up, in the session that the router saw last, to a neighbour that reported less
pub record FeasibleHop (p : Prefix) (r : Router) (h : NextHop) : Type 0 where
  pub up : is_up_at (machine_of r p) h.port ≡ true
  pub session_is : h.session ≡ session_at r.ports h.port
  pub low : reported_at (machine_of r p) h.port < (machine_of r p).fd

pub feasible_hop : (p : Prefix) (r : Router) (h : NextHop) → Among h (feasible_hops p r) → FeasibleHop p r h
feasible_hop p r h a =
    let m = machine_of r p in
    let (x, s, is) = in_map (hop_over r) h (passing_from (is_low m.fd) 0 m.ports) (stands h (feasible_hops p r) a.0 a.1) in
    let P = in_passing (is_low m.fd) 0 m.ports x s in
    let n = P.neighbour in
    let both = and_parts n.up (nat_lt n.reported m.fd) P.passes in
    let port : h.port ≡ x.1 = ap (λ (y : NextHop). y.port) is in
    let e = P.port_is in
    let place : h.port ≡ P.place = omega (arith, port, e) in
    let at : slice_get m.ports h.port ≡ Some n = ap (slice_get m.ports) place ∙ P.at in
    record { up = rw at both.0; session_is = ap (λ (y : NextHop). y.session) is ∙ ap (session_at r.ports) (sym port); low = rw at (ltb-true n.reported m.fd both.1) }
