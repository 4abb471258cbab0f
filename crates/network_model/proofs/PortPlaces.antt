-- The port of a place: which of a router's ports lies at an end of a link.
use Rattle.std.proofs.Common.{refl, sym, ap, subst, arith, ◌≡◌, ℕ, zero, suc, ◌+◌, Bool, true, false, ◌==◌, if◌then◌else◌, List, ◌∷◌, [], Some, None, slice_get, option_map, eqb-true}
use Rattle.std.specs.List.{cons_option}
use Rattle.network_model.specs.{declared.network.End.End, declared.network.End.TheVariants.A, declared.network.End.TheVariants.B, declared.network.LinkSpec.LinkSpec, declared.network.Place.Place, World.places_from, World.router_end}
use Rattle.network_model.proofs.ListLaws.{Some_injective, None_not_Some}

-- one port for a link that ends at the router
abbrev pub one_if_at : ℕ → LinkSpec → ℕ
one_if_at i s = if s.a == i then 1 else if s.b == i then 1 else 0

-- how many ports router i has on the links before number k
abbrev pub ports_before : ℕ → ℕ → List LinkSpec → ℕ
ports_before (suc k) i (s ∷ ss) = one_if_at i s + ports_before k i ss
ports_before _ i _ = 0

-- the place at this end of link l
abbrev pub place_of : ℕ → End → Place
place_of l e = record { link = l; end = e }

-- port q of router i has this place, on a link that ends at the router, with q ports of the router on the links before
pub record IsPort (l i : ℕ) (ss : List LinkSpec) (q : ℕ) (x : Place) : Type 0 where
  pub number : ℕ
  pub spec : LinkSpec
  pub link_is : x.link ≡ l + number
  pub is_link : slice_get ss number ≡ Some spec
  pub router_is : router_end x.end spec ≡ i
  pub port_is : ports_before number i ss ≡ q

module _ (l i : ℕ) (s : LinkSpec) (ss : List LinkSpec) (x : Place) (deeper : (k : ℕ) → slice_get (places_from (l + 1) i ss) k ≡ Some x → IsPort (l + 1) i ss k x) where
  -- a port among the later links is one among all, after those on the first link
  later : (q m r : ℕ) → one_if_at i s ≡ m → m + r ≡ q → IsPort (l + 1) i ss r x → IsPort l i (s ∷ ss) q x
  later q m r one is P = record {
    number = suc P.number;
    spec = P.spec;
    link_is = omega (arith, P.link_is);
    is_link = P.is_link;
    router_is = P.router_is;
    port_is = omega (arith, P.port_is, one, is);
  }

  -- a place on the first link is port 0
  first : (q : ℕ) (en : End) → router_end en s ≡ i → place_of l en ≡ x → 0 ≡ q → IsPort l i (s ∷ ss) q x
  first q en at is port = record {
    number = 0;
    spec = s;
    link_is = (let e : x.link ≡ l = ap (λ (y : Place). y.link) (sym is) in omega (arith, e));
    is_link = refl;
    router_is = subst (λ (y : Place). router_end y.end s ≡ i) is at;
    port_is = port;
  }

  -- where the first link ends at the router, each port is that on it or one among the later links
  at_one : (q : ℕ) (en : End) → router_end en s ≡ i → one_if_at i s ≡ 1 → slice_get (place_of l en ∷ places_from (l + 1) i ss) q ≡ Some x → IsPort l i (s ∷ ss) q x
  at_one zero en at one h = first zero en at (Some_injective h) refl
  at_one (suc k) en at one h = later (suc k) 1 k one (omega arith) (deeper k h)

  -- so it is where the first link does not begin at the router, whether it ends there or not
  by_b : (q : ℕ) (b : Bool) → (s.a == i) ≡ false → (s.b == i) ≡ b → slice_get (cons_option (option_map (place_of l) (if b then Some B else None)) (places_from (l + 1) i ss)) q ≡ Some x → IsPort l i (s ∷ ss) q x
  by_b q true na eb h = at_one q B (eqb-true s.b i eb) (rw (na, eb) refl) h
  by_b q false na eb h = later q 0 q (rw (na, eb) refl) (omega arith) (deeper q h)

  -- so it is whether the first link begins at the router or not
  by_a : (q : ℕ) (b : Bool) → (s.a == i) ≡ b → slice_get (cons_option (option_map (place_of l) (if b then Some A else (if s.b == i then Some B else None))) (places_from (l + 1) i ss)) q ≡ Some x → IsPort l i (s ∷ ss) q x
  by_a q true ea h = at_one q A (eqb-true s.a i ea) (rw ea refl) h
  by_a q false na h = by_b q (s.b == i) na refl h

-- each place in the list of the places of router i is the port at its position
pub place_to_IsPort : (l i : ℕ) (ss : List LinkSpec) (q : ℕ) (x : Place) → slice_get (places_from l i ss) q ≡ Some x → IsPort l i ss q x
place_to_IsPort l i [] q x e = absurd (None_not_Some e)
place_to_IsPort l i (s ∷ ss) q x e = by_a l i s ss x (λ k. place_to_IsPort (l + 1) i ss k x) q (s.a == i) refl e
