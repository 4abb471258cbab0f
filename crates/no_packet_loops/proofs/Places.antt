-- The places of a network's links: each end of each link is one port of one router.
use Rattle.std.proofs.Common.{refl, sym, ap, ◌∙◌, arith, ◌≡◌, ◌≢◌, ℕ, zero, suc, ◌+◌, ◌<◌, Bool, true, false, ◌==◌, if◌then◌else◌, List, [], ◌∷◌, Option, Some, None, is_some, slice_get, option_map, option_and_then, eq-eqb, ne_eqb}
use Rattle.no_packet_loops.proofs.Common.{option_map_or, false≢true, End, A, B, Place, LinkSpec, Network, other, places_from, opening, Some_injective, None_not_Some, listed_at, listed_within, router_end, one_if_at, ports_before, place_of, IsPort, place_to_IsPort, LinkEnd, at_port, lay, Topology, cons_option}
use Rattle.no_packet_loops.specs.LinkEnds.{across}
use Rattle.no_packet_loops.proofs.Wiring.{IsWiredLink, IsWired}

-- a first link that ends at the router has its port 0, at that end
front_at : (l i : ℕ) (s : LinkSpec) (ss : List LinkSpec) (e : End) → router_end e s ≡ i → s.a ≢ s.b → slice_get (places_from l i (s ∷ ss)) 0 ≡ Some (place_of l e)
front_at l i s ss A at apart = rw (eq-eqb s.a i at) refl
front_at l i s ss B at apart = rw (ne_eqb s.a i (λ p. apart (p ∙ sym at)), eq-eqb s.b i at) refl

-- the ports of the later links follow that on the first, if it has one
behind : (l i : ℕ) (s : LinkSpec) (ss : List LinkSpec) (k : ℕ) → slice_get (places_from l i (s ∷ ss)) (one_if_at i s + k) ≡ slice_get (places_from (l + 1) i ss) k
behind l i s ss k = by_a (s.a == i)
  where
    one_more : (y : Place) (ys : List Place) → slice_get (y ∷ ys) (1 + k) ≡ slice_get ys k
    one_more y ys = let e : 1 + k ≡ suc k = omega arith in ap (slice_get (y ∷ ys)) e

    no_more : (ys : List Place) → slice_get ys (0 + k) ≡ slice_get ys k
    no_more ys = let e : 0 + k ≡ k = omega arith in ap (slice_get ys) e

    by_b : (b : Bool) → slice_get (cons_option (option_map (place_of l) (if b then Some B else None)) (places_from (l + 1) i ss)) ((if b then 1 else 0) + k) ≡ slice_get (places_from (l + 1) i ss) k
    by_b true = one_more (place_of l B) (places_from (l + 1) i ss)
    by_b false = no_more (places_from (l + 1) i ss)

    by_a : (b : Bool) → slice_get (cons_option (option_map (place_of l) (if b then Some A else (if s.b == i then Some B else None))) (places_from (l + 1) i ss)) ((if b then 1 else if s.b == i then 1 else 0) + k) ≡ slice_get (places_from (l + 1) i ss) k
    by_a true = one_more (place_of l A) (places_from (l + 1) i ss)
    by_a false = by_b (s.b == i)

-- the end of link k at router i is the port numbered by the ports of the links before
port_there : (l i : ℕ) (ss : List LinkSpec) (k : ℕ) (s : LinkSpec) (e : End) → slice_get ss k ≡ Some s → router_end e s ≡ i → s.a ≢ s.b
    → slice_get (places_from l i ss) (ports_before k i ss) ≡ Some (place_of (l + k) e)
port_there l i [] k s e is at apart = absurd (None_not_Some is)
port_there l i (x ∷ xs) zero s e is at apart =
    let same : x ≡ s = Some_injective is in
    let sum : l ≡ l + 0 = omega arith in
    front_at l i x xs e (ap (router_end e) same ∙ at) (λ p. apart (sym (ap (λ (y : LinkSpec). y.a) same) ∙ p ∙ ap (λ (y : LinkSpec). y.b) same))
    ∙ ap (λ (m : ℕ). Some (place_of m e)) sum
port_there l i (x ∷ xs) (suc k) s e is at apart =
    let sum : (l + 1) + k ≡ l + suc k = omega arith in
    behind l i x xs (ports_before k i xs) ∙ port_there (l + 1) i xs k s e is at apart ∙ ap (λ (m : ℕ). Some (place_of m e)) sum

-- ---- a network

-- the router and the port of a place, on a link that is known
abbrev pub spot_on : Network → Place → LinkSpec → LinkEnd
spot_on n x s = at_port (router_end x.end s) (ports_before x.link (router_end x.end s) n.links)

-- the router and the port of a place
abbrev pub spot : Network → Place → LinkEnd
spot n x = option_map_or (spot_on n x) (slice_get n.links x.link) (at_port 0 0)

-- the router and the port across the link; the port itself where it has no place
abbrev pub far : Network → LinkEnd → LinkEnd
far n e = option_map_or (λ x. spot n (across x)) (lay n e) e

-- port e lies at place x: its router and its link are known, and the router is at that end of the link
pub record Laid (n : Network) (e : LinkEnd) (x : Place) : Type 0 where
  pub known : e.router < n.routers
  pub listed : slice_get (places_from 0 e.router n.links) e.port ≡ Some x
  pub spec : LinkSpec
  pub is_link : slice_get n.links x.link ≡ Some spec
  pub router_is : router_end x.end spec ≡ e.router
  pub spot_is : spot n x ≡ e

-- what is known of a port that lies at a place
pub laid : (n : Network) (e : LinkEnd) (x : Place) → lay n e ≡ Some x → Laid n e x
laid n e x is = by_list (slice_get (opening n).places e.router) refl is
  where
    by_port : (e.router < n.routers) → (h : slice_get (places_from 0 e.router n.links) e.port ≡ Some x) → IsPort 0 e.router n.links e.port x → Laid n e x
    by_port known h P =
        let link : P.number ≡ x.link = omega (arith, P.link_is) in
        let found : slice_get n.links x.link ≡ Some P.spec = ap (slice_get n.links) (sym link) ∙ P.is_link in
        let port : ports_before x.link e.router n.links ≡ e.port = ap (λ (k : ℕ). ports_before k e.router n.links) (sym link) ∙ P.port_is in
        record {
          known = known;
          listed = h;
          spec = P.spec;
          is_link = found;
          router_is = P.router_is;
          spot_is = ap (λ o. option_map_or (spot_on n x) o (at_port 0 0)) found
              ∙ ap (λ (k : ℕ). at_port k (ports_before x.link k n.links)) P.router_is
              ∙ ap (λ (q : ℕ). at_port e.router q) port;
        }

    by_list : (o : Option (List Place)) → slice_get (opening n).places e.router ≡ o → option_and_then (λ ps. slice_get ps e.port) o ≡ Some x → Laid n e x
    by_list None at h = absurd (None_not_Some h)
    by_list (Some ps) at h =
        let r = listed_within (λ i. places_from 0 i n.links) n.routers e.router ps at in
        let there : slice_get (places_from 0 e.router n.links) e.port ≡ Some x = ap (λ (ys : List Place). slice_get ys e.port) r.1 ∙ h in
        by_port r.0 there (place_to_IsPort 0 e.router n.links e.port x there)

module _ (n : Network) (N : IsWired n) where
  -- both ends of a wired link are routers of the network
  end_known : (s : LinkSpec) → IsWiredLink n.routers s → (e : End) → router_end e s < n.routers
  end_known s L A = L.a_known
  end_known s L B = L.b_known

  -- the port of a place lies at that place
  pub lay-spot : (x : Place) (s : LinkSpec) → slice_get n.links x.link ≡ Some s → lay n (spot n x) ≡ Some x
  lay-spot x s is =
      let i = router_end x.end s in
      let q = ports_before x.link i n.links in
      let L = N.are_links x.link s is in
      let sum : 0 + x.link ≡ x.link = omega arith in
      ap (lay n) (ap (λ o. option_map_or (spot_on n x) o (at_port 0 0)) is)
      ∙ ap (option_and_then (λ ps. slice_get ps q)) (listed_at (λ k. places_from 0 k n.links) n.routers i (end_known s L x.end))
      ∙ port_there 0 i n.links x.link s x.end is refl L.ends_differ
      ∙ ap (λ (m : ℕ). Some (place_of m x.end)) sum

  -- the port across the link lies at the other end
  pub far_laid : (e : LinkEnd) (x : Place) → lay n e ≡ Some x → lay n (far n e) ≡ Some (across x)
  far_laid e x is =
      let H = laid n e x is in
      ap (lay n) (ap (λ o. option_map_or (λ y. spot n (across y)) o e) is) ∙ lay-spot (across x) H.spec H.is_link

  -- the end across from the end across is the end itself
  across_twice : (x : Place) → across (across x) ≡ x
  across_twice x = by_end x.end
    where
      by_end : (d : End) → place_of x.link (other (other d)) ≡ place_of x.link d
      by_end A = refl
      by_end B = refl

  -- across from a port that is there a port is there
  pub far_valid : (e : LinkEnd) → is_some (lay n e) ≡ true → is_some (lay n (far n e)) ≡ true
  far_valid e v = by_place (lay n e) refl v
    where
      by_place : (o : Option Place) → lay n e ≡ o → is_some o ≡ true → is_some (lay n (far n e)) ≡ true
      by_place None is h = absurd (false≢true h)
      by_place (Some x) is h = ap is_some (far_laid e x is)

  -- across from the port across is the port itself
  pub far_far : (e : LinkEnd) → is_some (lay n e) ≡ true → far n (far n e) ≡ e
  far_far e v = by_place (lay n e) refl v
    where
      by_place : (o : Option Place) → lay n e ≡ o → is_some o ≡ true → far n (far n e) ≡ e
      by_place None is h = absurd (false≢true h)
      by_place (Some x) is h =
          ap (λ o. option_map_or (λ y. spot n (across y)) o (far n e)) (far_laid e x is) ∙ ap (spot n) (across_twice x) ∙ (laid n e x is).spot_is

  -- which ports a network has, and which port is across from which
  abbrev pub topology : Topology
  topology = record { far = far n; valid = λ e. is_some (lay n e); far_valid = far_valid; far_far = far_far }
