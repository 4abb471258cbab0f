-- The ports of a router, by the links before each.
use Rattle.std.proofs.Common.{refl, sym, ap, ◌∙◌, arith, append_assoc, length-append, ◌≡◌, ℕ, zero, suc, ◌+◌, ◌≤◌, ◌<◌, min, Bool, true, false, ◌==◌, ◌&&◌, ◌||◌, cond, if◌then◌else◌, List, [], ◌∷◌, ◌++◌, length, take, filter, Option, Some, None, slice_get, option_map, get_or, filter_map, true≢false, length-take, get_or-take, take_all}
use Rattle.script.proofs.Common.{cons_option, position-Some, length-filter, slice_get-get_or, A, B, LinkSpec, Place, touches, degree, places_from, Some_injective, None_not_Some, router_across, router_end, other, neighbour_of, neighbours_of, joins, link_between, port_on, IsPortOn}

-- ---- the place of a link

abbrev link_in : List Place → ℕ → Option ℕ
link_in places port = option_map (λ p. p.link) (slice_get places port)

-- the places of one link, before those of the next ones
abbrev places_with : ℕ → Bool → Bool → List Place → List Place
places_with l a b rest = cons_option (option_map (λ e. record { link = l; end = e }) (if a then Some A else (if b then Some B else None))) rest

one_more : (n : ℕ) → 1 + n ≡ suc n
one_more n = omega arith

module _ (i : ℕ) where
  -- no place lies on an earlier link
  not_before : (ss : List LinkSpec) (l port m : ℕ) → link_in (places_from l i ss) port ≡ Some m → l ≤ m
  not_before [] l port m at = absurd (None_not_Some at)
  not_before (s ∷ ss) l port m at = by_ends (λ k deeper. omega (arith, not_before ss (l + 1) k m deeper)) (s.a == i) (s.b == i) port at
    where
      by_ends : ((k : ℕ) → link_in (places_from (l + 1) i ss) k ≡ Some m → l ≤ m)
          → (a b : Bool) (k : ℕ) → link_in (places_with l a b (places_from (l + 1) i ss)) k ≡ Some m → l ≤ m
      by_ends later true b zero here = omega (arith, Some_injective here)
      by_ends later true b (suc k) deeper = later k deeper
      by_ends later false true zero here = omega (arith, Some_injective here)
      by_ends later false true (suc k) deeper = later k deeper
      by_ends later false false k deeper = later k deeper

  degree-first : (t : LinkSpec) (ts : List LinkSpec) → degree i (t ∷ ts) ≡ cond (touches i t) 1 0 + degree i ts
  degree-first t ts = sym (length-filter (touches i) (t ∷ ts)) ∙ counts (touches i t) ∙ ap (λ n. cond (touches i t) 1 0 + n) (length-filter (touches i) ts)
    where
      counts : (b : Bool) → length (cond b (t ∷ filter (touches i) ts) (filter (touches i) ts)) ≡ cond b 1 0 + length (filter (touches i) ts)
      counts true = omega arith
      counts false = omega arith

  -- the place on a link stands after those on the links before it
  place_there : (ss : List LinkSpec) (l k : ℕ) (s : LinkSpec) → slice_get ss k ≡ Some s → touches i s ≡ true → link_in (places_from l i ss) (degree i (take k ss)) ≡ Some (l + k)
  place_there [] l k s is touched = absurd (None_not_Some is)
  place_there (t ∷ ss) l zero s is touched = by_ends (t.a == i) (t.b == i) (ap (touches i) (Some_injective is) ∙ touched)
    where
      by_ends : (a b : Bool) → (a || b) ≡ true → link_in (places_with l a b (places_from (l + 1) i ss)) 0 ≡ Some (l + 0)
      by_ends true b some = ap Some (omega arith)
      by_ends false true some = ap Some (omega arith)
      by_ends false false some = absurd (true≢false (sym some))
  place_there (t ∷ ss) l (suc k) s is touched = ap (link_in (places_from l i (t ∷ ss))) (degree-first t (take k ss)) ∙ by_ends (place_there ss (l + 1) k s is touched ∙ ap Some (omega arith)) (t.a == i) (t.b == i)
    where
      by_ends : link_in (places_from (l + 1) i ss) (degree i (take k ss)) ≡ Some (l + suc k)
          → (a b : Bool) → link_in (places_with l a b (places_from (l + 1) i ss)) (cond (a || b) 1 0 + degree i (take k ss)) ≡ Some (l + suc k)
      by_ends deeper true b = ap (link_in (places_with l true b (places_from (l + 1) i ss))) (one_more (degree i (take k ss))) ∙ deeper
      by_ends deeper false true = ap (link_in (places_with l false true (places_from (l + 1) i ss))) (one_more (degree i (take k ss))) ∙ deeper
      by_ends deeper false false = ap (link_in (places_from (l + 1) i ss)) (let same : 0 + degree i (take k ss) ≡ degree i (take k ss) = omega arith in same) ∙ deeper

  -- a port on a link is the number of earlier links that touch the router
  place_once : (ss : List LinkSpec) (l k port : ℕ) → link_in (places_from l i ss) port ≡ Some (l + k) → port ≡ degree i (take k ss)
  place_once [] l k port at = absurd (None_not_Some at)
  place_once (t ∷ ss) l zero port at = by_ends (t.a == i) (t.b == i) port at
    where
      past : (q : ℕ) → link_in (places_from (l + 1) i ss) q ≡ Some (l + 0) → ⊥
      past q deeper = absurd (omega (arith, not_before ss (l + 1) q (l + 0) deeper))

      by_ends : (a b : Bool) (q : ℕ) → link_in (places_with l a b (places_from (l + 1) i ss)) q ≡ Some (l + 0) → q ≡ 0
      by_ends true b zero here = refl
      by_ends true b (suc q) deeper = absurd (past q deeper)
      by_ends false true zero here = refl
      by_ends false true (suc q) deeper = absurd (past q deeper)
      by_ends false false q deeper = absurd (past q deeper)
  place_once (t ∷ ss) l (suc k) port at = by_ends (λ q h. place_once ss (l + 1) k q (h ∙ ap Some (omega arith))) (t.a == i) (t.b == i) port at ∙ sym (degree-first t (take k ss))
    where
      by_ends : ((q : ℕ) → link_in (places_from (l + 1) i ss) q ≡ Some (l + suc k) → q ≡ degree i (take k ss))
          → (a b : Bool) (q : ℕ) → link_in (places_with l a b (places_from (l + 1) i ss)) q ≡ Some (l + suc k) → q ≡ cond (a || b) 1 0 + degree i (take k ss)
      by_ends deeper true b zero here = absurd (omega (arith, Some_injective here))
      by_ends deeper true b (suc q) h = omega (arith, deeper q h)
      by_ends deeper false true zero here = absurd (omega (arith, Some_injective here))
      by_ends deeper false true (suc q) h = omega (arith, deeper q h)
      by_ends deeper false false q h = omega (arith, deeper q h)

-- a link that joins a router to another touches it
joins-touches : (i j : ℕ) (s : LinkSpec) → joins i j s ≡ true → touches i s ≡ true
joins-touches i j s = by_ends (s.a == i) (s.b == j) (s.a == j) (s.b == i)
  where
    by_ends : (ai bj aj bi : Bool) → ((ai && bj) || (aj && bi)) ≡ true → (ai || bi) ≡ true
    by_ends true bj aj bi h = refl
    by_ends false bj aj true h = refl
    by_ends false bj true false h = h
    by_ends false bj false false h = h

-- the router's port on the link of two routers
pub is_port : (i j l : ℕ) (links : List LinkSpec) → link_between i j links ≡ Some l → IsPortOn links i l (port_on i l links)
is_port i j l links is =
    let d : LinkSpec = record { a = 0; b = 0; from_a = 1; from_b = 1 } in
    let first = position-Some (joins i j) (take 1024 links) l d is in
    let within : l < min 1024 (length links) = omega (arith, first.0, length-take 1024 links) in
    let there : slice_get links l ≡ Some (get_or links l d) = slice_get-get_or links l d (omega (arith, within)) in
    let joined : joins i j (get_or links l d) ≡ true = ap (joins i j) (sym (get_or-take 1024 links l d (omega (arith, within)))) ∙ first.1 in
    place_there i links 0 l (get_or links l d) there (joins-touches i j (get_or links l d) joined) ∙ ap Some (omega arith)

pub port_is : (i l port : ℕ) (links : List LinkSpec) → IsPortOn links i l port → port ≡ port_on i l links
port_is i l port links is = place_once i links 0 l port (is ∙ ap Some (omega arith))

-- past all links: the port of the router's own attachments
pub home_port : (i : ℕ) (links : List LinkSpec) → port_on i (length links) links ≡ degree i links
home_port i links = ap (degree i) (take_all (length links) links (omega arith))

-- ---- the routers across the ports

-- the element after the first ones
after_first : (before : List LinkSpec) (s : LinkSpec) (ss : List LinkSpec) → slice_get (before ++ s ∷ ss) (length before) ≡ Some s
after_first [] s ss = refl
after_first (b ∷ bs) s ss = after_first bs s ss

module _ (i : ℕ) where
  far_from : (before ss : List LinkSpec) (l : ℕ) → l ≡ length before → filter_map (router_across (before ++ ss)) (places_from l i ss) ≡ filter_map (neighbour_of i) ss
  far_from before [] l at = refl
  far_from before (s ∷ ss) l at =
      by_ends (s.a == i) (s.b == i) (ap (slice_get (before ++ s ∷ ss)) at ∙ after_first before s ss)
      (ap (λ all. filter_map (router_across all) (places_from (l + 1) i ss)) (sym (append_assoc before (s ∷ []) ss))
      ∙ far_from (before ++ s ∷ []) ss (l + 1) (omega (arith, at, length-append before (s ∷ []))))
    where
      by_ends : (a b : Bool) → slice_get (before ++ s ∷ ss) l ≡ Some s → filter_map (router_across (before ++ s ∷ ss)) (places_from (l + 1) i ss) ≡ filter_map (neighbour_of i) ss
          → filter_map (router_across (before ++ s ∷ ss)) (places_with l a b (places_from (l + 1) i ss))
          ≡ cons_option (option_map (λ e. router_end (other e) s) (if a then Some A else (if b then Some B else None))) (filter_map (neighbour_of i) ss)
      by_ends true b there rest = rw (there, rest) refl
      by_ends false true there rest = rw (there, rest) refl
      by_ends false false there rest = rest

  pub far_all : (links : List LinkSpec) → filter_map (neighbour_of i) links ≡ neighbours_of links i
  far_all links = sym (far_from [] links 0 refl)
