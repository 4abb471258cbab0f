-- A worked example: router 1 of two is cut off from when the link comes up until it has published its row.
use Rattle.std.proofs.Common.{refl, sym, subst, ◌∙◌, ap, ◌≡◌, ℕ, zero, suc, true, List, [], ◌∷◌, ◌+◌, Option, Some, None, slice_get, unwrap_or}
use Rattle.no_packet_loops.proofs.Common.{option_map_or, false≢true, None_not_Some, Some_injective, Prefix, Place, B, Link, Router, World, side, opening, opening_link, opening_router, attachment_at, IsWalk}
use Rattle.no_packet_loops.specs.Packets.{published_entry}
use Rattle.no_packet_loops.proofs.Example.{pair, w7}
use Rattle.quiet_routes.specs.Routes.{IsChain}
use Rattle.reachability.specs.Ways.{HasWay, IsCutOff}

-- the prefix of all addresses, to which router 0 of the two is attached
abbrev pub everything : Prefix
everything = record { addr = 0; len = 0 }

-- the end of the link at router 1
abbrev pub end : Place
end = record { link = 0; end = B }

-- if router 1 has no row, it has no way
pub no_row : (w : World) → published_entry w 1 everything ≡ None → HasWay w everything 1 → ⊥
no_row w none way = by_chain way.chain way.leads
  where
    by_chain : (xs : List Place) → IsChain w everything 1 xs way.home → ⊥
    by_chain [] leads = None_not_Some (sym none ∙ leads.1)
    by_chain (x ∷ xs) leads = None_not_Some (sym none ∙ (leads.0).row)

-- the router and the link of a world in which the link is up
abbrev pub router_of : World → Router
router_of w = unwrap_or (slice_get w.routers 1) (opening_router [] [])

abbrev pub link_in : World → Link
link_in w = unwrap_or (slice_get w.links 0) (opening_link (record { a = 0; b = 1; from_a = 1; from_b = 1 }))

-- no link is up at the opening
down : (k : ℕ) (l : Link) → slice_get (opening pair).links k ≡ Some l → l.up ≡ true → ⊥
down zero l at up = false≢true (ap (λ (x : Link). x.up) (Some_injective at) ∙ up)
down (suc k) l at up = None_not_Some at

-- so router 1 reaches no router that is attached
pub not_yet : IsCutOff everything 1 (opening pair) → ⊥
not_yet cut = by_walk cut.walk (cut.reaches).walk
  where
    by_walk : (ps : List Place) → IsWalk (opening pair) 1 ps cut.home → ⊥
    by_walk [] here = None_not_Some (subst (λ (k : ℕ). attachment_at (opening pair) k everything ≡ Some (cut.reaches).attachment) (sym here) (cut.reaches).attached)
    by_walk (x ∷ xs) walk = down x.link walk.0 walk.1 walk.2

-- router 1 is cut off if the link is up and it has no row
cut_in : (w : World) (r : Router) (l : Link) → slice_get w.routers 1 ≡ Some r → slice_get w.links 0 ≡ Some l → l.up ≡ true → (l.b).router ≡ 1 → (l.a).router ≡ 0 → (l.b).cost ≡ 1 → attachment_at w 0 everything ≡ Some 1 → published_entry w 1 everything ≡ None → IsCutOff everything 1 w
cut_in w r l at link up near far cost attached none = record {
  router = r;
  at = at;
  home = 0;
  walk = end ∷ [];
  cost = 2;
  reaches = record { walk = (l, link, up, near, far); attachment = 1; attached = attached; cost_is = ap (λ (o : Option Link). option_map_or (λ (k : Link). (side B k).cost) o 0 + 0 + 1) link ∙ ap (λ c. c + 0 + 1) cost };
  no_way = no_row w none;
}

pub cut : (w : World) → slice_get w.routers 1 ≡ Some (router_of w) → slice_get w.links 0 ≡ Some (link_in w) → (link_in w).up ≡ true → ((link_in w).b).router ≡ 1 → ((link_in w).a).router ≡ 0 → ((link_in w).b).cost ≡ 1 → attachment_at w 0 everything ≡ Some 1 → published_entry w 1 everything ≡ None → IsCutOff everything 1 w
cut w = cut_in w (router_of w) (link_in w)

-- the row that router 1 has published leads home
pub way7 : HasWay w7 everything 1
way7 = record {
  home = 0;
  chain = end ∷ [];
  leads = (record { port = 0; link = link_in w7; is_place = refl; is_link = refl; is_up = refl; row = refl }, (refl, refl));
  cost = 1;
  attached = refl;
}
