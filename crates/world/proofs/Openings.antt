-- A network that opens has ports and links that fit together.
use Rattle.std.proofs.Common.{refl, sym, ap, subst, ◌∙◌, arith, ◌≡◌, ℕ, ◌<◌, false, List, [], map, length, Option, Some, None, slice_get, option_and_then, option_map, get_or}
use Rattle.no_packet_loops.proofs.Common.{length-map, length-map-range_with_len, slice_get-map, slice_get-get_or, slice_get_within, End, A, B, LinkSpec, Place, Port, Link, Router, Network, side, place_at, places_from, opening, opening_link, opening_port, opening_router_of, costs_of, Some_injective, None_not_Some, listed_within, router_end, ports_before, IsPort, place_to_IsPort}
use Rattle.world.specs.Kept.{ItemsLead, IsWorld}

-- a part of an option that is there
part_of : {A B : Type 0} (f : A → Option B) (o : Option A) (y : B) → option_and_then f o ≡ Some y → (x : A) × (o ≡ Some x) × (f x ≡ Some y)
part_of f None y e = absurd (None_not_Some e)
part_of f (Some x) y e = (x, refl, e)

mapped_of : {A B : Type 0} (f : A → B) (o : Option A) (y : B) → option_map f o ≡ Some y → (x : A) × (o ≡ Some x) × (y ≡ f x)
mapped_of f None y e = absurd (None_not_Some e)
mapped_of f (Some x) y e = (x, refl, sym (Some_injective e))

-- the place of router i's port q at the opening
opening_place : (n : Network) (i q : ℕ) (p : Place) → place_at (opening n) i q ≡ Some p → IsPort 0 i n.links q p
opening_place n i q p at =
    let ps : _ = part_of (λ (xs : List Place). slice_get xs q) (slice_get (opening n).places i) p at in
    let own : places_from 0 i n.links ≡ ps.0 = (listed_within (λ j. places_from 0 j n.links) n.routers i ps.0 ps.1).1 in
    place_to_IsPort 0 i n.links q p (ap (λ xs. slice_get xs q) own ∙ ps.2)

opening_router_at : (n : Network) (i : ℕ) (r : Router) → slice_get (opening n).routers i ≡ Some r → r ≡ opening_router_of n i
opening_router_at n i r at = sym (listed_within (opening_router_of n) n.routers i r at).1

pub opening-kept : (n : Network) → IsWorld (opening n)
opening-kept n = record {
  links_known = λ i q p at.
      let x : _ = opening_place n i q p at in
      let below : _ = slice_get_within n.links x.number x.spec x.is_link in
      omega (arith, below, x.link_is, length-map n.links opening_link);
  places_apart = λ i q j r p here there.
      let x : _ = opening_place n i q p here in
      let y : _ = opening_place n j r p there in
      let numbers : x.number ≡ y.number = omega (arith, x.link_is, y.link_is) in
      let specs : x.spec ≡ y.spec = Some_injective (sym x.is_link ∙ ap (slice_get n.links) numbers ∙ y.is_link) in
      let routers : i ≡ j = sym x.router_is ∙ ap (router_end p.end) specs ∙ y.router_is in
      (routers, sym x.port_is ∙ ap (λ k. ports_before k i n.links) numbers ∙ ap (λ k. ports_before y.number k n.links) routers ∙ y.port_is);
  routers_placed = length-map-range_with_len (λ i. places_from 0 i n.links) 0 n.routers ∙ sym (length-map-range_with_len (opening_router_of n) 0 n.routers);
  attachments_placed = length-map-range_with_len (λ i. record { costs = costs_of n i; notices = [] }) 0 n.routers ∙ sym (length-map-range_with_len (opening_router_of n) 0 n.routers);
  ports_placed = λ i r ps is_router is_placed.
      let placed : places_from 0 i n.links ≡ ps = (listed_within (λ j. places_from 0 j n.links) n.routers i ps is_placed).1 in
      ap (λ (x : Router). length x.ports) (opening_router_at n i r is_router)
      ∙ length-map (places_from 0 i n.links) (opening_port (map opening_link n.links)) ∙ ap length placed;
  inboxes = λ i q r x p k is_router is_port at is_link.
      let port : _ = mapped_of (opening_port (map opening_link n.links)) (slice_get (places_from 0 i n.links) q) x
      (sym (slice_get-map (opening_port (map opening_link n.links)) (places_from 0 i n.links) q) ∙ ap (λ (y : Router). slice_get y.ports q) (sym (opening_router_at n i r is_router)) ∙ is_port) in
      let link : _ = mapped_of opening_link (slice_get n.links p.link) k (sym (slice_get-map opening_link n.links p.link) ∙ is_link) in
      subst (λ (y : Port). ItemsLead y.up k.up (side p.end k).inbox) (sym port.2)
      (subst (λ (y : Link). ItemsLead false y.up (side p.end y).inbox) (sym link.2) (by_end p.end link.0));
}
  where
    by_end : (e : End) (s : LinkSpec) → ItemsLead false (opening_link s).up (side e (opening_link s)).inbox
    by_end A s = refl
    by_end B s = refl

-- each place of a router is at a link that is there
pub place_known : (i : ℕ) (ss : List LinkSpec) (k : ℕ) (d : Place) → k < length (places_from 0 i ss) → (get_or (places_from 0 i ss) k d).link < length ss
place_known i ss k d within =
    let port : IsPort 0 i ss k (get_or (places_from 0 i ss) k d) = place_to_IsPort 0 i ss k (get_or (places_from 0 i ss) k d) (slice_get-get_or (places_from 0 i ss) k d within) in
    let number : port.number < length ss = slice_get_within ss port.number port.spec port.is_link in
    omega (arith, port.link_is, number)
