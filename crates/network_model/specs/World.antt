-- A network of routers and links as one value, and the value with which it opens.
use Rattle.std.specs.Prelude.{ℕ, ◌+◌, Bool, false, ◌==◌, if◌then◌else◌, List, [], ◌∷◌, map, length, Option, Some, None, slice_get, filter, option_and_then, option_map, unwrap_or}
use Rattle.std.specs.{List.range_with_len, List.list_any, List.cons_option, Option.option_map_or, FinMap.find as row_of, FinMap.put}
use Rattle.metric.specs.Distance.{infinity}
use Rattle.ipv4_prefix.specs.Prefix.{Prefix, prefix_cmp, prefix_eq}
use Rattle.network_model.specs.{declared.machine.Neighbour.Neighbour, declared.item.Item.Item, declared.item.Held.Held, declared.item.Notice.Notice, declared.route.Entry.Entry, declared.route.Entry.TheVariants.Local, declared.network.End.End, declared.network.End.TheVariants.A, declared.network.End.TheVariants.B, declared.network.LinkSpec.LinkSpec, declared.network.Place.Place, declared.network.Port.Port, Machine.Machine, Machine.opening_machine, declared.route.NextHop.NextHop, declared.network.Offer.Offer, declared.network.Offer.TheVariants.One, NextHops.hops_by_prefix}

-- ---- links

-- one end of a link: its router, the cost from here, and the items that this end has yet to take, oldest first
pub record Side : Type 0 where
  pub router : ℕ
  pub cost : ℕ
  pub inbox : List Item

-- a link: whether it is up, its session (how often it came up), and its two ends
pub record Link : Type 0 where
  pub up : Bool
  pub session : ℕ
  pub a : Side
  pub b : Side

-- ---- routers

-- the rows that a router has chosen (its control rows), and those that it published, each in the order of the prefixes
pub record Table : Type 0 where
  pub control : List (Prefix × Entry)
  pub published : List (Prefix × Entry)

-- the next hops of a router beside its rows: which it offers, and those that it published, in the order of the prefixes
pub record NextHops : Type 0 where
  pub offer : Offer
  pub published : List (Prefix × List NextHop)

-- what a router holds back, oldest first, and how many at the front are ripe, which is to say may be released
pub record Gate : Type 0 where
  pub held : List Held
  pub ripe : ℕ

-- a router: what its notices said of its ports, a machine for each prefix that it has heard of in the order of the
-- prefixes, its rows, its next hops beside them, what it holds, and how often it published
pub record Router : Type 0 where
  pub ports : List Port
  pub machines : List (Prefix × Machine)
  pub table : Table
  pub hops : NextHops
  pub gate : Gate
  pub generation : ℕ

-- ---- attachments

-- what one router is attached to: the cost of each attachment in the order of the prefixes, and the notices of them that the
-- router has yet to take, oldest first
pub record Attachments : Type 0 where
  pub costs : List (Prefix × ℕ)
  pub notices : List Notice

-- ---- the whole

-- a world: routers by number, the places of each router's ports, links by number, the prefixes of the network, and the
-- attachments of each router
pub record World : Type 0 where
  pub places : List (List Place)
  pub links : List Link
  pub prefixes : List Prefix
  pub attachments : List Attachments
  pub routers : List Router

-- ---- parts

-- the end across a link
abbrev pub other : End → End
other A = B
other B = A

-- one end of a link
abbrev pub side : End → Link → Side
side A k = k.a
side B k = k.b

-- the place of a router's port
abbrev pub place_at : World → ℕ → ℕ → Option Place
place_at w i q = option_and_then (λ ps. slice_get ps q) (slice_get w.places i)

-- the link at a router's port
abbrev pub link_at : World → ℕ → ℕ → Option Link
link_at w i q = option_and_then (λ p. slice_get w.links p.link) (place_at w i q)

-- the near end of the link at a router's port
abbrev pub side_at : World → ℕ → ℕ → Option Side
side_at w i q = option_and_then (λ p. option_map (side p.end) (slice_get w.links p.link)) (place_at w i q)

-- the far end of the link at a router's port
abbrev pub far_side_at : World → ℕ → ℕ → Option Side
far_side_at w i q = option_and_then (λ p. option_map (side (other p.end)) (slice_get w.links p.link)) (place_at w i q)

-- the number of a router's ports, by which its attachments go as one more port; none where there is no such router
abbrev pub degree_of : World → ℕ → Option ℕ
degree_of w i = option_map (λ ps. length ps) (slice_get w.places i)

-- the cost of a router's attachment to a prefix, where it is attached
abbrev pub attachment_at : World → ℕ → Prefix → Option ℕ
attachment_at w i p = option_and_then (λ a. row_of prefix_cmp p a.costs) (slice_get w.attachments i)

-- whether the prefix is one of the network's
abbrev pub is_known : World → Prefix → Bool
is_known w p = list_any (prefix_eq p) w.prefixes

-- ports as a machine meets them first: nothing reported
abbrev pub neighbours : List Port → List Neighbour
neighbours ports = map (λ p. record { up = p.up; cost = p.cost; reported = infinity }) ports

-- the session that the router's notices said last of a port
abbrev pub session_at : List Port → ℕ → ℕ
session_at ports q = option_map_or (λ p. p.session) (slice_get ports q) 0

-- the machine of a prefix; of one that was not heard of, the machine that would be opened
abbrev pub machine_of : Router → Prefix → Machine
machine_of r p = unwrap_or (row_of prefix_cmp p r.machines) (opening_machine None (neighbours r.ports))

-- ---- the opening

-- a network that was not opened: its number of routers, its links, its attachments, each a prefix, the router that is
-- attached to it, and the cost, and which next hops its routers offer
pub record Network : Type 0 where
  pub routers : ℕ
  pub links : List LinkSpec
  pub attachments : List (Prefix × ℕ × ℕ)
  pub offer : Offer

-- the router at an end of a link
abbrev pub router_end : End → LinkSpec → ℕ
router_end A s = s.a
router_end B s = s.b

-- the end of a link at which router i has a port; none where the link does not touch it
abbrev pub own_end : ℕ → LinkSpec → Option End
own_end i s = if s.a == i then Some A else (if s.b == i then Some B else None)

-- the router across a link from router i
abbrev pub neighbour_of : ℕ → LinkSpec → Option ℕ
neighbour_of i s = option_map (λ e. router_end (other e) s) (own_end i s)

-- the places of router i's ports on the links from number l on: its ports follow the order of the links that touch it
abbrev pub places_from : ℕ → ℕ → List LinkSpec → List Place
places_from l i [] = []
places_from l i (s ∷ ss) = cons_option (option_map (λ e. record { link = l; end = e }) (own_end i s)) (places_from (l + 1) i ss)

-- a link at the opening: down, never up, nothing queued
abbrev pub opening_link : LinkSpec → Link
opening_link s = record {
  up = false;
  session = 0;
  a = record { router = s.a; cost = s.from_a; inbox = [] };
  b = record { router = s.b; cost = s.from_b; inbox = [] };
}

-- a port at the opening: down, session 0, with its link's cost
abbrev pub opening_port : List Link → Place → Port
opening_port links p = record { up = false; session = 0; cost = option_map_or (λ k. (side p.end k).cost) (slice_get links p.link) 0 }

-- these values at their prefixes, in the order of the prefixes
abbrev pub rows_of : {X : Type 0} → List (Prefix × X) → List (Prefix × X)
rows_of [] = []
rows_of (r ∷ rs) = put prefix_cmp r.0 r.1 (rows_of rs)

-- no next hops yet, of which these are offered
abbrev pub opening_hops : Offer → NextHops
opening_hops offer = record { offer = offer; published = [] }

-- a router at the opening, with these attachments: it has heard of their prefixes alone, is local to them, and has published that
abbrev pub opening_router : List Port → List (Prefix × ℕ) → Router
opening_router ports costs =
    let rows = map (λ a. (a.0, Local)) costs in
    record {
      ports = ports;
      machines = map (λ a. (a.0, opening_machine (Some a.1) (neighbours ports))) costs;
      table = record { control = rows; published = rows };
      hops = opening_hops One;
      gate = record { held = []; ripe = 0 };
      generation = 0;
    }

-- the costs of router i's attachments, in the order of the prefixes
abbrev pub costs_of : Network → ℕ → List (Prefix × ℕ)
costs_of n i = rows_of (map (λ a. (a.0, a.2)) (filter (λ a. a.1 == i) n.attachments))

-- a router that offers these next hops, and has published none
abbrev pub with_offer : Offer → Router → Router
with_offer offer r = record r { hops = opening_hops offer }

-- one that has published what it offers
abbrev pub with_offer_published : Offer → Router → Router
with_offer_published offer r = record r { hops = record { offer = offer; published = hops_by_prefix offer (session_at r.ports) r.machines } }

-- router i of a network at the opening
abbrev pub opening_router_of : Network → ℕ → Router
opening_router_of n i = with_offer_published n.offer (opening_router (map (opening_port (map opening_link n.links)) (places_from 0 i n.links)) (costs_of n i))

-- these prefixes, each once
abbrev pub distinct : List Prefix → List Prefix
distinct [] = []
distinct (p ∷ ps) = if list_any (prefix_eq p) ps then distinct ps else p ∷ distinct ps

-- the prefixes to which some router is attached
abbrev pub prefixes_of : List (Prefix × ℕ × ℕ) → List Prefix
prefixes_of attachments = distinct (map (λ a. a.0) attachments)

-- every link is down, nothing is queued or held, no notice waits, and each prefix is known at the routers attached to it alone
abbrev pub opening : Network → World
opening n = record {
  places = map (λ i. places_from 0 i n.links) (range_with_len 0 n.routers);
  links = map opening_link n.links;
  prefixes = prefixes_of n.attachments;
  attachments = map (λ i. record { costs = costs_of n i; notices = [] }) (range_with_len 0 n.routers);
  routers = map (opening_router_of n) (range_with_len 0 n.routers);
}
