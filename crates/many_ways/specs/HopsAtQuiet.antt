-- What holds of the next hops that the routers of a quiet world published: they lead nearer, and those of equal cost lead along least walks.
use Rattle.std.specs.Prelude.{◌≡◌, ℕ, ◌<◌, true, List, [], ◌∷◌, Some, slice_get}
use Rattle.ipv4_prefix.specs.Prefix.{Prefix}
use Rattle.network_model.specs.{declared.network.Offer.TheVariants.Equal, declared.route.Entry.TheVariants.Via, declared.route.NextHop.NextHop, declared.network.Place.Place, declared.step.Step.Step, NextHops.hops_at, NextHops.most_offered, Step.offered_hops, Network.IsNetwork, Run.Runs, Forwarding.IsLeastWalk, Forwarding.is_quiet, Forwarding.entry_leads}
use Rattle.network_model.specs.World.{Link, Router, World, Network, other, side, place_at, attachment_at, opening}
use Rattle.quiet_routes.specs.Routes.{machine_at, HasRoute}
use Rattle.no_packet_loops.specs.Packets.{published_entry}
use Rattle.many_ways.specs.Network.{Among}

-- router i published a next hop out of this place, over a link that is up in the session of the hop
pub record SendsOver (w : World) (p : Prefix) (i : ℕ) (x : Place) : Type 0 where
  pub port : ℕ
  pub link : Link
  pub router : Router
  pub is_place : place_at w i port ≡ Some x
  pub is_link : slice_get w.links x.link ≡ Some link
  pub is_up : link.up ≡ true
  pub is_router : slice_get w.routers i ≡ Some router
  pub published : Among (record { port = port; session = link.session }) (hops_at p (router.hops).published)

-- such next hops, whichever each router takes, lead along these places from router i to router o, which is attached, and at the
-- distance of its attachment
abbrev pub IsHopChain : World → Prefix → ℕ → List Place → ℕ → Type 0
IsHopChain w p i [] o = (i ≡ o) × (attachment_at w o p ≡ Some (machine_at w o p).rd)
IsHopChain w p i (x ∷ xs) o = (h : SendsOver w p i x) × IsHopChain w p (side (other x.end) h.link).router xs o

-- in every quiet world of a network that offers next hops of equal cost, each such chain is a least walk at the reported distance
abbrev pub EqualHopsAreLeast : Type 0
EqualHopsAreLeast = (n : Network) (ss : List Step) (w : World) (most : ℕ) → IsNetwork n → Runs (opening n) ss w → n.offer ≡ Equal most → is_quiet w ≡ true
    → (p : Prefix) (i : ℕ) (xs : List Place) (o : ℕ) → i < n.routers → IsHopChain w p i xs o → IsLeastWalk w p i xs o (machine_at w i p).rd

-- a next hop of router i leads to a router that is nearer, and routed
pub record ComesNearer (w : World) (p : Prefix) (i : ℕ) (h : NextHop) : Type 0 where
  pub to : ℕ
  pub leads : entry_leads w i (Via h.port h.session) ≡ Some to
  pub nearer : (machine_at w to p).rd < (machine_at w i p).rd
  pub routed : HasRoute w p to

-- so does each that a router of a quiet world published, whatever the network offers
abbrev pub NextHopsComeNearer : Type 0
NextHopsComeNearer = (n : Network) (ss : List Step) (w : World) → IsNetwork n → Runs (opening n) ss w → is_quiet w ≡ true
    → (p : Prefix) (i : ℕ) (r : Router) (h : NextHop) → slice_get w.routers i ≡ Some r → Among h (hops_at p (r.hops).published) → ComesNearer w p i h

-- where the network offers any, the first that a router of a quiet world published beside a Via row is that of the row itself
abbrev pub FirstIsTheRow : Type 0
FirstIsTheRow = (n : Network) (ss : List Step) (w : World) → IsNetwork n → Runs (opening n) ss w → is_quiet w ≡ true → 0 < most_offered n.offer
    → (p : Prefix) (i : ℕ) (r : Router) → slice_get w.routers i ≡ Some r → (q session : ℕ) → published_entry w i p ≡ Some (Via q session)
    → slice_get (hops_at p (r.hops).published) 0 ≡ Some (record { port = q; session = session })

-- each router of a quiet world published what it offers
abbrev pub HopsAreInForce : Type 0
HopsAreInForce = (n : Network) (ss : List Step) (w : World) → IsNetwork n → Runs (opening n) ss w → is_quiet w ≡ true
    → (p : Prefix) (i : ℕ) (r : Router) → slice_get w.routers i ≡ Some r → hops_at p (r.hops).published ≡ hops_at p (offered_hops r)
