-- What holds of the feasible next hops of a whole network that is quiet. Each chain of those of equal cost is a least walk, if it ends at an
-- attached router, at the distance of its attachment.
use Rattle.std.specs.Prelude.{◌≡◌, ℕ, ◌<◌, true, List, [], ◌∷◌, Some, slice_get}
use Rattle.metric.specs.Distance.{infinity}
use Rattle.ipv4_prefix.specs.Prefix.{Prefix}
use Rattle.network_model.specs.{declared.machine.Neighbour.Neighbour, declared.network.Place.Place, declared.step.Step.Step, Machine.distance, Network.IsNetwork, Run.Runs, Forwarding.IsLeastWalk, Forwarding.is_quiet}
use Rattle.network_model.specs.World.{Link, Router, World, Network, other, side, place_at, attachment_at, machine_of, opening}
use Rattle.quiet_routes.specs.Routes.{machine_at}
use Rattle.many_ways.specs.{Network.Among, Packets.feasible_hops}

-- a next hop out of this place is feasible at router i, over a link that is up in its session. It is of equal cost, which is to say at
-- the distance of the router, which is not out of reach
pub record SendsEqually (w : World) (p : Prefix) (i : ℕ) (x : Place) : Type 0 where
  pub port : ℕ
  pub link : Link
  pub router : Router
  pub neighbour : Neighbour
  pub is_place : place_at w i port ≡ Some x
  pub is_link : slice_get w.links x.link ≡ Some link
  pub is_up : link.up ≡ true
  pub is_router : slice_get w.routers i ≡ Some router
  pub feasible : Among (record { port = port; session = link.session }) (feasible_hops p router)
  pub at : slice_get (machine_of router p).ports port ≡ Some neighbour
  pub equal : distance neighbour ≡ (machine_of router p).rd
  pub reached : (machine_of router p).rd < infinity

-- such next hops, whichever each router takes, lead along these places from router i to router o, which is attached, and at the
-- distance of its attachment
abbrev pub IsEqualChain : World → Prefix → ℕ → List Place → ℕ → Type 0
IsEqualChain w p i [] o = (i ≡ o) × (attachment_at w o p ≡ Some (machine_at w o p).rd)
IsEqualChain w p i (x ∷ xs) o = (h : SendsEqually w p i x) × IsEqualChain w p (side (other x.end) h.link).router xs o

-- in every quiet world to which a run leads, every such chain is a least walk, whose cost is the reported distance
abbrev pub EqualChainsAreLeast : Type 0
EqualChainsAreLeast = (n : Network) (ss : List Step) (w : World) → IsNetwork n → Runs (opening n) ss w → is_quiet w ≡ true
    → (p : Prefix) (i : ℕ) (xs : List Place) (o : ℕ) → i < n.routers → IsEqualChain w p i xs o → IsLeastWalk w p i xs o (machine_at w i p).rd
