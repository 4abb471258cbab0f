-- Ways from routers to a prefix: over links that are up, and by the rows that routers published.
use Rattle.std.specs.Prelude.{◌≡◌, ℕ, ◌<◌, ◌≤◌, List, Some, slice_get, length}
use Rattle.ipv4_prefix.specs.Prefix.{Prefix}
use Rattle.network_model.specs.{declared.network.End.End, declared.network.Place.Place, Network.most_routers, Network.most_links, Forwarding.IsWalkHome}
use Rattle.network_model.specs.World.{Link, Router, World, side, place_at, attachment_at}
use Rattle.quiet_routes.specs.Routes.{IsChain}

-- rows that were published lead from router i home: over links that are up in the rows' sessions, to a router that is attached to the prefix and whose row is local
pub record HasWay (w : World) (p : Prefix) (i : ℕ) : Type 0 where
  pub home : ℕ
  pub chain : List Place
  pub leads : IsChain w p i chain home
  pub cost : ℕ
  pub attached : attachment_at w home p ≡ Some cost

-- links that are up lead from router i to one that is attached to the prefix
pub record Reaches (w : World) (p : Prefix) (i : ℕ) : Type 0 where
  pub home : ℕ
  pub walk : List Place
  pub cost : ℕ
  pub reaches : IsWalkHome w p i walk home cost

-- links that are up lead from router i to one that is attached to the prefix, and no rows lead there
pub record IsCutOff (p : Prefix) (i : ℕ) (w : World) : Type 0 where
  pub router : Router
  pub at : slice_get w.routers i ≡ Some router
  pub home : ℕ
  pub walk : List Place
  pub cost : ℕ
  pub reaches : IsWalkHome w p i walk home cost
  pub no_way : HasWay w p i → ⊥

-- a world whose parts fit together, as in every run: links join its routers, ports lie on its links, and each router has its attachments. Routers and links have numbers of 16 bits
pub record IsJoined (w : World) : Type 0 where
  pub few_routers : length w.routers ≤ most_routers
  pub few_links : length w.links ≤ most_links
  pub ends : (l : ℕ) (k : Link) (e : End) → slice_get w.links l ≡ Some k → (side e k).router < length w.routers
  pub ports : (i q : ℕ) (x : Place) → place_at w i q ≡ Some x → x.link < length w.links
  pub attachments : length w.attachments ≡ length w.routers
