-- What code rests on that finds its way over links.
use Rattle.std.specs.Prelude.{◌≡◌, ℕ, ◌<◌, ◌≤◌, List, ◌∷◌, length, Some}
use Rattle.network_model.specs.{declared.route.Entry.Entry, declared.network.Place.Place, World.World, World.place_at, Forwarding.entry_leads}
use Rattle.all_packets.specs.Packets.{IsWay}

-- the link at each port is one of the world's
abbrev pub HasLinksOfPorts : World → Type 0
HasLinksOfPorts w = (i q : ℕ) (place : Place) → place_at w i q ≡ Some place → place.link < length w.links

-- entries lead to routers of the world alone
abbrev pub LeadsToRouters : World → Type 0
LeadsToRouters w = (i : ℕ) (entry : Entry) (k : ℕ) → entry_leads w i entry ≡ Some k → k < length w.routers

-- a way of a packet passes no more routers than there are
abbrev pub HasShortWays : World → Type 0
HasShortWays w = (addr i : ℕ) (ks : List ℕ) → i < length w.routers → IsWay w addr (i ∷ ks) → length (i ∷ ks) ≤ length w.routers
