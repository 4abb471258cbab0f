-- The parts of a network, as they are given.
use Rattle.std.specs.Prelude.{ℕ, ◌≤◌, List, length, map}
use Rattle.ipv4_prefix.specs.Prefix.{Prefix}
use Rattle.network_model.specs.{declared.network.Limits.Limits, declared.network.LinkSpec.LinkSpec, declared.network.Place.Place, declared.item.Notice.Notice, Network.degree, declared.network.Offer.TheVariants.One}
use Rattle.std.specs.declared.vec.Vec.{Vec}
use Rattle.network_model.specs.World.{Network, Link, Router, Attachments, World, prefixes_of}

-- a network of its parts
abbrev pub network_of_parts : ℕ → List LinkSpec → List (Prefix × ℕ × ℕ) → Network
network_of_parts routers links attachments = record { routers = routers; links = links; attachments = attachments; offer = One }

-- the network has no more of anything than these limits allow: routers, links, links of one router, prefixes, attachments
pub record HasAtMost (limits : Limits) (n : Network) : Type 0 where
  pub routers : n.routers ≤ limits.routers
  pub links : length n.links ≤ limits.links
  pub ports : (i : ℕ) → degree i n.links ≤ limits.ports
  pub prefixes : length (prefixes_of n.attachments) ≤ limits.prefixes
  pub attachments : length n.attachments ≤ limits.attachments

-- the attachments of one router, of their parts
abbrev pub attachments_of : List (Prefix × ℕ) → List Notice → Attachments
attachments_of costs notices = record { costs = costs; notices = notices }

-- a world of its parts
abbrev pub world_of_parts : {A : Type 0} → List (Vec Place A) → List Link → List Prefix → List Attachments → List Router → World
world_of_parts places links prefixes attachments routers = record { places = map (λ v. v.items) places; links = links; prefixes = prefixes; attachments = attachments; routers = routers }
