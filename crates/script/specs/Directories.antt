-- Who stands at the other end of each port, and what routers are called.
use Rattle.std.specs.Prelude.{ℕ, ◌==◌, if◌then◌else◌, List, map, Option, Some, option_map, filter_map, length, min, slice_get, option_and_then, unwrap_or, codes}
use Rattle.std.specs.List.{range_with_len}
use Rattle.network_model.specs.{declared.network.LinkSpec.LinkSpec, declared.network.Place.Place, World.other, World.places_from, World.router_end}
use Rattle.texts.specs.Words.{Text}
use Rattle.script.specs.Routers.{no_router}

-- names by router, and by router and port the router at the other end
pub record Directory : Type 0 where
  pub names : List Text
  pub neighbours : List (List ℕ)

-- the router across the link at the place of a port
abbrev pub router_across : List LinkSpec → Place → Option ℕ
router_across links p = option_map (router_end (other p.end)) (slice_get links p.link)

-- the routers across a router's ports, in a network of these links
abbrev pub neighbours_of : List LinkSpec → ℕ → List ℕ
neighbours_of links router = filter_map (router_across links) (places_from 0 router links)

-- the directory of routers of these names, joined by these links
abbrev pub directory_of : List Text → List LinkSpec → Directory
directory_of names links = record { names = names; neighbours = map (neighbours_of links) (range_with_len 0 (min no_router (length names))) }

-- the router across a port
abbrev pub neighbour_at : Directory → ℕ → ℕ → Option ℕ
neighbour_at d router port = option_and_then (λ ns. slice_get ns port) (slice_get d.neighbours router)

-- the router from which one takes at a port: the one across it, or itself at the port of its own attachments, which the number of its links numbers
abbrev pub source_at : Directory → ℕ → ℕ → Option ℕ
source_at d router port = option_and_then (λ ns. if port == length ns then Some router else slice_get ns port) (slice_get d.neighbours router)

-- the name of a router, or `?` where there is no such router
abbrev pub name_text : Directory → Option ℕ → Text
name_text d router = unwrap_or (option_and_then (slice_get d.names) router) (codes "?")
