-- Which port of a router has an item or a notice to take.
use Rattle.std.specs.Prelude.{ℕ, Bool, false, not, List, Option, None, Some, slice_get, is_ok, option_and_then, if◌then◌else◌}
use Rattle.std.specs.{List.position_from, Option.option_map_or}
use Rattle.network_model.specs.{declared.network.Place.Place, World.Link, World.World, World.degree_of, Forwarding.has_no_notice}
use Rattle.link_fifo.specs.Refusals.{front_of}

-- whether an item waits to be taken at this place
abbrev pub is_waiting : List Link → Place → Bool
is_waiting links p = is_ok (front_of p.end (slice_get links p.link))

-- the lowest port of router i at which an item waits
abbrev pub item_port : World → ℕ → Option ℕ
item_port w i = option_and_then (position_from (is_waiting w.links) 0) (slice_get w.places i)

-- the port numbered by the degree of router i, where a notice waits there
abbrev pub notice_port : World → ℕ → Option ℕ
notice_port w i = if option_map_or (λ a. not (has_no_notice a)) (slice_get w.attachments i) false then degree_of w i else None

-- the lowest port of router i at which an item or a notice waits
abbrev pub waiting_port : World → ℕ → Option ℕ
waiting_port w i = option_map_or (λ q. Some q) (item_port w i) (notice_port w i)
