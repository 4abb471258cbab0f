-- How much of a network is not at rest.
use Rattle.std.specs.Prelude.{◌≡◌, ℕ, ◌+◌, ◌*◌, ◌≤◌, Bool, false, not, ◌||◌, nat_lt, List, filter, length, Option, option_map, option_and_then, slice_get}
use Rattle.std.specs.Option.{option_map_or}
use Rattle.network_model.specs.{Network.most_links, Network.most_routers, Step.is_due, Forwarding.is_quiet_link, Forwarding.has_no_notice}
use Rattle.network_model.specs.World.{Link, Router, Attachments, World, place_at}

-- whether something stands on a link
abbrev pub is_busy : Link → Bool
is_busy k = not (is_quiet_link k)

-- whether a notice of a router's attachments waits to be taken
abbrev pub has_notice : Attachments → Bool
has_notice a = not (has_no_notice a)

-- whether a router has something to publish or to release
abbrev pub is_restless : Router → Bool
is_restless r = is_due r || nat_lt 0 (r.gate).ripe

-- how many elements pass a test
abbrev pub count_passing : {A : Type 0} → (A → Bool) → List A → ℕ
count_passing test xs = length (filter test xs)

-- how many links, attachments of routers and routers are not at rest
abbrev pub unrest : World → ℕ
unrest w = count_passing is_busy w.links + count_passing has_notice w.attachments + count_passing is_restless w.routers

-- the number of the link at a router's port
abbrev pub link_number : World → ℕ → ℕ → Option ℕ
link_number w i q = option_map (λ p. p.link) (place_at w i q)

-- whether the element of this number is there and passes
abbrev pub passes_at : {A : Type 0} → (A → Bool) → List A → Option ℕ → Bool
passes_at test xs o = option_map_or test (option_and_then (slice_get xs) o) false

-- the number counts what is not at rest, of no more links and routers than a network can have, each router with its attachments
pub record IsWatched (w : World) (n : ℕ) : Type 0 where
  pub counts : n ≡ unrest w
  pub few : length w.links + length w.attachments + length w.routers ≤ most_links + 2 * most_routers
