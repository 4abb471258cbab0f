-- When a router may take an item from a port.
use Rattle.std.specs.Prelude.{◌≡◌, ℕ, Bool, true, false, List, slice_get}
use Rattle.std.specs.Option.{option_map_or}
use Rattle.network_model.specs.{declared.item.Item.Item, declared.network.Port.Port}

-- whether the router's port is up
abbrev pub is_port_up : List Port → ℕ → Bool
is_port_up ports q = option_map_or (λ p. p.up) (slice_get ports q) false

-- a port that is down takes the notice that its link came up; one that is up takes all else
abbrev pub CanTake : List Port → ℕ → Item → Type 0
CanTake ports q (Item.Up session cost) = is_port_up ports q ≡ false
CanTake ports q _ = is_port_up ports q ≡ true
