-- The awaited ports as the definition of a machine has them: a truth value for each port.
use Rattle.std.specs.Prelude.{◌≡◌, ℕ, ◌<◌, Bool, true, List, map}
use Rattle.std.specs.{List.range_with_len, FinSet.contains}
use Rattle.diffusing_replies.specs.Ports.{Ports}

-- by port, for so many ports, whether it is in the set
abbrev pub awaited_of : ℕ → Ports → List Bool
awaited_of n s = map (λ q. contains s q) (range_with_len 0 n)

-- only ports below this one are in the set
abbrev pub AwaitsBelow : ℕ → Ports → Type 0
AwaitsBelow n s = (q : ℕ) → contains s q ≡ true → q < n
