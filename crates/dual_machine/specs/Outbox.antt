-- What callers see of a list of messages sent, and of the room that it has.
use Rattle.std.specs.Prelude.{ℕ, ◌+◌, ◌≤◌, List, length, count_by}
use Rattle.network_model.specs.{declared.machine.Neighbour.Neighbour, declared.machine.Outgoing.Outgoing}

-- the messages, oldest first, and for how many there is room in all
pub record Outbox : Type 0 where
  pub list : List Outgoing
  pub capacity : ℕ

-- there is room for n messages more
abbrev pub HasRoom : Outbox → ℕ → Type 0
HasRoom o n = length o.list + n ≤ o.capacity

-- how many messages one event sends at most: one more than there are neighbours that are up
abbrev pub most_sent : List Neighbour → ℕ
most_sent ns = count_by (λ n. n.up) ns + 1
