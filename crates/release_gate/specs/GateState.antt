-- What a router holds back.
use Rattle.std.specs.Prelude.{ℕ, [], ◌∷◌, ◌++◌}
use Rattle.network_model.specs.{declared.item.Held.Held, World.Gate}

-- a gate, and for how many more messages it has memory
pub record GateState : Type 0 where
  pub gate : Gate
  pub room : ℕ

-- nothing held
abbrev pub empty : Gate
empty = record { held = []; ripe = 0 }

-- one more message at the back, which is not ripe
abbrev pub with_held : Held → Gate → Gate
with_held h g = record g { held = g.held ++ h ∷ [] }
