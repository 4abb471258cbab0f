-- Since when something holds of the network's world, by the events that were done.
use Rattle.std.specs.Prelude.{ℕ, ◌≡◌, ◌⊎◌, Bool, true, false, List, [], ◌∷◌}
use Rattle.network_model.specs.{World.World, Step.next}
use Rattle.timed_simulation.specs.declared.events.Event.{Event}

-- the test holds in this world, and after each of these events
abbrev pub Stays : (World → Bool) → World → List Event → Type 0
Stays test w [] = test w ≡ true
Stays test w (e ∷ es) = (test w ≡ true) × Stays test (next w e.step) es

-- one of these events, done at this moment, made the test hold, and it has held ever since
abbrev pub HoldsSince : (World → Bool) → ℕ → World → List Event → Type 0
HoldsSince test moment w [] = ⊥
HoldsSince test moment w (e ∷ es) = ((test w ≡ false) × (e.moment ≡ moment) × Stays test (next w e.step) es) ⊎ HoldsSince test moment (next w e.step) es
