-- Spells: from when until when something holds of a network's world, by the events that are done.
use Rattle.std.specs.Prelude.{ℕ, ◌≡◌, ◌⊎◌, List, [], ◌∷◌, Option, Some, None}
use Rattle.network_model.specs.{World.World, Step.next}
use Rattle.timed_simulation.specs.declared.events.Event.{Event}

-- it holds in this world, and after each of these events up to the one of this moment, after which it does not; with no moment it still holds after the last
abbrev pub Lasts : (World → Type 0) → Option ℕ → World → List Event → Type 0
Lasts P to w [] = P w × (to ≡ None)
Lasts P to w (e ∷ es) = P w × (((P (next w e.step) → ⊥) × (to ≡ Some e.moment)) ⊎ Lasts P to (next w e.step) es)

-- it does not hold before one of these events, done at the first moment, and lasts from then until the second
abbrev pub IsSpell : (World → Type 0) → ℕ → Option ℕ → World → List Event → Type 0
IsSpell P from to w [] = ⊥
IsSpell P from to w (e ∷ es) = ((P w → ⊥) × (e.moment ≡ from) × Lasts P to (next w e.step) es) ⊎ IsSpell P from to (next w e.step) es
