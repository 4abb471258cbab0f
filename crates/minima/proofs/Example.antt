-- Worked examples.
use Rattle.std.proofs.Common.{refl, ◌≡◌, ℕ, [], ◌∷◌, Option, Some, None}
use Rattle.minima.specs.{declared.due.Due.Due, Trees.lesser, Trees.moments_of}

abbrev due : ℕ → ℕ → Option Due
due moment router = Some (record { moment = moment; router = router })

-- the sooner is the lesser, and at one moment the lower router
sooner : lesser (due 7 1) (due 3 2) ≡ due 3 2
sooner = refl

lower : lesser (due 3 2) (due 3 1) ≡ due 3 1
lower = refl

only : lesser None (due 3 2) ≡ due 3 2
only = refl

-- the tree of four routers, of which the first is not due
moments : moments_of 4 (None ∷ due 3 2 ∷ due 7 1 ∷ due 3 2 ∷ None ∷ due 7 1 ∷ due 3 2 ∷ due 5 3 ∷ []) ≡ None ∷ Some 7 ∷ Some 3 ∷ Some 5 ∷ []
moments = refl
