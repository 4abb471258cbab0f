-- The test that tells whether two entries are equal.
use Rattle.std.proofs.Common.{refl, ◌≡◌, true}
use Rattle.std.proofs.lemmas.Bool.{and_parts, and_from, eqb-true, eq-eqb}
use Rattle.network_model.specs.contracts.route.EntryPartialEq.TheImpl as DerivedEq
use Rattle.network_model.specs.{declared.route.Entry.Entry, declared.route.Entry.TheVariants.Local, declared.route.Entry.TheVariants.Via, declared.route.Entry.TheVariants.Unreachable, Step.entry_eq}

-- an entry is equal to itself by the test
pub entry_eq-refl : (e : Entry) → entry_eq e e ≡ true
entry_eq-refl (Via p s) = and_from _ _ (eq-eqb p p refl) (eq-eqb s s refl)
entry_eq-refl _ = refl

-- entries that are equal by the test are one entry
pub entry_from_eq : (e f : Entry) → entry_eq e f ≡ true → e ≡ f
entry_from_eq Local Local h = refl
entry_from_eq (Via p s) (Via q t) h = let parts = and_parts _ _ h in λ i. Via (eqb-true p q parts.0 i) (eqb-true s t parts.1 i)
entry_from_eq Unreachable Unreachable h = refl
entry_from_eq _ _ h = absurd (cc)

-- what `==` answers at entries
pub entry_partial_eq : (e f : Entry) → (DerivedEq.ghosts).eq e f ≡ entry_eq e f
entry_partial_eq Local Local = refl
entry_partial_eq (Via p s) (Via q t) = refl
entry_partial_eq Unreachable Unreachable = refl
entry_partial_eq _ _ = refl
