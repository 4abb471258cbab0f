-- The first cause of a list of tests, by its parts.
use Rattle.std.proofs.Common.{refl, sym, ◌≡◌, Bool, true, false, List, [], ◌∷◌, ◌++◌, Some, None}
use Rattle.network_model.specs.Network.{first_cause}
use Rattle.network_model.proofs.ListLaws.{None_not_Some}

-- where no cause applies, the first does not, nor does one of the rest
pub first_none : {X : Type 0} (b : Bool) (x : X) (cs : List (Bool × X)) → first_cause ((b, x) ∷ cs) ≡ None → (b ≡ false) × (first_cause cs ≡ None)
first_none true x cs e = absurd (None_not_Some (sym e))
first_none false x cs e = (refl, e)

-- where no cause of two lists applies, none of either does
pub none_in_both : {X : Type 0} (cs ds : List (Bool × X)) → first_cause (cs ++ ds) ≡ None → (first_cause cs ≡ None) × (first_cause ds ≡ None)
none_in_both [] ds e = (refl, e)
none_in_both ((true, x) ∷ cs) ds e = absurd (None_not_Some (sym e))
none_in_both ((false, x) ∷ cs) ds e = none_in_both cs ds e

-- a cause that applies comes before those of a later list
pub first_cause-some : {X : Type 0} (cs ds : List (Bool × X)) (x : X) → first_cause cs ≡ Some x → first_cause (cs ++ ds) ≡ Some x
first_cause-some [] ds x e = absurd (None_not_Some e)
first_cause-some ((true, y) ∷ cs) ds x e = e
first_cause-some ((false, y) ∷ cs) ds x e = first_cause-some cs ds x e

-- where none applies, the first of a later list comes
pub first_cause-none : {X : Type 0} (cs ds : List (Bool × X)) → first_cause cs ≡ None → first_cause (cs ++ ds) ≡ first_cause ds
first_cause-none [] ds e = refl
first_cause-none ((true, y) ∷ cs) ds e = absurd (None_not_Some (sym e))
first_cause-none ((false, y) ∷ cs) ds e = first_cause-none cs ds e
