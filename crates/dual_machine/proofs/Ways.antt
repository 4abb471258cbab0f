-- The ways are the ports, and after them the attachment: what is found among them.
use Rattle.std.proofs.Common.{refl, sym, arith, ap, ◌∙◌, ◌≡◌, ℕ, ◌+◌, min, Bool, true, false, ◌||◌, cond, List, [], ◌∷◌, ◌++◌, length, Option, Some, None}
use Rattle.std.specs.List.{list_any, position_from}
use Rattle.network_model.specs.declared.machine.Neighbour.{Neighbour}
use Rattle.network_model.specs.Machine.{at_home, home_ways, distance, least}
use Rattle.network_model.proofs.MachineLaws.{least-append, distance-bounded}

-- ---- two lists, one behind the other

module _ {A : Type 0} (test : A → Bool) where
  pub position_from-first : (k q : ℕ) (xs ys : List A) → position_from test k xs ≡ Some q → position_from test k (xs ++ ys) ≡ Some q
  position_from-first k q [] ys found = cc
  position_from-first k q (x ∷ xs) ys found = by_first (test x) (position_from-first (k + 1) q xs ys) found
    where
      by_first : (b : Bool) → (position_from test (k + 1) xs ≡ Some q → position_from test (k + 1) (xs ++ ys) ≡ Some q)
          → cond b (Some k) (position_from test (k + 1) xs) ≡ Some q → cond b (Some k) (position_from test (k + 1) (xs ++ ys)) ≡ Some q
      by_first true rest h = h
      by_first false rest h = rest h

  pub position_from-second : (k m : ℕ) (xs ys : List A) → position_from test k xs ≡ None → m ≡ k + length xs → position_from test k (xs ++ ys) ≡ position_from test m ys
  position_from-second k m [] ys none at = let same : k ≡ m = omega arith in ap (λ (n : ℕ). position_from test n ys) same
  position_from-second k m (x ∷ xs) ys none at = by_first (test x) (λ rest. position_from-second (k + 1) m xs ys rest (omega arith)) none
    where
      by_first : (b : Bool) → (position_from test (k + 1) xs ≡ None → position_from test (k + 1) (xs ++ ys) ≡ position_from test m ys)
          → cond b (Some k) (position_from test (k + 1) xs) ≡ None → cond b (Some k) (position_from test (k + 1) (xs ++ ys)) ≡ position_from test m ys
      by_first true rest h = cc
      by_first false rest h = rest h

or-false : (b : Bool) → (b || false) ≡ b
or-false true = refl
or-false false = refl

-- ---- the attachment behind the ports

-- it is found where it passes and no port does
pub position_from-home : (test : Neighbour → Bool) (a : Option ℕ) (k : ℕ) → list_any test (home_ways a) ≡ true → position_from test k (home_ways a) ≡ Some k
position_from-home test None k h = cc
position_from-home test (Some cost) k h = ap (λ b. cond b (Some k) None) (sym (or-false (test (at_home cost))) ∙ h)

pub position_from-no_home : (test : Neighbour → Bool) (a : Option ℕ) (k : ℕ) → list_any test (home_ways a) ≡ false → position_from test k (home_ways a) ≡ None
position_from-no_home test None k h = refl
position_from-no_home test (Some cost) k h = ap (λ b. cond b (Some k) None) (sym (or-false (test (at_home cost))) ∙ h)

pub least-home : (ns : List Neighbour) (cost : ℕ) → least (ns ++ home_ways (Some cost)) ≡ min (least ns) (distance (at_home cost))
least-home ns cost = omega (arith, least-append ns (home_ways (Some cost)), distance-bounded (at_home cost))
