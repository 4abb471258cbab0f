-- Rows in the order of their keys.
use Rattle.std.proofs.Common.{◌≡◌, Bool, false, refl, ℕ, zero, suc, ◌<◌, true, List, [], ◌∷◌, length, get_or, sym, ap, ◌∙◌, arith, T}
use Rattle.std.specs.{declared.cmp.Ordering.Ordering, declared.cmp.Ordering.TheVariants.Less, declared.cmp.Ordering.TheVariants.Equal, FinMap.is_sorted, FinMap.Entries.below_all}
use Rattle.std.proofs.{lemmas.Bool.and_parts, lemmas.Cmp.tied_itself}
use Rattle.ipv4_prefix.specs.{Prefix.Prefix, Prefix.prefix_cmp, LongestMatch.HasDistinctPrefixes}
use Rattle.ipv4_prefix.proofs.PrefixOrder.{prefix_cmp_total, less_from_test}

-- a key before all rows is before each
pub below_at : {K X : Type 0} (R : K → K → Ordering) (k : K) (es : List (K × X)) (i : ℕ) (d : K × X) → below_all R k es ≡ true → i < length es → R k (get_or es i d).0 ≡ Less
below_at R k [] i d b h = absurd (omega arith)
below_at R k (e ∷ es) zero d b h = less_from_test _ (and_parts _ _ b).0
below_at R k (e ∷ es) (suc i) d b h = below_at R k es i d (and_parts _ _ b).1 (omega arith)

-- a prefix before another is not that one
not_same : (p q : Prefix) → prefix_cmp p q ≡ Less → p ≡ q → ⊥
not_same p q below same =
    let tied : prefix_cmp p q ≡ Equal = ap (prefix_cmp p) (sym same) ∙ tied_itself prefix_cmp_total p in
    cc

-- rows in order have distinct prefixes
pub distinct_from_sorted : {X : Type 0} (rows : List (Prefix × X)) → is_sorted prefix_cmp rows ≡ true → HasDistinctPrefixes rows
distinct_from_sorted [] s i j d before within = λ _. omega arith
distinct_from_sorted (r ∷ rs) s i zero d before within = λ _. omega arith
distinct_from_sorted (r ∷ rs) s zero (suc j) d before within = not_same r.0 _ (below_at prefix_cmp r.0 rs j d (and_parts _ _ s).0 (omega arith))
distinct_from_sorted (r ∷ rs) s (suc i) (suc j) d before within = distinct_from_sorted rs (and_parts _ _ s).1 i j d (omega arith) (omega arith)

-- a test that passes, as a type
pub to_T : (b : Bool) → b ≡ true → T b
to_T true e = tt
to_T false e = absurd (cc)

-- and back
pub from_T : (b : Bool) → T b → b ≡ true
from_T true h = refl
from_T false h = absurd h
