-- Sets of what was given, as one attachment more is given.
use Rattle.std.proofs.Common.{refl, sym, ap, ◌∙◌, arith, ◌≡◌, ℕ, ◌+◌, Bool, true, false, cond, not, ◌&&◌, ◌||◌, ◌==◌, if◌then◌else◌, List, [], ◌∷◌, ◌++◌, length}
use Rattle.std.specs.{BTreeMap.is_at, BTreeSet.contains}
use Rattle.no_packet_loops.proofs.Common.{list_any, list_any-append, Prefix, prefix_cmp, prefix_eq, Ordering, Less, is_eq, nat_cmp, ordering_then, nat_tests}
use Rattle.world.specs.Given.{pair_cmp, IsGiven}
use Rattle.world.specs.declared.attachment_faults.Given.{Given}
use Rattle.world.proofs.Prefixes.{one_unless, one_more_prefix}

-- pairs tie where both parts do
pairs_tie : (o u : Ordering) → is_eq (ordering_then o u) ≡ (is_eq o && is_eq u)
pairs_tie Less u = refl
pairs_tie _ u = refl

numbers_tie : (m n : ℕ) → is_eq (nat_cmp m n) ≡ (m == n)
numbers_tie m n = grind (arith, nat_tests)

pub pair_test : (x y : Prefix × ℕ) → is_eq (pair_cmp x y) ≡ (prefix_eq x.0 y.0 && (x.1 == y.1))
pair_test x y = pairs_tie (prefix_cmp x.0 y.0) (nat_cmp x.1 y.1) ∙ ap (λ t. prefix_eq x.0 y.0 && t) (numbers_tie x.1 y.1)

-- one more that may pass, at the back
more_passes : (b c : Bool) → cond b true c ≡ (c || (b || false))
more_passes true true = refl
more_passes true false = refl
more_passes false true = refl
more_passes false false = refl

count_passes : (n m : ℕ) (added given : Bool) → added ≡ not given → m ≡ n + (if added then 1 else 0) → m ≡ n + one_unless given
count_passes n m added given is counted = by_test given (counted ∙ ap (λ t. n + (if t then 1 else 0)) is)
  where
    by_test : (b : Bool) → m ≡ n + (if not b then 1 else 0) → m ≡ n + one_unless b
    by_test true e = e
    by_test false e = e

pub given_more : (before : List (Prefix × ℕ × ℕ)) (a : Prefix × ℕ × ℕ) (old new : Given) (added : Bool)
    → added ≡ not (contains prefix_cmp old.prefixes a.0)
    → ((q : Prefix) → contains prefix_cmp new.prefixes q ≡ cond (is_at (prefix_cmp a.0) q) true (contains prefix_cmp old.prefixes q))
    → length new.prefixes.keys ≡ length old.prefixes.keys + (if added then 1 else 0)
    → ((q : Prefix × ℕ) → contains pair_cmp new.pairs q ≡ cond (is_at (pair_cmp (a.0, a.1)) q) true (contains pair_cmp old.pairs q))
    → IsGiven before old → IsGiven (before ++ a ∷ []) new
given_more before a old new added was prefixes counted pairs G = record {
  prefixes = λ p.
      prefixes p
      ∙ more_passes (prefix_eq a.0 p) (contains prefix_cmp old.prefixes p)
      ∙ ap (λ t. t || (prefix_eq a.0 p || false)) (G.prefixes p)
      ∙ sym (list_any-append (λ (b : Prefix × ℕ × ℕ). prefix_eq b.0 p) before (a ∷ []));
  count = count_passes (length old.prefixes.keys) (length new.prefixes.keys) added (list_any (λ (b : Prefix × ℕ × ℕ). prefix_eq b.0 a.0) before) (was ∙ ap not (G.prefixes a.0)) counted
      ∙ ap (λ n. n + one_unless (list_any (λ (b : Prefix × ℕ × ℕ). prefix_eq b.0 a.0) before)) G.count
      ∙ sym (one_more_prefix before a);
  pairs = λ p i.
      pairs (p, i)
      ∙ more_passes (is_eq (pair_cmp (a.0, a.1) (p, i))) (contains pair_cmp old.pairs (p, i))
      ∙ ap (λ t. t || (is_eq (pair_cmp (a.0, a.1) (p, i)) || false)) (G.pairs p i)
      ∙ ap (λ t. list_any (λ (b : Prefix × ℕ × ℕ). prefix_eq b.0 p && (b.1 == i)) before || (t || false)) (pair_test (a.0, a.1) (p, i))
      ∙ sym (list_any-append (λ (b : Prefix × ℕ × ℕ). prefix_eq b.0 p && (b.1 == i)) before (a ∷ []));
}
