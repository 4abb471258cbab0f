-- Nodes that are read and written, and the leaves among them.
use Rattle.std.proofs.Common.{refl, sym, ap, ◌∙◌, arith, inl, inr, ◌≡◌, ◌≢◌, ◌⊎◌, ℕ, zero, suc, ◌+◌, ◌/◌, ◌%◌, ◌<◌, ◌≤◌, List, [], ◌∷◌, drop, length, set, Option, Some, None, option_map, option_and_then, slice_get}
use Rattle.std.proofs.{lemmas.List.length-drop, lemmas.List.length-map, lemmas.Nat.div-add-mod', lemmas.Nat.mod_below, lemmas.Option.slice_get-map}
use Rattle.network_model.proofs.ListLaws.{None_not_Some, element_there}
use Rattle.minima.specs.{declared.due.Due.Due, Trees.moments_of, Trees.node_at}

-- the half of a number, with what is left
pub halves : (n : ℕ) → (n ≡ n / 2 + n / 2) ⊎ (n ≡ n / 2 + n / 2 + 1)
halves n = by_rest (n % 2) refl
  where
    by_rest : (r : ℕ) → n % 2 ≡ r → (n ≡ n / 2 + n / 2) ⊎ (n ≡ n / 2 + n / 2 + 1)
    by_rest zero is = inl (let whole = div-add-mod' n 2 in omega (arith, whole, is))
    by_rest (suc zero) is = inr (let whole = div-add-mod' n 2 in omega (arith, whole, is))
    by_rest (suc (suc r)) is = absurd (let below = mod_below n 2 (omega arith) in omega (arith, below, is))

pub halved : (n : ℕ) → n / 2 + n / 2 ≤ n
halved n = let whole = div-add-mod' n 2 in omega (arith, whole)

-- ---- one node

-- what was written stands there
pub node_set_same : (ns : List (Option Due)) (k : ℕ) (x : Option Due) → k < length ns → node_at (set ns k x) k ≡ x
node_set_same [] k x below = absurd (omega (arith, below))
node_set_same (y ∷ ys) zero x below = refl
node_set_same (y ∷ ys) (suc k) x below = node_set_same ys k x (omega (arith, below))

-- another node has what it had
pub node_set_other : (ns : List (Option Due)) (k j : ℕ) (x : Option Due) → j ≢ k → node_at (set ns k x) j ≡ node_at ns j
node_set_other (y ∷ ys) zero zero x apart = absurd (apart refl)
node_set_other (y ∷ ys) (suc k) (suc j) x apart = node_set_other ys k j x (λ e. apart (ap suc e))
node_set_other _ _ _ x apart = refl

-- a node that has something is there
pub node_there : (ns : List (Option Due)) (k : ℕ) (d : Due) → node_at ns k ≡ Some d → k < length ns
node_there [] k d is = absurd (None_not_Some is)
node_there (x ∷ xs) zero d is = omega arith
node_there (x ∷ xs) (suc k) d is = (let less = node_there xs k d is in omega (arith, less))

-- what is made of something was there
pub made_from : {A B : Type 0} (f : A → B) (o : Option A) (y : B) → option_map f o ≡ Some y → (x : A) × (o ≡ Some x) × (Some (f x) ≡ Some y)
made_from f None y is = absurd (None_not_Some is)
made_from f (Some x) y is = (x, refl, is)

-- ---- leaves

-- what stands behind the first
pub at_drop : {A : Type 0} (n i : ℕ) (xs : List A) → slice_get (drop n xs) i ≡ slice_get xs (n + i)
at_drop zero i xs = ap (slice_get xs) (let same : i ≡ 0 + i = omega arith in same)
at_drop (suc n) i [] = refl
at_drop (suc n) i (x ∷ xs) = at_drop n i xs ∙ ap (slice_get (x ∷ xs)) (let same : suc (n + i) ≡ suc n + i = omega arith in same)

-- there are as many moments as routers
pub moments_length : (n : ℕ) (ns : List (Option Due)) → length ns ≡ n + n → length (moments_of n ns) ≡ n
moments_length n ns size =
    let mapped = length-map (drop n ns) (option_map (λ (d : Due). d.moment)) in
    let dropped = length-drop n ns in
    omega (arith, mapped, dropped, size)

-- the moment of a router is that of its leaf
pub moment_at : (n : ℕ) (ns : List (Option Due)) (i : ℕ) → length ns ≡ n + n → i < n → slice_get (moments_of n ns) i ≡ Some (option_map (λ (d : Due). d.moment) (node_at ns (n + i)))
moment_at n ns i size below =
    let (x, there) = element_there ns (n + i) (omega (arith, size, below)) in
    slice_get-map (option_map (λ (d : Due). d.moment)) (drop n ns) i
    ∙ ap (option_map (option_map (λ (d : Due). d.moment))) (at_drop n i ns ∙ there)
    ∙ ap (λ (o : Option (Option Due)). Some (option_map (λ (d : Due). d.moment) (option_and_then (λ q. q) o))) (sym there)

-- leaves that are the same have the same
pub leaf_same : (n i : ℕ) (ns ms : List (Option Due)) → drop n ns ≡ drop n ms → node_at ns (n + i) ≡ node_at ms (n + i)
leaf_same n i ns ms same = ap (option_and_then (λ q. q)) (sym (at_drop n i ns) ∙ ap (λ xs. slice_get xs i) same ∙ at_drop n i ms)
