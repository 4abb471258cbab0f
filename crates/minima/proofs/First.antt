-- The root is the first of all leaves.
use Rattle.std.proofs.Common.{refl, sym, ap, subst, ◌∙◌, arith, inl, inr, ◌≡◌, ◌⊎◌, ℕ, zero, suc, ◌+◌, ◌-◌, ◌/◌, ◌<◌, ◌≤◌, List, ◌∷◌, length, map, replicate, Option, Some, None, IfNone, IfSome, option_map, slice_get}
use Rattle.std.proofs.{lemmas.Bool.cases_lt, lemmas.List.drop-replicate, lemmas.List.length-replicate, lemmas.Option.slice_get_within}
use Rattle.network_model.specs.Network.{most_routers}
use Rattle.network_model.proofs.ListLaws.{None_not_Some, Some_injective}
use Rattle.minima.specs.declared.due.Due.{Due}
use Rattle.minima.specs.Trees.{HasLeast, IsFirstDue, IsTree, NoneDue, lesser, moments_of, node_at}
use Rattle.minima.proofs.Pairs.{NoLater, lesser_is, lesser_left, lesser_right, no_later_itself, no_later_trans}
use Rattle.minima.proofs.Nodes.{halves, made_from, moment_at, moments_length, node_there}

module _ (n : ℕ) (ns : List (Option Due)) (least : HasLeast n ns) where
  -- a node is no later than those below it
  above_no_later : (k p : ℕ) → 1 ≤ p → p < n → (k ≡ p + p) ⊎ (k ≡ p + p + 1) → NoLater (node_at ns p) (node_at ns k)
  above_no_later k p first inner (inl e) = subst (λ j. NoLater (node_at ns p) (node_at ns j)) (sym e) (subst (λ o. NoLater o (node_at ns (p + p))) (sym (least p first inner)) (lesser_left (node_at ns (p + p)) (node_at ns (p + p + 1))))
  above_no_later k p first inner (inr e) = subst (λ j. NoLater (node_at ns p) (node_at ns j)) (sym e) (subst (λ o. NoLater o (node_at ns (p + p + 1))) (sym (least p first inner)) (lesser_right (node_at ns (p + p)) (node_at ns (p + p + 1))))

  pub root_no_later : (fuel k : ℕ) → k ≤ fuel → 1 ≤ k → k < n + n → NoLater (node_at ns 1) (node_at ns k)
  root_no_later zero k within first below = absurd (omega (arith, within, first))
  root_no_later (suc fuel) k within first below = by_order (λ j. root_no_later fuel j) (cases_lt 1 k) (halves k)
    where
      by_order : ((j : ℕ) → j ≤ fuel → 1 ≤ j → j < n + n → NoLater (node_at ns 1) (node_at ns j))
          → (1 < k) ⊎ (k ≤ 1) → (k ≡ k / 2 + k / 2) ⊎ (k ≡ k / 2 + k / 2 + 1) → NoLater (node_at ns 1) (node_at ns k)
      by_order above (inr root) half = subst (λ j. NoLater (node_at ns 1) (node_at ns j)) (let is : 1 ≡ k = omega (arith, root, first) in is) (no_later_itself (node_at ns 1))
      by_order above (inl more) (inl even) =
          no_later_trans (node_at ns 1) (node_at ns (k / 2)) (node_at ns k)
          (above (k / 2) (omega (arith, even, within, more)) (omega (arith, even, more)) (omega (arith, even, below)))
          (above_no_later k (k / 2) (omega (arith, even, more)) (omega (arith, even, below)) (inl even))
      by_order above (inl more) (inr odd) =
          no_later_trans (node_at ns 1) (node_at ns (k / 2)) (node_at ns k)
          (above (k / 2) (omega (arith, odd, within, more)) (omega (arith, odd, more)) (omega (arith, odd, below)))
          (above_no_later k (k / 2) (omega (arith, odd, more)) (omega (arith, odd, below)) (inr odd))

  -- and what a node has stands in a leaf
  pub leaf_of : (fuel k : ℕ) → n + n ≤ k + fuel → 1 ≤ k → k < n + n → (i : ℕ) × (i < n) × (node_at ns (n + i) ≡ node_at ns k)
  leaf_of zero k room first below = absurd (omega (arith, room, below))
  leaf_of (suc fuel) k room first below = by_place (λ j. leaf_of fuel j) (cases_lt k n)
    where
      by_place : ((j : ℕ) → n + n ≤ j + fuel → 1 ≤ j → j < n + n → (i : ℕ) × (i < n) × (node_at ns (n + i) ≡ node_at ns j))
          → (k < n) ⊎ (n ≤ k) → (i : ℕ) × (i < n) × (node_at ns (n + i) ≡ node_at ns k)
      by_place under (inr leaf) = (k - n, omega (arith, leaf, below), ap (node_at ns) (let is : n + (k - n) ≡ k = omega (arith, leaf) in is))
      by_place under (inl inner) = by_lesser (lesser_is (node_at ns (k + k)) (node_at ns (k + k + 1)))
        where
          by_lesser : (lesser (node_at ns (k + k)) (node_at ns (k + k + 1)) ≡ node_at ns (k + k)) ⊎ (lesser (node_at ns (k + k)) (node_at ns (k + k + 1)) ≡ node_at ns (k + k + 1))
              → (i : ℕ) × (i < n) × (node_at ns (n + i) ≡ node_at ns k)
          by_lesser (inl left) = (let L = under (k + k) (omega (arith, room, first)) (omega (arith, first)) (omega (arith, inner)) in (L.0, L.1, L.2 ∙ sym left ∙ sym (least k first inner)))
          by_lesser (inr right) = (let L = under (k + k + 1) (omega (arith, room, first)) (omega (arith, first)) (omega (arith, inner)) in (L.0, L.1, L.2 ∙ sym right ∙ sym (least k first inner)))

module _ (n : ℕ) (ns : List (Option Due)) (tree : IsTree n ns) where
  -- a router that is due is one of them, and its leaf says so
  leaf_due : (i m : ℕ) → slice_get (moments_of n ns) i ≡ Some (Some m) → (x : Due) × (i < n) × (node_at ns (n + i) ≡ Some x) × (x.moment ≡ m)
  leaf_due i m at = (made.0, below, made.1, Some_injective made.2)
    where
      below : i < n
      below = (let within = slice_get_within (moments_of n ns) i (Some m) at in let many = moments_length n ns tree.size in omega (arith, within, many))

      made : (x : Due) × (node_at ns (n + i) ≡ Some x) × (Some x.moment ≡ Some m)
      made = made_from (λ (d : Due). d.moment) (node_at ns (n + i)) m (Some_injective (sym (moment_at n ns i tree.size below) ∙ at))

  -- the root of a tree is the first that is due
  pub first_is : (d : Due) → node_at ns 1 ≡ Some d → IsFirstDue (moments_of n ns) d
  first_is d is = record { at = at; soonest = soonest; lowest = lowest }
    where
      wide : 1 < n + n
      wide = (let there = node_there ns 1 d is in let size = tree.size in omega (arith, there, size))

      leaf : (i : ℕ) × (i < n) × (node_at ns (n + i) ≡ node_at ns 1)
      leaf = leaf_of n ns tree.least (n + n) 1 (omega arith) (omega arith) wide

      router : d.router ≡ leaf.0
      router = tree.routers leaf.0 d leaf.1 (leaf.2 ∙ is)

      at : slice_get (moments_of n ns) d.router ≡ Some (Some d.moment)
      at = ap (slice_get (moments_of n ns)) router ∙ moment_at n ns leaf.0 tree.size leaf.1 ∙ ap (λ (o : Option Due). Some (option_map (λ (d : Due). d.moment) o)) (leaf.2 ∙ is)

      no_later : (i : ℕ) (x : Due) → i < n → node_at ns (n + i) ≡ Some x → NoLater (Some d) (Some x)
      no_later i x below there =
          subst (λ o. NoLater o (Some x)) is (subst (NoLater (node_at ns 1)) there (root_no_later n ns tree.least (n + i) (n + i) (omega arith) (omega (arith, below)) (omega (arith, below))))

      soonest : (i m : ℕ) → slice_get (moments_of n ns) i ≡ Some (Some m) → d.moment ≤ m
      soonest i m due =
          let (x, below, there, same) = leaf_due i m due in
          by_order x same (no_later i x below there)
        where
          by_order : (x : Due) → x.moment ≡ m → (d.moment < x.moment) ⊎ ((d.moment ≡ x.moment) × (d.router ≤ x.router)) → d.moment ≤ m
          by_order x same (inl less) = omega (arith, same, less)
          by_order x same (inr equal) = (let moment = equal.0 in omega (arith, same, moment))

      lowest : (i : ℕ) → slice_get (moments_of n ns) i ≡ Some (Some d.moment) → d.router ≤ i
      lowest i due =
          let (x, below, there, same) = leaf_due i d.moment due in
          by_order x same (tree.routers i x below there) (no_later i x below there)
        where
          by_order : (x : Due) → x.moment ≡ d.moment → x.router ≡ i → (d.moment < x.moment) ⊎ ((d.moment ≡ x.moment) × (d.router ≤ x.router)) → d.router ≤ i
          by_order x same at (inl less) = absurd (omega (arith, same, less))
          by_order x same at (inr equal) = (let lower = equal.1 in omega (arith, lower, at))

  pub first_if : (o : Option Due) → o ≡ node_at ns 1 → IfSome o (IsFirstDue (moments_of n ns))
  first_if None is = tt
  first_if (Some d) is = first_is d (sym is)

  -- where the root has none, none is due
  none_due : node_at ns 1 ≡ None → NoneDue (moments_of n ns)
  none_due none i m due =
      let (x, below, there, same) = leaf_due i m due in
      subst (λ o. NoLater o (Some x)) none (subst (NoLater (node_at ns 1)) there (root_no_later n ns tree.least (n + i) (n + i) (omega arith) (omega (arith, below)) (omega (arith, below))))

  pub none_if : (o : Option Due) → o ≡ node_at ns 1 → IfNone o (NoneDue (moments_of n ns))
  none_if None is = none_due (sym is)
  none_if (Some d) is = tt

-- ---- the tree of none

abbrev nothings : ℕ → List (Option Due)
nothings k = replicate k None

nothing_at : (count k : ℕ) → node_at (nothings count) k ≡ None
nothing_at (suc count) (suc k) = nothing_at count k
nothing_at _ _ = refl

module _ (n : ℕ) (ns : List (Option Due)) (are : ns ≡ nothings (n + n)) where
  none : (k : ℕ) → node_at ns k ≡ None
  none k = ap (λ xs. node_at xs k) are ∙ nothing_at (n + n) k

  pub none_tree : n ≤ most_routers → IsTree n ns
  none_tree few = record {
    few = few;
    size = ap length are ∙ length-replicate (n + n) None;
    routers = λ i d below is. absurd (None_not_Some (sym (none (n + i)) ∙ is));
    least = λ k first below. none k ∙ sym (none (k + k + 1)) ∙ ap (λ o. lesser o (node_at ns (k + k + 1))) (sym (none (k + k)));
  }

  pub none_moments : moments_of n ns ≡ replicate n None
  none_moments =
      ap (moments_of n) are
      ∙ ap (map (option_map (λ (d : Due). d.moment))) (drop-replicate n (n + n) None ∙ ap nothings (let left : (n + n) - n ≡ n = omega arith in left))
      ∙ mapped n
    where
      mapped : (k : ℕ) → map (option_map (λ (d : Due). d.moment)) (nothings k) ≡ replicate k None
      mapped zero = refl
      mapped (suc k) = ap (λ xs. None ∷ xs) (mapped k)
