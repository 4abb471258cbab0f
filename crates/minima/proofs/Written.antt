-- A leaf that is written, and the nodes above it one after another.
use Rattle.std.proofs.Common.{refl, sym, ap, ◌∙◌, arith, inl, inr, ◌≡◌, ◌≢◌, ◌⊎◌, ℕ, ◌+◌, ◌<◌, ◌≤◌, List, drop, length, map, set, Option, Some, None, option_map}
use Rattle.std.proofs.{lemmas.Bool.cases_eq, lemmas.List.drop-set-add, lemmas.List.map-set}
use Rattle.network_model.proofs.ListLaws.{None_not_Some, Some_injective}
use Rattle.minima.specs.declared.due.Due.{Due}
use Rattle.minima.specs.Trees.{HasLeast, HasLeastBut, IsTree, lesser, moments_of, node_at, pair_of}
use Rattle.minima.proofs.Nodes.{leaf_same, node_set_other, node_set_same}

-- a leaf is written: the node above it may be wrong
pub leaf_written : (n : ℕ) (ns : List (Option Due)) (leaf : ℕ) (x : Option Due) → n ≤ leaf → HasLeast n ns → HasLeastBut n (set ns leaf x) leaf
leaf_written n ns leaf x over least k first below no_left no_right =
    node_set_other ns leaf k x (λ e. absurd (omega (arith, e, over, below)))
    ∙ least k first below
    ∙ ap (λ a. lesser a (node_at ns (k + k + 1))) (sym (node_set_other ns leaf (k + k) x no_left))
    ∙ ap (lesser (node_at (set ns leaf x) (k + k))) (sym (node_set_other ns leaf (k + k + 1) x no_right))

-- the node above is put right: the one above that may be wrong
pub climbed : (n : ℕ) (ns : List (Option Due)) (c p : ℕ) (x : Option Due) → length ns ≡ n + n → 1 ≤ p → p < n → (c ≡ p + p) ⊎ (c ≡ p + p + 1) → HasLeastBut n ns c
    → x ≡ lesser (node_at ns (p + p)) (node_at ns (p + p + 1)) → HasLeastBut n (set ns p x) p
climbed n ns c p x size one inner half above is k first below no_left no_right = by_place (cases_eq k p)
  where
    below_same : lesser (node_at ns (k + k)) (node_at ns (k + k + 1)) ≡ lesser (node_at (set ns p x) (k + k)) (node_at (set ns p x) (k + k + 1))
    below_same =
        ap (λ a. lesser a (node_at ns (k + k + 1))) (sym (node_set_other ns p (k + k) x no_left))
        ∙ ap (lesser (node_at (set ns p x) (k + k))) (sym (node_set_other ns p (k + k + 1) x no_right))

    not_left : k ≢ p → (c ≡ p + p) ⊎ (c ≡ p + p + 1) → k + k ≡ c → ⊥
    not_left apart (inl even) e = apart (omega (arith, even, e))
    not_left apart (inr odd) e = absurd (omega (arith, odd, e))

    not_right : k ≢ p → (c ≡ p + p) ⊎ (c ≡ p + p + 1) → k + k + 1 ≡ c → ⊥
    not_right apart (inl even) e = absurd (omega (arith, even, e))
    not_right apart (inr odd) e = apart (omega (arith, odd, e))

    by_place : (k ≡ p) ⊎ (k ≢ p) → node_at (set ns p x) k ≡ lesser (node_at (set ns p x) (k + k)) (node_at (set ns p x) (k + k + 1))
    by_place (inl e) =
        ap (node_at (set ns p x)) e ∙ node_set_same ns p x (omega (arith, size, inner)) ∙ is
        ∙ ap (λ j. lesser (node_at ns (j + j)) (node_at ns (j + j + 1))) (sym e) ∙ below_same
    by_place (inr apart) = node_set_other ns p k x apart ∙ above k first below (not_left apart half) (not_right apart half) ∙ below_same

-- a node that is not the root is below another
pub parent_there : (c p : ℕ) → (c ≡ p + p) ⊎ (c ≡ p + p + 1) → 1 < c → 1 ≤ p
parent_there c p (inl even) more = omega (arith, even, more)
parent_there c p (inr odd) more = omega (arith, odd, more)

-- above the root there is none
pub climbed_all : (n : ℕ) (ns : List (Option Due)) (c : ℕ) → c ≤ 1 → HasLeastBut n ns c → HasLeast n ns
climbed_all n ns c root above k first below = above k first below (λ e. absurd (omega (arith, e, root, first))) (λ e. absurd (omega (arith, e, root, first)))

-- ---- the tree after that

pair_router : (r : ℕ) (moment : Option ℕ) (d : Due) → pair_of r moment ≡ Some d → d.router ≡ r
pair_router r None d is = absurd (None_not_Some is)
pair_router r (Some m) d is = sym (ap (λ (x : Due). x.router) (Some_injective is))

module _ (n : ℕ) (ns new : List (Option Due)) (r : ℕ) (moment : Option ℕ) (tree : IsTree n ns) (here : r < n) (leaves : drop n new ≡ drop n (set ns (n + r) (pair_of r moment))) where
  pub tree_written : length new ≡ n + n → HasLeast n new → IsTree n new
  tree_written size least = record { few = tree.few; size = size; routers = routers; least = least }
    where
      routers : (i : ℕ) (d : Due) → i < n → node_at new (n + i) ≡ Some d → d.router ≡ i
      routers i d below is = by_place (cases_eq i r) (sym (leaf_same n i new (set ns (n + r) (pair_of r moment)) leaves) ∙ is)
        where
          by_place : (i ≡ r) ⊎ (i ≢ r) → node_at (set ns (n + r) (pair_of r moment)) (n + i) ≡ Some d → d.router ≡ i
          by_place (inl e) at =
              let size_before = tree.size in
              let written : pair_of r moment ≡ Some d = sym (node_set_same ns (n + r) (pair_of r moment) (omega (arith, size_before, here))) ∙ ap (λ j. node_at (set ns (n + r) (pair_of r moment)) (n + j)) (sym e) ∙ at in
              pair_router r moment d written ∙ sym e
          by_place (inr apart) at = tree.routers i d below (sym (node_set_other ns (n + r) (n + i) (pair_of r moment) (λ e. apart (omega (arith, e)))) ∙ at)

  -- the moment of that router is written, and no other
  pub moments_written : moments_of n new ≡ set (moments_of n ns) r moment
  moments_written =
      ap (map (option_map (λ (d : Due). d.moment))) (leaves ∙ drop-set-add n ns r (pair_of r moment))
      ∙ map-set (option_map (λ (d : Due). d.moment)) (drop n ns) r (pair_of r moment)
      ∙ ap (set (moments_of n ns) r) (back moment)
    where
      back : (o : Option ℕ) → option_map (λ (d : Due). d.moment) (pair_of r o) ≡ o
      back None = refl
      back (Some m) = refl
