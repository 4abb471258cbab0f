-- The rows of a tree.
use Rattle.std.proofs.Common.{ℕ, zero, suc, subst, ◌≡◌, ◌+◌, ◌-◌, ◌/◌, ◌<◌, Option, Some, None, arith, refl, sym, ap, ◌∙◌, ⊎_elim}
use Rattle.std.proofs.lemmas.Bool.{cases_lt}
use Rattle.tree_bitmap.specs.Tree.{blank, path_node, path_entry, IsChild, IsResult, IsLaidOut}
use Rattle.tree_bitmap.specs.declared.node.Node.{Node}
use Rattle.network_model.specs.declared.route.Entry.{Entry}
use Rattle.bitmaps.proofs.Options.{none≢some, Some_same}
use Rattle.tree_bitmap.proofs.Paths.{is_some-from, empty_has_no_child, empty_has_no_result, root_at, blank_ends, entry-blank, row-some, row-none}
use Rattle.tree_bitmap.proofs.LongestRow.{gone}

-- a tree whose root is blank has no rows
pub empty_rows : (nodes : ℕ → Option Node) (results : ℕ → Option Entry) (q m : ℕ) → nodes 0 ≡ Some blank → path_entry nodes results q m ≡ None
empty_rows nodes results q m e =
    ⊎_elim
    (λ l. let z : m / 4 - 1 + 1 ≡ m / 4 = omega arith in
    row-none nodes results q m (ap (path_node nodes q) (sym z) ∙ gone nodes q 1 (m / 4 - 1) (blank_ends nodes q 0 0 (root_at nodes q) e)))
    (λ l. let z : 0 ≡ m / 4 = omega arith in
    row-some nodes results q m 0 blank (ap (path_node nodes q) (sym z) ∙ root_at nodes q) e ∙ entry-blank results _)
    (cases_lt 0 (m / 4))

module _ (nodes : ℕ → Option Node) (results : ℕ → Option Entry) (root : nodes 0 ≡ Some blank) (alone : (k : ℕ) → 0 < k → nodes k ≡ None) where
  is_blank : (j : ℕ) (a : Node) → nodes j ≡ Some a → a ≡ blank
  is_blank zero a e = Some_same (nodes 0) a blank e root
  is_blank (suc j) a e = absurd (none≢some (nodes (suc j)) a (alone (suc j) (omega arith)) e)

  -- a blank node has no child
  no_child : (j : ℕ) (a : Node) → nodes j ≡ Some a → (k : ℕ) → IsChild a k → ⊥
  no_child j a e k q = empty_has_no_child blank (refl, refl) k (subst (λ x. IsChild x k) (is_blank j a e) q)

  -- a blank node has no result
  no_result : (j : ℕ) (a : Node) → nodes j ≡ Some a → (k : ℕ) → IsResult a k → ⊥
  no_result j a e k q = empty_has_no_result blank (refl, refl) k (subst (λ x. IsResult x k) (is_blank j a e) q)

  -- a tree of a blank root alone is sound
  pub root_sound : IsLaidOut nodes results
  root_sound = record {
    root = is_some-from (nodes 0) blank root;
    children_used = λ j a e k q. absurd (no_child j a e k q);
    results_used = λ j a e k q. absurd (no_result j a e k q);
    children_apart = λ i j a b e f n k q r. no_child i a e k q;
    results_apart = λ i j a b e f n k q r. no_result i a e k q;
    root_apart = λ j a e q. no_child j a e 0 q;
    fifteen_bits = λ j a e. let z : a.internal ≡ 0 = ap (λ x. x.internal) (is_blank j a e) in omega (arith, z);
    not_its_own_child = λ j a e q. no_child j a e j q;
  }
