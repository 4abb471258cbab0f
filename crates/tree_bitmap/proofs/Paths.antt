-- Walks from the root.
use Rattle.std.proofs.Common.{ℕ, zero, suc, ◌≡◌, ◌≢◌, ◌⊎◌, inl, inr, ◌+◌, ◌/◌, ◌%◌, Option, Some, None, true, cond, eqb, is_some, option_and_then, arith, refl, ap, subst, ◌∙◌}
use Rattle.std.specs.{Int.bit_at, Int.RustNames.count_ones}
use Rattle.std.proofs.lemmas.Bool.{cond-true, cond-false, eq-eqb, ne_eqb, cases_eq}
use Rattle.std.proofs.lemmas.Nat.Bits.{bit_at-zero}
use Rattle.bitmaps.specs.Bits.{rank}
use Rattle.bitmaps.proofs.Options.{Some_same, cases_option, none≢some, some-from}
use Rattle.bitmaps.proofs.Ranks.{ones_of_zero, rank_lt}
use Rattle.tree_bitmap.specs.Tree.{IsEmpty, blank, nibble, child, HasChild, internal_bit, IsChild, IsResult, child_by, child_under, path_node, result_place, entry_at_bit, node_cell, path_place, path_entry, IsLaidOut, with_children}
use Rattle.tree_bitmap.specs.declared.node.Node.{Node}
use Rattle.network_model.specs.declared.route.Entry.{Entry}

-- where there is something, it is some
pub is_some-from : {A : Type 0} (o : Option A) (x : A) → o ≡ Some x → is_some o ≡ true
is_some-from o x e = ap is_some e

-- a child stands in the block of the children
pub child_in_block : (a : Node) (four : ℕ) → HasChild a four → IsChild a (child a four)
child_in_block a four h = (omega arith, omega (arith, rank_lt a.external four h))

module _ (nodes : ℕ → Option Node) (path depth : ℕ) where
  -- where a path has no node, it has none further down
  pub step_none : path_node nodes path depth ≡ None → path_node nodes path (suc depth) ≡ None
  unfolding path_node child_under
  step_none e = ap (child_under nodes (nibble path depth)) e

  -- the next node of a path, by the bit of the node above
  step_is : (j : ℕ) (a : Node) → path_node nodes path depth ≡ Some j → nodes j ≡ Some a
      → path_node nodes path (suc depth) ≡ cond (eqb (bit_at a.external (nibble path depth)) 1) (Some (child a (nibble path depth))) None
  unfolding path_node child_under child_by
  step_is j a e n = ap (child_under nodes (nibble path depth)) e ∙ ap (child_by (nibble path depth)) n

  -- where the node has a child for the four bits, the path goes on to it
  pub step_yes : (j : ℕ) (a : Node) → path_node nodes path depth ≡ Some j → nodes j ≡ Some a → HasChild a (nibble path depth)
      → path_node nodes path (suc depth) ≡ Some (child a (nibble path depth))
  step_yes j a e n h = step_is j a e n ∙ cond-true _ _ _ (eq-eqb _ 1 h)

  -- where it has none, the path ends
  pub step_no : (j : ℕ) (a : Node) → path_node nodes path depth ≡ Some j → nodes j ≡ Some a → bit_at a.external (nibble path depth) ≢ 1
      → path_node nodes path (suc depth) ≡ None
  step_no j a e n h = step_is j a e n ∙ cond-false _ _ _ (ne_eqb _ 1 h)

-- each path begins at the root
pub root_at : (nodes : ℕ → Option Node) (path : ℕ) → path_node nodes path 0 ≡ Some 0
unfolding path_node
root_at nodes path = refl

-- what a step from one depth to the next went through
pub record IsStep (nodes : ℕ → Option Node) (path depth j : ℕ) : Type 0 where
  pub i : ℕ
  pub a : Node
  pub from : path_node nodes path depth ≡ Some i
  pub cell : nodes i ≡ Some a
  pub has : HasChild a (nibble path depth)
  pub is : child a (nibble path depth) ≡ j

module _ (nodes : ℕ → Option Node) (path depth j : ℕ) (e : path_node nodes path (suc depth) ≡ Some j) where
  -- a node further down was reached through a bit that is set
  step_by_bit : (i : ℕ) (a : Node) → path_node nodes path depth ≡ Some i → nodes i ≡ Some a
      → (bit_at a.external (nibble path depth) ≡ 1) ⊎ (bit_at a.external (nibble path depth) ≡ 1 → ⊥) → IsStep nodes path depth j
  step_by_bit i a f c (inl h) = record { i = i; a = a; from = f; cell = c; has = h; is = Some_same _ _ j (step_yes nodes path depth i a f c h) e }
  step_by_bit i a f c (inr h) = absurd (none≢some _ j (step_no nodes path depth i a f c h) e)

  -- it was reached from a node
  step_from : ((i : ℕ) → path_node nodes path depth ≡ Some i → is_some (nodes i) ≡ true)
      → (path_node nodes path depth ≡ None) ⊎ ((i : ℕ) × (path_node nodes path depth ≡ Some i)) → IsStep nodes path depth j
  step_from used (inl n) = absurd (none≢some _ j (step_none nodes path depth n) e)
  step_from used (inr w) =
      let c = some-from (nodes w.0) (used w.0 w.1) in
      step_by_bit w.0 c.0 w.1 c.1 (cases_eq (bit_at c.0.external (nibble path depth)) 1)

module _ (nodes : ℕ → Option Node) (results : ℕ → Option Entry) (sound : IsLaidOut nodes results) (path : ℕ) where
  -- the walk stays within the cells in use
  pub node_used : (depth j : ℕ) → path_node nodes path depth ≡ Some j → is_some (nodes j) ≡ true
  node_used zero j e = let z : 0 ≡ j = Some_same _ 0 j (root_at nodes path) e in subst (λ k. is_some (nodes k) ≡ true) z sound.root
  node_used (suc depth) j e =
      let s = step_from nodes path depth j e (node_used depth) (cases_option (path_node nodes path depth)) in
      subst (λ k. is_some (nodes k) ≡ true) s.is (sound.children_used s.i s.a s.cell _ (child_in_block s.a (nibble path depth) s.has))

  -- what the last step to a node went through
  pub step_of : (depth j : ℕ) → path_node nodes path (suc depth) ≡ Some j → IsStep nodes path depth j
  step_of depth j e = step_from nodes path depth j e (node_used depth) (cases_option (path_node nodes path depth))

-- no bit of 0 is set
pub zero_bit : (i : ℕ) → bit_at 0 i ≢ 1
zero_bit i h = let z : bit_at 0 i ≡ 0 = bit_at-zero i in omega (arith, z, h)

-- a path ends at a blank node
pub blank_ends : (nodes : ℕ → Option Node) (path depth j : ℕ) → path_node nodes path depth ≡ Some j → nodes j ≡ Some blank
    → path_node nodes path (suc depth) ≡ None
blank_ends nodes path depth j e c = step_no nodes path depth j blank e c (zero_bit (nibble path depth))

-- a blank node has no entries
pub entry-blank : (results : ℕ → Option Entry) (bit : ℕ) → entry_at_bit results bit (Some blank) ≡ None
unfolding result_place
entry-blank results bit = ap (option_and_then results) (cond-false _ _ _ (ne_eqb _ 1 (zero_bit bit)))

-- where there is no node, there are no entries
pub entry-none : (results : ℕ → Option Entry) (bit : ℕ) → entry_at_bit results bit None ≡ None
unfolding result_place
entry-none results bit = refl

-- other children change no entry
pub entry-with_children : (results : ℕ → Option Entry) (bit : ℕ) (a : Node) (external base : ℕ) → entry_at_bit results bit (Some (with_children a external base)) ≡ entry_at_bit results bit (Some a)
unfolding result_place
entry-with_children results bit a external base = refl

-- a row, by the node that it would stand in
pub row-some : (nodes : ℕ → Option Node) (results : ℕ → Option Entry) (path len j : ℕ) (a : Node) → path_node nodes path (len / 4) ≡ Some j → nodes j ≡ Some a
    → path_entry nodes results path len ≡ entry_at_bit results (internal_bit (nibble path (len / 4)) (len % 4)) (Some a)
unfolding path_entry path_place node_cell
row-some nodes results path len j a e c =
    ap (λ o. entry_at_bit results (internal_bit (nibble path (len / 4)) (len % 4)) (node_cell nodes o)) e
    ∙ ap (entry_at_bit results (internal_bit (nibble path (len / 4)) (len % 4))) c

-- where there is no node, there is no row
pub row-none : (nodes : ℕ → Option Node) (results : ℕ → Option Entry) (path len : ℕ) → path_node nodes path (len / 4) ≡ None → path_entry nodes results path len ≡ None
unfolding path_entry path_place node_cell
row-none nodes results path len e =
    ap (λ o. entry_at_bit results (internal_bit (nibble path (len / 4)) (len % 4)) (node_cell nodes o)) e
    ∙ entry-none results (internal_bit (nibble path (len / 4)) (len % 4))

pub empty_has_no_child : (a : Node) → IsEmpty a → (k : ℕ) → IsChild a k → ⊥
empty_has_no_child a e k q = omega (arith, q.0, q.1, ap count_ones e.0, ones_of_zero)

pub empty_has_no_result : (a : Node) → IsEmpty a → (k : ℕ) → IsResult a k → ⊥
empty_has_no_result a e k q = omega (arith, q.0, q.1, ap count_ones e.1, ones_of_zero)

-- an entry whose bit is set, and one whose bit is not
pub entry-set : (results : ℕ → Option Entry) (bit : ℕ) (a : Node) → bit_at a.internal bit ≡ 1
    → entry_at_bit results bit (Some a) ≡ results (a.result_base + rank a.internal bit)
unfolding result_place
entry-set results bit a h = ap (option_and_then results) (cond-true _ _ _ (eq-eqb _ 1 h))

-- an entry whose bit is not set
pub entry-clear : (results : ℕ → Option Entry) (bit : ℕ) (a : Node) → bit_at a.internal bit ≢ 1 → entry_at_bit results bit (Some a) ≡ None
unfolding result_place
entry-clear results bit a h = ap (option_and_then results) (cond-false _ _ _ (ne_eqb _ 1 h))

-- a result stands in the block of the results
pub result_in_block : (a : Node) (bit : ℕ) → bit_at a.internal bit ≡ 1 → IsResult a (a.result_base + rank a.internal bit)
result_in_block a bit h = (omega arith, omega (arith, rank_lt a.internal bit h))

-- where the result of a bit stands, whether the bit is set or not
pub place-set : (bit : ℕ) (a : Node) → bit_at a.internal bit ≡ 1 → result_place bit (Some a) ≡ Some (a.result_base + rank a.internal bit)
unfolding result_place
place-set bit a h = cond-true _ _ _ (eq-eqb _ 1 h)

-- the place of a result whose bit is not set
pub place-clear : (bit : ℕ) (a : Node) → bit_at a.internal bit ≢ 1 → result_place bit (Some a) ≡ None
unfolding result_place
place-clear bit a h = cond-false _ _ _ (ne_eqb _ 1 h)

-- the place of a row's result, by the node that the row would stand in
pub place-some : (nodes : ℕ → Option Node) (path len j : ℕ) (a : Node) → path_node nodes path (len / 4) ≡ Some j → nodes j ≡ Some a
    → path_place nodes path len ≡ result_place (internal_bit (nibble path (len / 4)) (len % 4)) (Some a)
unfolding path_place node_cell
place-some nodes path len j a e c =
    ap (λ o. result_place (internal_bit (nibble path (len / 4)) (len % 4)) (node_cell nodes o)) e
    ∙ ap (result_place (internal_bit (nibble path (len / 4)) (len % 4))) c

-- where there is no node, no result has a place
pub place-none : (nodes : ℕ → Option Node) (path len : ℕ) → path_node nodes path (len / 4) ≡ None → path_place nodes path len ≡ None
unfolding path_place node_cell result_place
place-none nodes path len e = ap (λ o. result_place (internal_bit (nibble path (len / 4)) (len % 4)) (node_cell nodes o)) e
