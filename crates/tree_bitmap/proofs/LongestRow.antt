-- The longest row on a path.
use Rattle.std.proofs.Common.{ℕ, zero, suc, ◌≡◌, ◌≢◌, ◌⊎◌, inl, inr, ◌+◌, ◌-◌, ◌*◌, ◌/◌, ◌%◌, ◌^◌, ◌<◌, ◌≤◌, min, Option, Some, None, is_some, true, option_and_then, arith, sym, ap, subst, ◌∙◌}
use Rattle.std.specs.Int.{bit_at}
use Rattle.std.proofs.lemmas.Bool.{cases_eq}
use Rattle.bitmaps.specs.{Bits.rank, Greatest.GreatestBelow, Greatest.longer}
use Rattle.bitmaps.proofs.Finds.{GreatestBelow-end, GreatestBelow-longer}
use Rattle.tree_bitmap.specs.Bits.{nibble, path_top, internal_bit, lengths_within}
use Rattle.tree_bitmap.specs.Tree.{path_node, entry_at_bit, result_place, path_place, path_entry, node_cell, IsLaidOut}
use Rattle.tree_bitmap.specs.declared.node.Node.{Node}
use Rattle.network_model.specs.declared.route.Entry.{Entry}
use Rattle.bitmaps.proofs.Options.{cases_option, some-from, none≢some, Some_same}
use Rattle.tree_bitmap.proofs.Paths.{node_used, step_none, step_no, place-some, place-none, place-set, place-clear, result_in_block}
use Rattle.tree_bitmap.proofs.{FirstBits.parts_from_first, OnePath.path_node-same}

-- where the walk has ended it stays ended
pub gone : (nodes : ℕ → Option Node) (path depth more : ℕ) → path_node nodes path depth ≡ None → path_node nodes path (more + depth) ≡ None
gone nodes path depth zero e = let z : zero + depth ≡ depth = omega arith in ap (path_node nodes path) z ∙ e
gone nodes path depth (suc more) e =
    let z : suc more + depth ≡ suc (more + depth) = omega arith in
    ap (path_node nodes path) z ∙ step_none nodes path (more + depth) (gone nodes path depth more e)

module _ (nodes : ℕ → Option Node) (path : ℕ) where
  -- where the result of a prefix that ends in the node at a depth stands
  place_in : (depth len j : ℕ) (a : Node) → len < 4 → path_node nodes path depth ≡ Some j → nodes j ≡ Some a
      → path_place nodes path (4 * depth + len) ≡ result_place (internal_bit (nibble path depth) len) (Some a)
  place_in depth len j a h e c =
      let d : depth ≡ (4 * depth + len) / 4 = omega arith in
      let r : len ≡ (4 * depth + len) % 4 = omega arith in
      place-some nodes path (4 * depth + len) j a (ap (path_node nodes path) (sym d) ∙ e) c
      ∙ sym (ap (λ x. result_place (internal_bit (nibble path x) len) (Some a)) d
      ∙ ap (λ x. result_place (internal_bit (nibble path ((4 * depth + len) / 4)) x) (Some a)) r)

  -- past a node without a child for the path no prefix ends
  none_after : (depth j : ℕ) (a : Node) → path_node nodes path depth ≡ Some j → nodes j ≡ Some a → bit_at a.external (nibble path depth) ≢ 1
      → (k : ℕ) → 4 * (depth + 1) ≤ k → path_place nodes path k ≡ None
  none_after depth j a e c h k l =
      let m : k / 4 - suc depth + suc depth ≡ k / 4 = omega arith in
      place-none nodes path k
      (ap (path_node nodes path) (sym m) ∙ gone nodes path (suc depth) (k / 4 - suc depth) (step_no nodes path depth j a e c h))

  -- one node more is read
  pub best_after : (depth four j : ℕ) (a : Node) (own above best : Option (ℕ × ℕ)) → depth ≤ 8
      → path_node nodes path depth ≡ Some j → nodes j ≡ Some a → four ≡ nibble path depth
      → GreatestBelow (λ len. result_place (internal_bit four len) (Some a)) (lengths_within depth) own
      → (own ≡ None → GreatestBelow (path_place nodes path) (min (4 * depth) 33) above)
      → best ≡ longer own (4 * depth) above
      → GreatestBelow (path_place nodes path) (min (4 * (depth + 1)) 33) best
  best_after depth four j a own above best h e c f o b is =
      let n : min (4 * depth) 33 ≡ 4 * depth = omega arith in
      let m : 4 * depth + lengths_within depth ≡ min (4 * (depth + 1)) 33 = omega arith in
      let few : lengths_within depth ≤ 4 = omega arith in
      subst (λ x. GreatestBelow (path_place nodes path) x best) m
      (subst (λ x. GreatestBelow (path_place nodes path) (4 * depth + lengths_within depth) x) (sym is)
      (GreatestBelow-longer (path_place nodes path) (λ len. result_place (internal_bit (nibble path depth) len) (Some a)) (4 * depth) (lengths_within depth) own above
      (λ k l. place_in depth k j a (omega (arith, l, few)) e c)
      (subst (λ x. GreatestBelow (λ len. result_place (internal_bit x len) (Some a)) (lengths_within depth) own) f o)
      (λ none. subst (λ x. GreatestBelow (path_place nodes path) x above) n (b none))))

  -- the last node is read
  pub best_last : (depth four j : ℕ) (a : Node) (best : Option (ℕ × ℕ)) → depth ≤ 8 → path_node nodes path depth ≡ Some j → nodes j ≡ Some a → four ≡ nibble path depth
      → bit_at a.external four ≢ 1 → GreatestBelow (path_place nodes path) (min (4 * (depth + 1)) 33) best → GreatestBelow (path_place nodes path) 33 best
  best_last depth four j a best h e c f unset b =
      GreatestBelow-end (path_place nodes path) (min (4 * (depth + 1)) 33) 33 best (omega arith)
      (λ k l m. none_after depth j a e c (λ x. unset (ap (bit_at a.external) f ∙ x)) k (omega arith)) b

-- a row goes by the first bits alone
pub row_covers : (nodes : ℕ → Option Node) (results : ℕ → Option Entry) (p q len : ℕ) → len < 36 → path_top p len ≡ path_top q len
    → path_entry nodes results p len ≡ path_entry nodes results q len
unfolding path_entry path_place
row_covers nodes results p q len h e =
    let d : 4 * (len / 4) + len % 4 ≡ len = omega arith in
    let parts = parts_from_first p q (len / 4) (len % 4) (omega arith) (omega arith) (subst (λ k. path_top p k ≡ path_top q k) (sym d) e) in
    ap (λ x. entry_at_bit results (2 ^ (len % 4) - 1 + x) (node_cell nodes (path_node nodes p (len / 4)))) parts.1
    ∙ ap (λ o. entry_at_bit results (internal_bit (nibble q (len / 4)) (len % 4)) (node_cell nodes o)) (path_node-same nodes p q (len / 4) parts.0)

-- what is found at its place is what is found
pub best_row : (nodes : ℕ → Option Node) (results : ℕ → Option Entry) (path len place : ℕ) (entry : Entry)
    → GreatestBelow (path_place nodes path) 33 (Some (len, place)) → results place ≡ Some entry → GreatestBelow (path_entry nodes results path) 33 (Some (len, entry))
unfolding path_entry
best_row nodes results path len place entry b e = (b.0, ap (option_and_then results) b.1 ∙ e, λ k l h. ap (option_and_then results) (b.2 k l h))

-- where no place is found, there is no row
pub no_row : (nodes : ℕ → Option Node) (results : ℕ → Option Entry) (path : ℕ) → GreatestBelow (path_place nodes path) 33 None → GreatestBelow (path_entry nodes results path) 33 None
unfolding path_entry
no_row nodes results path b = λ k h. ap (option_and_then results) (b k h)

module _ (nodes : ℕ → Option Node) (results : ℕ → Option Entry) (sound : IsLaidOut nodes results) (path len place : ℕ) where
  -- a bit that is set has its result in use
  used_at : (j : ℕ) (a : Node) (bit : ℕ) → nodes j ≡ Some a → result_place bit (Some a) ≡ Some place
      → (bit_at a.internal bit ≡ 1) ⊎ (bit_at a.internal bit ≡ 1 → ⊥) → is_some (results place) ≡ true
  used_at j a bit c e (inl h) =
      let at : a.result_base + rank a.internal bit ≡ place = Some_same _ _ _ (place-set bit a h) e in
      subst (λ k. is_some (results k) ≡ true) at (sound.results_used j a c _ (result_in_block a bit h))
  used_at j a bit c e (inr h) = absurd (none≢some _ _ (place-clear bit a h) e)

  -- the place is in use, as the node is
  by_node : path_place nodes path len ≡ Some place → (path_node nodes path (len / 4) ≡ None) ⊎ ((j : ℕ) × (path_node nodes path (len / 4) ≡ Some j)) → is_some (results place) ≡ true
  by_node e (inl n) = absurd (none≢some _ _ (place-none nodes path len n) e)
  by_node e (inr (j, at)) =
      let c = some-from (nodes j) (node_used nodes results sound path (len / 4) j at) in
      let bit = internal_bit (nibble path (len / 4)) (len % 4) in
      used_at j c.0 bit c.1 (sym (place-some nodes path len j c.0 at c.1) ∙ e) (cases_eq (bit_at c.0.internal bit) 1)

  -- a result that stands at a place is in use there
  pub place_used : path_place nodes path len ≡ Some place → is_some (results place) ≡ true
  place_used e = by_node e (cases_option (path_node nodes path (len / 4)))
