-- What the calls of a tree leave, as its code computes it.
use Rattle.std.proofs.Common.{ℕ, suc, ◌≡◌, ◌≢◌, ◌+◌, ◌*◌, ◌^◌, ◌<◌, ◌≤◌, Option, Some, true, is_some, count_ones, arith, refl, sym, ap, subst, ◌∙◌}
use Rattle.std.specs.Int.{bit_at}
use Rattle.std.proofs.lemmas.Nat.{ones-le}
use mathlib.Core.Path.{fun_ext}
use Rattle.node_pool.specs.Pool.{IsGrown, IsCellWritten}
use Rattle.bitmaps.specs.Bits.{rank}
use Rattle.bitmaps.proofs.{HighestBit.clear_bit, Options.Some_same}
use Rattle.tree_bitmap.specs.{Bits.nibble, Bits.path_top, Bits.internal_bit, declared.node.Node.Node}
use Rattle.tree_bitmap.specs.Tree.{blank, path_node, path_entry, IsLaidOut, SetsRow, with_child, with_result, IsChild, IsResult}
use Rattle.network_model.specs.declared.route.Entry.{Entry}
use Rattle.bitmaps.proofs.Ranks.{ones-add, add_lt, bit_at-add_same, rank-add_below, ones_of_zero}
use Rattle.tree_bitmap.proofs.{Paths.child_in_block, Paths.step_yes, Paths.result_in_block, NewChild.gap_cell, NewChild.new_child, MovedResults.SetsBit}
use Rattle.tree_bitmap.proofs.MovedChildren.{MovesChildren, moved_sound, moved_rows, index_on}
use Rattle.tree_bitmap.proofs.NewResult.{row_hit, row_miss, replace_sets, replace_sound, insert_sets, insert_sound}

-- where there is room for one bit more, at most 15 are set
pub few_from : (n k m : ℕ) → m < 2 ^ 16 → m ≡ n + 2 ^ k → bit_at n k ≢ 1 → count_ones n ≤ 15
few_from n k m l e h = omega (arith, ones-le 16 (n + 2 ^ k) (subst (λ x. x < 2 ^ 16) e l), ones-add n k (clear_bit n k h))

-- where one of 15 bits is clear, at most 14 are set
pub few_results : (n k : ℕ) → n < 2 ^ 15 → k < 15 → bit_at n k ≢ 1 → count_ones n ≤ 14
few_results n k l b h = omega (arith, ones-le 15 (n + 2 ^ k) (add_lt n k 15 l b (clear_bit n k h)), ones-add n k (clear_bit n k h))

-- the same rows before the change
pub sets_from : (f g h : ℕ → ℕ → Option Entry) (path len len' : ℕ) (entry : Option Entry) → ((q m : ℕ) → g q m ≡ f q m) → len' ≡ len → SetsRow g h path len' entry → SetsRow f h path len entry
sets_from f g h path len len' entry same e w = record {
  hit = λ q p. subst (λ m. path_top q m ≡ path_top path m → h q m ≡ entry) e (w.hit q) p;
  miss = λ q m l b out. w.miss q m l b (λ x. out (x ∙ e)) ∙ same q m;
}

-- a blank node has no children
pub blank_count : (o : Option Node) (a : Node) → o ≡ Some a → o ≡ Some blank → count_ones a.external ≡ 0
blank_count o a e f = ap (λ x. count_ones x.external) (Some_same o a blank e f) ∙ ones_of_zero

-- cells with the same contents are as sound
pub same_sound : (N N' : ℕ → Option Node) (G G' : ℕ → Option Entry) → ((k : ℕ) → N' k ≡ N k) → ((k : ℕ) → G' k ≡ G k) → IsLaidOut N G → IsLaidOut N' G'
same_sound N N' G G' e f s = subst (λ n. IsLaidOut n G') (fun_ext (λ k. sym (e k))) (subst (λ g. IsLaidOut N g) (fun_ext (λ k. sym (f k))) s)

-- where the child of the node on a path stands
pub child_place_after : (N : ℕ → Option Node) (path depth index : ℕ) (a : Node) (four below : ℕ) → path_node N path depth ≡ Some index → N index ≡ Some a
    → four ≡ nibble path depth → below ≡ rank a.external four → bit_at a.external four ≡ 1 → path_node N path (depth + 1) ≡ Some (a.child_base + below)
child_place_after N path depth index a four below at here f b has =
    let d : suc depth ≡ depth + 1 = omega arith in
    let h : bit_at a.external (nibble path depth) ≡ 1 = subst (λ k. bit_at a.external k ≡ 1) f has in
    ap (path_node N path) (sym d) ∙ step_yes N path depth index a at here h
    ∙ ap (λ r. Some (a.child_base + r)) (ap (rank a.external) (sym f) ∙ sym b)

-- the child of a node is in use
pub child_used : (N : ℕ → Option Node) (G : ℕ → Option Entry) (index : ℕ) (a : Node) (four below : ℕ) → IsLaidOut N G → N index ≡ Some a
    → below ≡ rank a.external four → bit_at a.external four ≡ 1 → is_some (N (a.child_base + below)) ≡ true
child_used N G index a four below sound here b has =
    sound.children_used index a here (a.child_base + below) (subst (λ r. IsChild a (a.child_base + r)) (sym b) (child_in_block a four has))

-- the result of a bit that is set is in use
pub result_used : (N : ℕ → Option Node) (G : ℕ → Option Entry) (index : ℕ) (a : Node) (bit below : ℕ) → IsLaidOut N G → N index ≡ Some a
    → below ≡ rank a.internal bit → bit_at a.internal bit ≡ 1 → is_some (G (a.result_base + below)) ≡ true
result_used N G index a bit below sound here b has =
    sound.results_used index a here (a.result_base + below) (subst (λ r. IsResult a (a.result_base + r)) (sym b) (result_in_block a bit has))

-- cells that are the same have the same meaning
pub same_cells : {T : Type 0} (f g : ℕ → Option T) → ((k : ℕ) → g k ≡ f k) → g ≡ f
same_cells f g h = fun_ext h

module _ (N M N' : ℕ → Option Node) (G : ℕ → Option Entry) (index path depth : ℕ) (a : Node) (four below size external base : ℕ)
    (sound : IsLaidOut N G) (at : path_node N path depth ≡ Some index) (here : N index ≡ Some a)
    (f : four ≡ nibble path depth) (b : below ≡ rank a.external four) (s : size ≡ count_ones a.external) (x : external ≡ a.external + 2 ^ four)
    (unset : bit_at a.external four ≢ 1)
    (grown : IsGrown N M a.child_base size below blank base)
    (written : IsCellWritten M N' index (record { internal = a.internal; external = external; child_base = base; result_base = a.result_base })) where
  clear : bit_at a.external four ≡ 0
  clear = clear_bit a.external four unset

  -- the block of the children has grown
  grown' : IsGrown N M a.child_base (count_ones a.external) (rank a.external four) blank base
  grown' = subst (λ r. IsGrown N M a.child_base (count_ones a.external) r blank base) b (subst (λ n. IsGrown N M a.child_base n below blank base) s grown)

  -- the node has the child more
  written' : IsCellWritten M N' index (with_child a four base)
  written' = subst (λ e. IsCellWritten M N' index (record { internal = a.internal; external = e; child_base = base; result_base = a.result_base })) x written

  moved : MovesChildren N N' index a (with_child a four base)
  moved = new_child N M N' G index four base a sound here clear grown' written'

  -- the tree is sound with the new child
  pub made_sound : IsLaidOut N' G
  made_sound = moved_sound N N' G index (a.external + 2 ^ four) base a sound moved

  -- no row has changed
  pub made_rows : (q m : ℕ) → path_entry N' G q m ≡ path_entry N G q m
  made_rows = moved_rows N N' G index (a.external + 2 ^ four) base a sound moved

  -- the new child is blank
  pub made_blank : N' (base + below) ≡ Some blank
  made_blank = ap (λ r. N' (base + r)) b ∙ gap_cell N M N' G index four base a sound here clear grown' written'

  -- the new child stands on the path
  pub made_place : path_node N' path (depth + 1) ≡ Some (base + below)
  made_place =
      let has : bit_at (a.external + 2 ^ four) four ≡ 1 = bit_at-add_same a.external four clear in
      child_place_after N' path depth index (with_child a four base) four below (index_on N N' G index (a.external + 2 ^ four) base a sound moved path depth at) written'.here f
      (b ∙ sym (rank-add_below a.external four four clear (omega arith))) has

-- what a change of one bit of the node of a path makes of the rows
pub sets_row : (N N' : ℕ → Option Node) (G G' : ℕ → Option Entry) (index bit : ℕ) (entry : Option Entry) (a a' : Node) (path depth len : ℕ)
    → IsLaidOut N G → depth ≤ 8 → len < 4 → path < 2 ^ 36 → path_node N path depth ≡ Some index → bit ≡ internal_bit (nibble path depth) len
    → SetsBit N N' G G' index bit entry a a' → SetsRow (path_entry N G) (path_entry N' G') path (4 * depth + len) entry
sets_row N N' G G' index bit entry a a' path depth len sound deep short p at b sets =
    let sets' = subst (λ k. SetsBit N N' G G' index k entry a a') b sets in
    record {
      hit = λ q same. row_hit N N' G G' index entry a a' path depth len sound deep short at sets' q (4 * depth + len) refl same;
      miss = λ q m l h out. row_miss N N' G G' index entry a a' path depth len sound deep short at sets' q m h p l out;
    }

module _ (N N' : ℕ → Option Node) (G G' : ℕ → Option Entry) (index bit : ℕ) (entry : Entry) (a : Node) (below size internal base : ℕ)
    (sound : IsLaidOut N G) (here : N index ≡ Some a)
    (b : below ≡ rank a.internal bit) (s : size ≡ count_ones a.internal) (x : internal ≡ a.internal + 2 ^ bit)
    (unset : bit_at a.internal bit ≢ 1)
    (grown : IsGrown G G' a.result_base size below entry base)
    (written : IsCellWritten N N' index (record { internal = internal; external = a.external; child_base = a.child_base; result_base = base })) where
  clear' : bit_at a.internal bit ≡ 0
  clear' = clear_bit a.internal bit unset

  -- the block of the results has grown
  grown'' : IsGrown G G' a.result_base (count_ones a.internal) (rank a.internal bit) entry base
  grown'' = subst (λ r. IsGrown G G' a.result_base (count_ones a.internal) r entry base) b (subst (λ n. IsGrown G G' a.result_base n below entry base) s grown)

  -- the node has the result more
  written'' : IsCellWritten N N' index (with_result a bit base)
  written'' = subst (λ e. IsCellWritten N N' index (record { internal = e; external = a.external; child_base = a.child_base; result_base = base })) x written

  -- the tree is sound with the new result
  pub put_sound : bit < 15 → IsLaidOut N' G'
  put_sound = insert_sound N N' G G' index bit base entry a sound here clear' grown'' written''

  -- the new result is set, and nothing else
  pub put_sets : SetsBit N N' G G' index bit (Some entry) a (with_result a bit base)
  put_sets = insert_sets N N' G G' index bit base entry a sound here clear' grown'' written''

module _ (N : ℕ → Option Node) (G G' : ℕ → Option Entry) (index bit : ℕ) (entry : Entry) (a : Node) (below : ℕ)
    (sound : IsLaidOut N G) (here : N index ≡ Some a) (b : below ≡ rank a.internal bit) (has : bit_at a.internal bit ≡ 1) where
  written_over : IsCellWritten G G' (a.result_base + below) entry → IsCellWritten G G' (a.result_base + rank a.internal bit) entry
  written_over w = subst (λ r. IsCellWritten G G' (a.result_base + r) entry) b w

  -- the tree is sound with the other result
  pub over_sound : IsCellWritten G G' (a.result_base + below) entry → IsLaidOut N G'
  over_sound w = replace_sound N G G' index bit entry a sound here has (written_over w)

  -- the result is set, and nothing else
  pub over_sets : IsCellWritten G G' (a.result_base + below) entry → SetsBit N N G G' index bit (Some entry) a a
  over_sets w = replace_sets N G G' index bit entry a sound here has (written_over w)
