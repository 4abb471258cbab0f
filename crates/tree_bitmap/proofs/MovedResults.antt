-- The block of a node's results moves, and the entry at one bit is set or goes: the tree stays sound, and all other entries stay.
use Rattle.std.proofs.Common.{ℕ, zero, suc, ◌≡◌, ◌≢◌, ◌⊎◌, inl, inr, ◌+◌, ◌^◌, ◌<◌, Option, Some, None, true, is_some, refl, sym, ap, subst, ◌∙◌}
use Rattle.std.specs.Int.{bit_at}
use Rattle.std.proofs.lemmas.Bool.{cases_eq}
use Rattle.node_pool.specs.Pool.{IsCellWritten}
use Rattle.bitmaps.specs.Bits.{rank}
use Rattle.tree_bitmap.specs.Tree.{nibble, IsChild, IsResult, child_by, child_under, path_node, entry_at_bit, IsLaidOut, with_results}
use Rattle.tree_bitmap.specs.declared.node.Node.{Node}
use Rattle.network_model.specs.declared.route.Entry.{Entry}
use Rattle.node_pool.proofs.Blocks.{none≢is_some}
use Rattle.tree_bitmap.proofs.MovedBlock.{IsMoved, block_bit}
use Rattle.bitmaps.proofs.Options.{Some_same}
use Rattle.tree_bitmap.proofs.Paths.{is_some-from, entry-set, entry-clear, result_in_block}

-- what changed: the entry at one bit of the node at `index`
pub record SetsBit (N N' : ℕ → Option Node) (G G' : ℕ → Option Entry) (index bit : ℕ) (entry : Option Entry) (a a' : Node) : Type 0 where
  pub before : N index ≡ Some a
  pub after : N' index ≡ Some a'
  pub cells : (j : ℕ) → j ≢ index → N' j ≡ N j
  pub walks : (path depth : ℕ) → path_node N' path depth ≡ path_node N path depth
  pub hit : entry_at_bit G' bit (Some a') ≡ entry
  pub miss : (b : ℕ) → b ≢ bit → entry_at_bit G' b (Some a') ≡ entry_at_bit G b (Some a)
  pub others : (j : ℕ) (b : Node) → N j ≡ Some b → j ≢ index → (k : ℕ) → entry_at_bit G' k (Some b) ≡ entry_at_bit G k (Some b)

-- all nodes stay where they were
module _ (N N' : ℕ → Option Node) (index internal base : ℕ) (a : Node) (here : N index ≡ Some a) (written : IsCellWritten N N' index (with_results a internal base)) where
  -- the node keeps its children
  child_kept : (four j : ℕ) → (j ≡ index) ⊎ (j ≡ index → ⊥) → child_by four (N' j) ≡ child_by four (N j)
  unfolding child_by
  child_kept four j (inl e) =
      ap (λ k. child_by four (N' k)) e ∙ ap (child_by four) written.here ∙ sym (ap (λ k. child_by four (N k)) e ∙ ap (child_by four) here)
  child_kept four j (inr n) = ap (child_by four) (written.other j n)

  -- each node keeps its children
  children_kept : (four : ℕ) (o : Option ℕ) → child_under N' four o ≡ child_under N four o
  unfolding child_under
  children_kept four None = refl
  children_kept four (Some j) = child_kept four j (cases_eq j index)

  -- the nodes of a path stay where they were
  walk_kept : (path depth : ℕ) → path_node N' path depth ≡ path_node N path depth
  unfolding path_node
  walk_kept path zero = refl
  walk_kept path (suc depth) = ap (child_under N' (nibble path depth)) (walk_kept path depth) ∙ children_kept (nibble path depth) (path_node N path depth)

  -- the node that stands in a cell afterwards
  abbrev Was : ℕ → Node → Type 0
  Was j b = ((j ≡ index) × (b ≡ with_results a internal base)) ⊎ ((j ≢ index) × (N j ≡ Some b))

  -- each node was there before, the node itself with other results
  was_at : (j : ℕ) (b : Node) → N' j ≡ Some b → (j ≡ index) ⊎ (j ≡ index → ⊥) → Was j b
  was_at j b c (inl e) = inl (e, Some_same (N' j) b _ c (ap N' e ∙ written.here))
  was_at j b c (inr n) = inr (n, sym (written.other j n) ∙ c)

  -- so it is for each used cell
  was : (j : ℕ) (b : Node) → N' j ≡ Some b → Was j b
  was j b c = was_at j b c (cases_eq j index)

  -- a used cell stays in use
  still_at : (k : ℕ) → is_some (N k) ≡ true → (k ≡ index) ⊎ (k ≡ index → ⊥) → is_some (N' k) ≡ true
  still_at k u (inl e) = is_some-from (N' k) _ (ap N' e ∙ written.here)
  still_at k u (inr n) = ap is_some (written.other k n) ∙ u

  same_children : (j : ℕ) (b : Node) → Was j b → (c : Node) × (N j ≡ Some c) × ((k : ℕ) → IsChild b k → IsChild c k)
  same_children j b (inl (e, f)) = (a, ap N e ∙ here, λ k q. subst (λ x. IsChild x k) f q)
  same_children j b (inr (n, c)) = (b, c, λ k q. q)

-- where its result stays, an entry stays
pub entry_kept : (G G' : ℕ → Option Entry) (c : Node) (k : ℕ) → (bit_at c.internal k ≡ 1 → G' (c.result_base + rank c.internal k) ≡ G (c.result_base + rank c.internal k))
    → entry_at_bit G' k (Some c) ≡ entry_at_bit G k (Some c)
entry_kept G G' c k same = elim (cases_eq (bit_at c.internal k) 1) [
  | inl h ↦ entry-set G' k c h ∙ same h ∙ sym (entry-set G k c h)
  | inr h ↦ entry-clear G' k c h ∙ sym (entry-clear G k c h)
]

module _ (N N' : ℕ → Option Node) (G G' : ℕ → Option Entry) (index internal base : ℕ) (a : Node)
    (sound : IsLaidOut N G) (here : N index ≡ Some a)
    (moved : IsMoved G G' a.result_base a.internal base internal)
    (written : IsCellWritten N N' index (with_results a internal base)) where
  -- the node afterwards
  abbrev b : Node
  b = with_results a internal base

  -- a result of another node is not in the new block
  not_of_another : (j : ℕ) (c : Node) → N j ≡ Some c → j ≢ index → (k : ℕ) → IsResult c k → IsResult b k → ⊥
  not_of_another j c e n k q r = none≢is_some (G k) (moved.fresh k r (λ w. sound.results_apart j index c a e here n k q w)) (sound.results_used j c e k q)

  -- it stays
  result_kept : (j : ℕ) (c : Node) → N j ≡ Some c → j ≢ index → (k : ℕ) → IsResult c k → G' k ≡ G k
  result_kept j c e n k q = moved.other k (λ w. sound.results_apart j index c a e here n k q w) (not_of_another j c e n k q)

  -- an entry whose bit is as it was stays
  bit_kept : (k : ℕ) → bit_at internal k ≡ bit_at a.internal k → entry_at_bit G' k (Some b) ≡ entry_at_bit G k (Some a)
  bit_kept k same = elim (cases_eq (bit_at a.internal k) 1) [
    | inl h ↦ entry-set G' k b (same ∙ h) ∙ moved.kept k h (same ∙ h) ∙ sym (entry-set G k a h)
    | inr h ↦ entry-clear G' k b (λ x. h (sym same ∙ x)) ∙ sym (entry-clear G k a h)
  ]

  -- where one bit has changed, its entry has, and no other
  pub moved_sets : (bit : ℕ) (entry : Option Entry) → entry_at_bit G' bit (Some b) ≡ entry → ((k : ℕ) → k ≢ bit → bit_at internal k ≡ bit_at a.internal k)
      → SetsBit N N' G G' index bit entry a b
  moved_sets bit entry hit rest = record {
    before = here;
    after = written.here;
    cells = written.other;
    walks = walk_kept N N' index internal base a here written;
    hit = hit;
    miss = λ k n. bit_kept k (rest k n);
    others = λ j c e n k. entry_kept G G' c k (λ h. result_kept j c e n (c.result_base + rank c.internal k) (result_in_block c k h));
  }

  -- the node that stands in a cell afterwards was there before, the node itself with other results
  abbrev WasHere : ℕ → Node → Type 0
  WasHere = Was N N' index internal base a here written

  was_here : (j : ℕ) (c : Node) → N' j ≡ Some c → WasHere j c
  was_here = was N N' index internal base a here written

  -- the results of each node are in use
  results_of : ((f : ℕ) → bit_at internal f ≡ 1 → bit_at a.internal f ≢ 1 → is_some (G' (base + rank internal f)) ≡ true)
      → (j : ℕ) (c : Node) → WasHere j c → (k : ℕ) → IsResult c k → is_some (G' k) ≡ true
  results_of come j c (inl (e, same)) k q =
      let (f, h', p) = block_bit base internal k (subst (λ x. IsResult x k) same q) in
      ap (λ i. is_some (G' i)) p ∙ elim (cases_eq (bit_at a.internal f) 1) [
        | inl h ↦ ap is_some (moved.kept f h h') ∙ sound.results_used index a here (a.result_base + rank a.internal f) (result_in_block a f h)
        | inr n ↦ come f h' n
      ]
  results_of come j c (inr (n, e)) k q = ap is_some (result_kept j c e n k q) ∙ sound.results_used j c e k q

  -- no two nodes share a result
  results_apart_of : (i j : ℕ) (c d : Node) → WasHere i c → WasHere j d → i ≢ j → (k : ℕ) → IsResult c k → IsResult d k → ⊥
  results_apart_of i j c d (inl (e, f)) (inl (g, h)) ne k q r = ne (e ∙ sym g)
  results_apart_of i j c d (inl (e, f)) (inr (n, g)) ne k q r = not_of_another j d g n k r (subst (λ x. IsResult x k) f q)
  results_apart_of i j c d (inr (n, e)) (inl (g, h)) ne k q r = not_of_another i c e n k q (subst (λ x. IsResult x k) h r)
  results_apart_of i j c d (inr (n, e)) (inr (m, f)) ne k q r = sound.results_apart i j c d e f ne k q r

  -- each node has 15 internal bits
  fifteen_bits_of : internal < 2 ^ 15 → (j : ℕ) (c : Node) → WasHere j c → c.internal < 2 ^ 15
  fifteen_bits_of small j c (inl (e, f)) = subst (λ x. x.internal < 2 ^ 15) (sym f) small
  fifteen_bits_of small j c (inr (n, e)) = sound.fifteen_bits j c e

  -- the tree stays sound where each new result is in use
  pub results_sound : internal < 2 ^ 15 → ((f : ℕ) → bit_at internal f ≡ 1 → bit_at a.internal f ≢ 1 → is_some (G' (base + rank internal f)) ≡ true) → IsLaidOut N' G'
  results_sound small come = record {
    root = still 0 sound.root;
    children_used = λ j c e k q. let w = same j c e in still k (sound.children_used j w.0 w.1 k (w.2 k q));
    results_used = λ j c e. results_of come j c (was_here j c e);
    children_apart = λ i j c d e f ne k q r.
        let v = same i c e in
        let w = same j d f in
        sound.children_apart i j v.0 w.0 v.1 w.1 ne k (v.2 k q) (w.2 k r);
    results_apart = λ i j c d e f. results_apart_of i j c d (was_here i c e) (was_here j d f);
    root_apart = λ j c e q. let w = same j c e in sound.root_apart j w.0 w.1 (w.2 0 q);
    fifteen_bits = λ j c e. fifteen_bits_of small j c (was_here j c e);
    not_its_own_child = λ j c e q. let w = same j c e in sound.not_its_own_child j w.0 w.1 (w.2 j q);
  }
    where
      still : (k : ℕ) → is_some (N k) ≡ true → is_some (N' k) ≡ true
      still k u = still_at N N' index internal base a here written k u (cases_eq k index)

      same : (j : ℕ) (c : Node) → N' j ≡ Some c → (d : Node) × (N j ≡ Some d) × ((k : ℕ) → IsChild c k → IsChild d k)
      same j c e = same_children N N' index internal base a here written j c (was_here j c e)
