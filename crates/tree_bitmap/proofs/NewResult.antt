-- One entry is set in a node: that row is set, and all others stay.
use Rattle.std.proofs.Common.{ℕ, ◌≡◌, ◌≢◌, ◌⊎◌, inl, inr, ◌+◌, ◌-◌, ◌*◌, ◌/◌, ◌%◌, ◌^◌, ◌<◌, ◌≤◌, Option, Some, None, true, is_some, count_ones, arith, refl, sym, ap, subst, ◌∙◌}
use Rattle.std.specs.Int.{bit_at}
use Rattle.std.proofs.lemmas.Bool.{cases_eq, cases_order}
use Rattle.node_pool.specs.Pool.{IsGrown, IsCellWritten}
use Rattle.bitmaps.specs.Bits.{rank}
use Rattle.tree_bitmap.specs.Tree.{nibble, path_top, internal_bit, IsResult, path_node, entry_at_bit, path_entry, IsLaidOut, with_result}
use Rattle.tree_bitmap.specs.declared.node.Node.{Node}
use Rattle.network_model.specs.declared.route.Entry.{Entry}
use Rattle.bitmaps.proofs.Ranks.{rank_mono_lt, bit_at-add_same, bit_at-add_other, add_lt, rank-add_below}
use Rattle.tree_bitmap.proofs.{MovedBlock.IsMoved, MovedBlock.moved_by_growth, FirstBits.parts_from_first, FirstBits.first_from_parts, FirstBits.internal_bit_same, OnePath.path_node-same, OnePath.IsSameWalk, OnePath.walk_unique}
use Rattle.tree_bitmap.proofs.MovedResults.{SetsBit, entry_kept, moved_sets, results_sound}
use Rattle.bitmaps.proofs.Options.{cases_option, some-from}
use Rattle.tree_bitmap.proofs.Paths.{is_some-from, node_used, row-some, row-none, entry-set, result_in_block}

module _ (N N' : ℕ → Option Node) (G G' : ℕ → Option Entry) (index : ℕ) (entry : Option Entry) (a a' : Node) (path depth len : ℕ)
    (sound : IsLaidOut N G) (deep : depth ≤ 8) (short : len < 4) (at : path_node N path depth ≡ Some index)
    (sets : SetsBit N N' G G' index (internal_bit (nibble path depth) len) entry a a') where
  -- the row that was set has the entry, or is gone
  pub row_hit : (q m : ℕ) → m ≡ 4 * depth + len → path_top q m ≡ path_top path m → path_entry N' G' q m ≡ entry
  row_hit q m e same =
      let parts = parts_from_first q path depth len deep short (subst (λ k. path_top q k ≡ path_top path k) e same) in
      let d : depth ≡ m / 4 = omega arith in
      let r : len ≡ m % 4 = omega arith in
      let there : path_node N' q (m / 4) ≡ Some index =
      ap (path_node N' q) (sym d) ∙ sets.walks q depth ∙ path_node-same N q path depth parts.0 ∙ at in
      let bits : internal_bit (nibble q (m / 4)) (m % 4) ≡ internal_bit (nibble path depth) len =
      sym (ap (λ k. internal_bit (nibble q k) (m % 4)) d) ∙ sym (ap (internal_bit (nibble q depth)) r)
      ∙ ap (λ x. 2 ^ len - 1 + x) parts.1 in
      row-some N' G' q m index a' there sets.after
      ∙ ap (λ b. entry_at_bit G' b (Some a')) bits ∙ sets.hit

  -- a row of the same node and another prefix stays
  miss_here : (q m : ℕ) → m < 36 → (m ≡ 4 * depth + len → path_top q m ≡ path_top path m → ⊥) → path < 2 ^ 36 → q < 2 ^ 36
      → path_node N q (m / 4) ≡ Some index → internal_bit (nibble q (m / 4)) (m % 4) ≢ internal_bit (nibble path depth) len
  miss_here q m h off p l there e =
      let w : IsSameWalk q path (m / 4) depth = walk_unique N G sound q path (m / 4) depth index there at in
      let b = internal_bit_same (nibble q (m / 4)) (nibble path depth) (m % 4) len (omega arith) (omega arith) (omega arith) short e in
      let full : m ≡ 4 * depth + len = omega (arith, w.depth, b.0) in
      let nib : nibble q depth / 2 ^ (4 - len) ≡ nibble path depth / 2 ^ (4 - len) =
      ap (λ k. nibble q k / 2 ^ (4 - len)) (sym w.depth) ∙ ap (λ k. nibble q (m / 4) / 2 ^ (4 - k)) (sym b.0) ∙ b.1 in
      off full (subst (λ k. path_top q k ≡ path_top path k) (sym full)
      (first_from_parts q path depth len l p deep short (λ k x. w.nibbles k (omega (arith, w.depth))) nib))

  -- a row of another node stays
  miss_at : (q m j : ℕ) (b : Node) → m < 36 → (m ≡ 4 * depth + len → path_top q m ≡ path_top path m → ⊥) → path < 2 ^ 36 → q < 2 ^ 36
      → path_node N q (m / 4) ≡ Some j → N j ≡ Some b → (j ≡ index) ⊎ (j ≡ index → ⊥) → path_entry N' G' q m ≡ path_entry N G q m
  miss_at q m j b h off p l f c (inl e) =
      let there : path_node N q (m / 4) ≡ Some index = f ∙ ap Some e in
      row-some N' G' q m index a' (sets.walks q (m / 4) ∙ there) sets.after
      ∙ sets.miss _ (miss_here q m h off p l there)
      ∙ sym (row-some N G q m index a there sets.before)
  miss_at q m j b h off p l f c (inr n) =
      row-some N' G' q m j b (sets.walks q (m / 4) ∙ f) (sets.cells j n ∙ c)
      ∙ sets.others j b c n _ ∙ sym (row-some N G q m j b f c)

  -- a row of any node stays
  miss_from : (q m : ℕ) → m < 36 → (m ≡ 4 * depth + len → path_top q m ≡ path_top path m → ⊥) → path < 2 ^ 36 → q < 2 ^ 36
      → (path_node N q (m / 4) ≡ None) ⊎ ((j : ℕ) × (path_node N q (m / 4) ≡ Some j)) → path_entry N' G' q m ≡ path_entry N G q m
  miss_from q m h off p l (inl n) = row-none N' G' q m (sets.walks q (m / 4) ∙ n) ∙ sym (row-none N G q m n)
  miss_from q m h off p l (inr (j, f)) =
      let c = some-from (N j) (node_used N G sound q (m / 4) j f) in
      miss_at q m j c.0 h off p l f c.1 (cases_eq j index)

  -- every other row stays
  pub row_miss : (q m : ℕ) → m < 36 → path < 2 ^ 36 → q < 2 ^ 36 → (m ≡ 4 * depth + len → path_top q m ≡ path_top path m → ⊥) → path_entry N' G' q m ≡ path_entry N G q m
  row_miss q m h p l off = miss_from q m h off p l (cases_option (path_node N q (m / 4)))

-- ---- the bit is set: its result is written over
module _ (N : ℕ → Option Node) (G G' : ℕ → Option Entry) (index bit : ℕ) (entry : Entry) (a : Node)
    (sound : IsLaidOut N G) (here : N index ≡ Some a) (has : bit_at a.internal bit ≡ 1)
    (written : IsCellWritten G G' (a.result_base + rank a.internal bit) entry) where
  -- where a result is written over, its entry is set, and nothing else
  pub replace_sets : SetsBit N N G G' index bit (Some entry) a a
  replace_sets = record {
    before = here;
    after = here;
    cells = λ j n. refl;
    walks = λ path depth. refl;
    hit = entry-set G' bit a has ∙ written.here;
    miss = λ b n. entry_kept G G' a b (λ h. written.other _ (place b n h (cases_order b bit)));
    others = λ j b c n k. entry_kept G G' b k (λ h. written.other _
        (λ e. sound.results_apart j index b a c here n _ (result_in_block b k h) (subst (IsResult a) (sym e) (result_in_block a bit has))));
  }
    where
      place : (b : ℕ) → b ≢ bit → bit_at a.internal b ≡ 1 → (b ≡ bit) ⊎ ((b < bit) ⊎ (bit < b)) → a.result_base + rank a.internal b ≢ a.result_base + rank a.internal bit
      place b n h (inl e) x = n e
      place b n h (inr (inl l)) x = omega (arith, rank_mono_lt a.internal b bit l h, x)
      place b n h (inr (inr l)) x = omega (arith, rank_mono_lt a.internal bit b l has, x)

  -- the tree stays sound
  pub replace_sound : IsLaidOut N G'
  replace_sound = record {
    root = sound.root;
    children_used = sound.children_used;
    results_used = λ j b c k q. kept j b c k q (cases_eq k (a.result_base + rank a.internal bit));
    children_apart = sound.children_apart;
    results_apart = sound.results_apart;
    root_apart = sound.root_apart;
    fifteen_bits = sound.fifteen_bits;
    not_its_own_child = sound.not_its_own_child;
  }
    where
      kept : (j : ℕ) (b : Node) → N j ≡ Some b → (k : ℕ) → IsResult b k → (k ≡ a.result_base + rank a.internal bit) ⊎ (k ≡ a.result_base + rank a.internal bit → ⊥) → is_some (G' k) ≡ true
      kept j b c k q (inl e) = is_some-from (G' k) entry (ap G' e ∙ written.here)
      kept j b c k q (inr n) = ap is_some (written.other k n) ∙ sound.results_used j b c k q

-- ---- the bit is not set: the results move to a larger block
module _ (N N' : ℕ → Option Node) (G G' : ℕ → Option Entry) (index bit base : ℕ) (entry : Entry) (a : Node)
    (sound : IsLaidOut N G) (here : N index ≡ Some a) (clear : bit_at a.internal bit ≡ 0)
    (grown : IsGrown G G' a.result_base (count_ones a.internal) (rank a.internal bit) entry base)
    (written : IsCellWritten N N' index (with_result a bit base)) where
  moved : IsMoved G G' a.result_base a.internal base (a.internal + 2 ^ bit)
  moved = moved_by_growth G G' a.result_base a.internal bit entry base clear grown

  -- the new result is in the gap
  in_gap : G' (base + rank (a.internal + 2 ^ bit) bit) ≡ Some entry
  in_gap = ap (λ r. G' (base + r)) (rank-add_below a.internal bit bit clear (omega arith)) ∙ grown.gap

  -- where a result is new, its entry is set, and nothing else
  pub insert_sets : SetsBit N N' G G' index bit (Some entry) a (with_result a bit base)
  insert_sets =
      moved_sets N N' G G' index (a.internal + 2 ^ bit) base a sound here moved written bit (Some entry)
      (entry-set G' bit (with_result a bit base) (bit_at-add_same a.internal bit clear) ∙ in_gap)
      (λ k n. bit_at-add_other a.internal bit k clear n)

  -- the tree is sound with the new result
  pub insert_sound : bit < 15 → IsLaidOut N' G'
  insert_sound small =
      results_sound N N' G G' index (a.internal + 2 ^ bit) base a sound here moved written
      (add_lt a.internal bit 15 (sound.fifteen_bits index a here) small clear)
      (λ f h n. elim (cases_eq f bit) [
        | inl e ↦ is_some-from (G' (base + rank (a.internal + 2 ^ bit) f)) entry (ap (λ k. G' (base + rank (a.internal + 2 ^ bit) k)) e ∙ in_gap)
        | inr e ↦ absurd (n (sym (bit_at-add_other a.internal bit f clear e) ∙ h))
      ])
