-- A node has one path.
use Rattle.std.proofs.Common.{ℕ, zero, suc, ◌≡◌, ◌⊎◌, inl, inr, ⊎_elim, ◌<◌, Option, Some, arith, refl, sym, ap, subst, ◌∙◌}
use Rattle.std.specs.Int.{bit_at}
use Rattle.std.proofs.lemmas.Bool.{cases_eq, cases_order, cases_lt}
use Rattle.bitmaps.specs.Bits.{rank}
use Rattle.tree_bitmap.specs.Tree.{nibble, child, HasChild, IsChild, child_under, path_node, IsLaidOut}
use Rattle.tree_bitmap.specs.declared.node.Node.{Node}
use Rattle.network_model.specs.declared.route.Entry.{Entry}
use Rattle.bitmaps.proofs.{Ranks.rank_mono_lt, Options.Some_same}
use Rattle.tree_bitmap.proofs.Paths.{child_in_block, root_at, IsStep, step_of}

-- set bits of one rank are one bit
pub rank_same : (n f g : ℕ) → bit_at n f ≡ 1 → bit_at n g ≡ 1 → rank n f ≡ rank n g → f ≡ g
rank_same n f g a b e =
    ⊎_elim (λ q. q)
    (⊎_elim (λ l. absurd (omega (arith, rank_mono_lt n f g l a, e))) (λ l. absurd (omega (arith, rank_mono_lt n g f l b, e))))
    (cases_order f g)

-- children at one place are those of one bit
child_same : (a b : Node) (f g : ℕ) → a ≡ b → HasChild a f → HasChild b g → child a f ≡ child b g → f ≡ g
child_same a b f g e h k q =
    let h' : HasChild b f = subst (λ x. HasChild x f) e h in
    let q' : child b f ≡ child b g = ap (λ x. child x f) (sym e) ∙ q in
    rank_same b.external f g h' k (omega arith)

-- the walk goes by the nibbles alone
pub path_node-same : (nodes : ℕ → Option Node) (p q depth : ℕ) → ((k : ℕ) → k < depth → nibble p k ≡ nibble q k) → path_node nodes p depth ≡ path_node nodes q depth
unfolding path_node
path_node-same nodes p q zero same = refl
path_node-same nodes p q (suc depth) same =
    ap (λ f. child_under nodes f (path_node nodes p depth)) (same depth (omega arith))
    ∙ ap (child_under nodes (nibble q depth)) (path_node-same nodes p q depth (λ k l. same k (omega arith)))

-- the same depth, and the same nibbles
pub record IsSameWalk (p q d e : ℕ) : Type 0 where
  pub depth : d ≡ e
  pub nibbles : (k : ℕ) → k < d → nibble p k ≡ nibble q k

module _ (nodes : ℕ → Option Node) (results : ℕ → Option Entry) (sound : IsLaidOut nodes results) where
  -- no step leads to the root
  no_root_step : (p d j : ℕ) → IsStep nodes p d j → 0 ≡ j → ⊥
  no_root_step p d j s e =
      sound.root_apart s.i s.a s.cell (subst (IsChild s.a) (s.is ∙ sym e) (child_in_block s.a (nibble p d) s.has))

  -- two steps to one cell come from one node, by the same four bits
  both_steps : (p q d e j : ℕ) (s : IsStep nodes p d j) (t : IsStep nodes q e j)
      → (s.i ≡ t.i → IsSameWalk p q d e) → (s.i ≡ t.i) ⊎ (s.i ≡ t.i → ⊥) → IsSameWalk p q (suc d) (suc e)
  both_steps p q d e j s t before (inl same) =
      let w = before same in
      let cells : s.a ≡ t.a = Some_same (nodes t.i) s.a t.a (subst (λ k. nodes k ≡ Some s.a) same s.cell) t.cell in
      let last : nibble p d ≡ nibble q e = child_same s.a t.a (nibble p d) (nibble q e) cells s.has t.has (s.is ∙ sym t.is) in
      record {
        depth = ap suc w.depth;
        nibbles = λ k l. ⊎_elim (λ below. w.nibbles k below)
            (λ here. let kd : d ≡ k = omega arith in
            let ke : e ≡ k = omega (arith, w.depth) in
            ap (nibble p) (sym kd) ∙ last ∙ ap (nibble q) ke)
            (cases_lt k d);
      }
  both_steps p q d e j s t before (inr ne) =
      absurd (sound.children_apart s.i t.i s.a t.a s.cell t.cell ne j
      (subst (IsChild s.a) s.is (child_in_block s.a (nibble p d) s.has))
      (subst (IsChild t.a) t.is (child_in_block t.a (nibble q e) t.has)))

  -- two walks to one cell are of one depth, and read the same bits
  pub walk_unique : (p q d e j : ℕ) → path_node nodes p d ≡ Some j → path_node nodes q e ≡ Some j → IsSameWalk p q d e
  walk_unique p q zero zero j x y = record { depth = refl; nibbles = λ k l. absurd (omega arith) }
  walk_unique p q zero (suc e) j x y =
      absurd (no_root_step q e j (step_of nodes results sound q e j y) (Some_same _ 0 j (root_at nodes p) x))
  walk_unique p q (suc d) zero j x y =
      absurd (no_root_step p d j (step_of nodes results sound p d j x) (Some_same _ 0 j (root_at nodes q) y))
  walk_unique p q (suc d) (suc e) j x y =
      let s = step_of nodes results sound p d j x in
      let t = step_of nodes results sound q e j y in
      both_steps p q d e j s t
      (λ same. walk_unique p q d e t.i (s.from ∙ ap Some same) t.from)
      (cases_eq s.i t.i)
