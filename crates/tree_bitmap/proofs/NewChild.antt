-- A node gets one child more, with nothing in it.
use Rattle.std.proofs.Common.{ℕ, ◌≡◌, inl, inr, ◌+◌, ◌^◌, Option, Some, None, count_ones, arith, refl, sym, ap, subst, ◌∙◌}
use Rattle.std.specs.Int.{bit_at}
use Rattle.std.proofs.lemmas.Bool.{cases_eq}
use Rattle.node_pool.specs.Pool.{IsGrown, IsCellWritten}
use Rattle.bitmaps.specs.Bits.{rank}
use Rattle.tree_bitmap.specs.Tree.{blank, child, IsLaidOut, with_child}
use Rattle.tree_bitmap.specs.declared.node.Node.{Node}
use Rattle.network_model.specs.declared.route.Entry.{Entry}
use Rattle.bitmaps.proofs.{Ranks.rank_le, Ranks.bit_at-add_other, Ranks.rank-add_below, Options.none≢some}
use Rattle.tree_bitmap.proofs.{MovedBlock.moved_by_growth, MovedChildren.MovesChildren, MovedChildren.moves_children}

module _ (N M N' : ℕ → Option Node) (G : ℕ → Option Entry) (index four base : ℕ) (a : Node)
    (sound : IsLaidOut N G) (here : N index ≡ Some a) (clear : bit_at a.external four ≡ 0)
    (grown : IsGrown N M a.child_base (count_ones a.external) (rank a.external four) blank base)
    (written : IsCellWritten M N' index (with_child a four base)) where
  -- it has come, and none has gone
  pub new_child : MovesChildren N N' index a (with_child a four base)
  new_child =
      moves_children N M N' G index (a.external + 2 ^ four) base a sound here (moved_by_growth N M a.child_base a.external four blank base clear grown) written
      (λ f h n. absurd (elim (cases_eq f four) [
        | inl e ↦ omega (arith, h, ap (bit_at a.external) e, clear)
        | inr e ↦ n (bit_at-add_other a.external four f clear e ∙ h)
      ]))
      (λ f h n. elim (cases_eq f four) [
        | inl e ↦ (
          blank,
          ap (λ k. M (child (with_child a four base) k)) e ∙ ap (λ r. M (base + r)) (rank-add_below a.external four four clear (omega arith)) ∙ grown.gap,
          (refl, refl),
        )
        | inr e ↦ absurd (n (sym (bit_at-add_other a.external four f clear e) ∙ h))
      ])

  -- the gap holds the new child
  pub gap_cell : N' (base + rank a.external four) ≡ Some blank
  gap_cell =
      written.other (base + rank a.external four)
      (λ e. none≢some (N index) a (subst (λ k. N k ≡ None) e (grown.fresh (base + rank a.external four) (omega arith) (omega (arith, rank_le a.external four)))) here)
      ∙ grown.gap
