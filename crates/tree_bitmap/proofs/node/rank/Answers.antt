use Rattle.std.proofs.Common.{◌-◌, ◌≤◌, count_ones, bit_and, ap, ◌∙◌, subst, sym}
use Rattle.std.proofs.lemmas.Nat.{one_shl, and_mask}
use Rattle.bitmaps.proofs.Ranks.{rank_small}
use Rattle.tree_bitmap.proofs.node.rank.Goals as goal

pub returns : goal.returns
returns c =
    let e = ap (λ m. count_ones (bit_and c.args.bits (m - 1))) (one_shl c.args.k 16 c.requires)
    ∙ ap count_ones (and_mask c.args.bits c.args.k) in
    record { value = e; bound = subst (λ n. n ≤ c.args.k) (sym e) (rank_small c.args.bits c.args.k) }
