use Rattle.std.proofs.Common.{bit_or, ap, ◌∙◌}
use Rattle.std.proofs.lemmas.Nat.{one_shl}
use Rattle.bitmaps.proofs.Ranks.{or_is_add}
use Rattle.tree_bitmap.proofs.node.with_bit.Goals as goal

pub returns : goal.returns
returns c = ap (bit_or c.args.bits) (one_shl c.args.k 16 c.requires.within) ∙ or_is_add c.args.bits c.args.k c.requires.clear
