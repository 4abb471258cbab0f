use Rattle.std.proofs.Common.{◌≡◌, ◌*◌, ◌%◌, ◌^◌, arith}
use Rattle.std.proofs.lemmas.Nat.{one_shl}
use Rattle.tree_bitmap.proofs.FirstBits.{internal_bit_small}
use Rattle.tree_bitmap.proofs.node.internal_bit.Goals as goal

pub returns-clause-bound : goal.returns-clause-bound
returns-clause-bound c =
    let e : 1 * 2 ^ c.args.len % 4294967296 ≡ 2 ^ c.args.len = one_shl c.args.len 32 (omega arith) in
    rw e (internal_bit_small c.args.four c.args.len c.requires.small c.requires.short)
