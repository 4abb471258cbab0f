use Rattle.std.proofs.Common.{◌≡◌, ◌+◌, ◌*◌, ◌%◌, ◌^◌, arith}
use Rattle.std.proofs.lemmas.Nat.{one_shl}
use Rattle.array_bitmap.proofs.PathBits.{row_bit_small}
use Rattle.array_bitmap.proofs.bits.row_bit.Goals as goal

pub returns-clause-bound : goal.returns-clause-bound
returns-clause-bound c =
    let e : 1 * 2 ^ (c.args.more + 1) % 4294967296 ≡ 2 ^ (c.args.more + 1) = one_shl (c.args.more + 1) 32 (omega arith) in
    rw e (row_bit_small c.args.five c.args.more c.requires.small c.requires.short)
