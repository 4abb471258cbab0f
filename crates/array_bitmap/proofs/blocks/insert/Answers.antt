use Rattle.std.proofs.Common.{◌+◌, arith}
use Rattle.word_pool.specs.Pool.{blocks}
use Rattle.array_bitmap.proofs.PoolWords.{size_holds, word_put}
use Rattle.array_bitmap.proofs.blocks.insert.Goals as goal

pub shift_in-requires-clause-fits : goal.shift_in-requires-clause-fits
shift_in-requires-clause-fits g c =
    let size = c.in_ok-place.ensures.ok.size in
    omega (arith, size, size_holds (c.args.used + 1) (omega (arith, c.requires.few)))

pub returns-clause-ok : goal.returns-clause-ok
returns-clause-ok g c =
    word_put (blocks c.args.pool.now) (blocks c.with_room.new.pool) (blocks c.shift_in.new.pool) c.args.block c.in_ok-place.place c.args.used c.args.at c.args.word
    c.requires.within c.in_ok-place.ensures.ok c.shift_in.ensures
