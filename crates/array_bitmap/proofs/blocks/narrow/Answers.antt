use Rattle.std.proofs.Common.{arith, ap, ◌∙◌}
use Rattle.word_pool.specs.{Heap.size_of, Pool.blocks}
use Rattle.array_bitmap.proofs.PoolWords.{there, narrow_halved, narrow_moved, narrow_after}
use Rattle.array_bitmap.proofs.blocks.narrow.Goals as goal

pub returns-then-not-has_free : goal.returns-then-not-has_free
returns-then-not-has_free g c =
    narrow_halved (blocks c.args.pool.now) (blocks c.halve.new.self) c.args.block c.args.half c.args.used c.requires.some c.requires.size c.requires.fits c.halve.ensures.shortened

pub returns-in_default : goal.returns-in_default
returns-in_default g c =
    let same = c.in_default.ensures.err.same in
    narrow_after (blocks c.args.pool.now) (blocks c.take.new.self) (blocks c.halve-in_default.new.self) c.args.block c.args.block c.args.half c.args.used same
    (narrow_halved (blocks c.take.new.self) (blocks c.halve-in_default.new.self) c.args.block c.args.half c.args.used c.requires.some (ap size_of (same c.args.block) ∙ c.requires.size) c.requires.fits
    c.halve-in_default.ensures.shortened)

pub returns : goal.returns
returns g c =
    narrow_moved (blocks c.args.pool.now) (blocks c.take.new.self) (blocks c.copy_words.new.pool) (blocks c.give.new.self) c.args.block c.in-Ok.place c.args.half c.args.used
    (there (blocks c.args.pool.now c.args.block) (omega (arith, c.requires.size, c.requires.head, c.requires.fits))) c.in-Ok.ensures.ok c.copy_words.ensures c.give.ensures.given
