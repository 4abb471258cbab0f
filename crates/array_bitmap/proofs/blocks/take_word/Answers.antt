use Rattle.std.proofs.Common.{arith, IsTrue, ◌-◌, ◌*◌, ap, sym, subst, ◌∙◌}
use Rattle.word_pool.specs.{Pool.blocks, Heap.is_size}
use Rattle.array_bitmap.specs.Changes.{Narrows}
use Rattle.array_bitmap.proofs.PoolWords.{size_holds, size_some, size_halved, word_taken, word_taken_half}
use Rattle.array_bitmap.proofs.blocks.take_word.Goals as goal

pub shift_out-requires-clause-fits : goal.shift_out-requires-clause-fits
shift_out-requires-clause-fits g c = omega (arith, c.requires.size, size_holds c.args.used (omega (arith, c.requires.few)))

pub narrow-requires-clause-one_of_six : goal.narrow-requires-clause-one_of_six
narrow-requires-clause-one_of_six g c = rw c.size_for-size.ensures (size_some (c.args.used - 1) (omega (arith, c.requires.few)))

pub narrow-requires-clause-twice : goal.narrow-requires-clause-twice
narrow-requires-clause-twice g c =
    let halved = size_halved c.args.used (omega (arith, c.requires.head)) c.requires.few (omega (arith, c.if-size-size_for.true, c.size_for-size.ensures, c.size_for.ensures)) in
    subst (λ n. IsTrue (is_size n)) (halved.0 ∙ ap (λ n. 2 * n) (sym c.size_for-size.ensures)) (size_some c.args.used (omega (arith, c.requires.few)))

pub narrow-requires-clause-size : goal.narrow-requires-clause-size
narrow-requires-clause-size g c =
    let halved = size_halved c.args.used (omega (arith, c.requires.head)) c.requires.few (omega (arith, c.if-size-size_for.true, c.size_for-size.ensures, c.size_for.ensures)) in
    omega (arith, c.shift_out.ensures.size, c.requires.size, halved.0, c.size_for-size.ensures)

pub narrow-requires-clause-fits : goal.narrow-requires-clause-fits
narrow-requires-clause-fits g c = omega (arith, size_holds (c.args.used - 1) (omega (arith, c.requires.few)), c.size_for-size.ensures)

pub returns-then-size-size_for : goal.returns-then-size-size_for
returns-then-size-size_for g c =
    word_taken_half (blocks c.args.pool.now) (blocks c.shift_out.new.pool) (blocks c.narrow.new.pool) c.args.block c.narrow.result c.args.used c.args.at c.requires.head c.requires.within c.shift_out.ensures
    (subst (λ n. Narrows (blocks c.shift_out.new.pool) (blocks c.narrow.new.pool) c.args.block c.narrow.result n (c.args.used - 1)) c.size_for-size.ensures c.narrow.ensures)

pub returns : goal.returns
returns g c =
    word_taken (blocks c.args.pool.now) (blocks c.shift_out.new.pool) c.args.block c.args.used c.args.at c.requires.some
    c.requires.head c.requires.few c.requires.size (omega (arith, c.if-size-size_for.false, c.size_for-size.ensures, c.size_for.ensures)) c.shift_out.ensures
