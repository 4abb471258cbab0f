use Rattle.word_pool.specs.Pool.{blocks}
use Rattle.array_bitmap.proofs.Puts.{blank_taken}
use Rattle.array_bitmap.proofs.blocks.blank.Goals as goal

pub returns-clause-ok : goal.returns-clause-ok
returns-clause-ok g c =
    blank_taken (blocks c.args.pool.now) (blocks c.take.new.self) (blocks c.set_word.new.self) (blocks c.set_word-2.new.self) (blocks c.set_word-3.new.self) c.in_ok-place.place
    c.in_ok-place.ensures.ok c.set_word.ensures.written c.set_word-2.ensures.written c.set_word-3.ensures.written
