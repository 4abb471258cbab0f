use Rattle.std.proofs.Common.{ap, ◌∙◌}
use Rattle.word_pool.specs.{Heap.size_of, Pool.blocks}
use Rattle.array_bitmap.proofs.Puts.{not_taken}
use Rattle.array_bitmap.proofs.blocks.with_new_kid.Goals as goal

pub with_kid-requires-clause-is_block : goal.with_kid-requires-clause-is_block
with_kid-requires-clause-is_block g c =
    rw (c.in_ok-kid.ensures.ok.others c.args.block (not_taken (blocks c.args.pool.now) (blocks c.blank.new.pool) c.in_ok-kid.kid c.args.block c.in_ok-kid.ensures.ok c.requires.used)) c.requires.is_block

pub give-requires-clause-used : goal.give-requires-clause-used
give-requires-clause-used g c = ap size_of (c.in-Err.ensures.err c.in_ok-kid.kid) ∙ c.in_ok-kid.ensures.ok.size
