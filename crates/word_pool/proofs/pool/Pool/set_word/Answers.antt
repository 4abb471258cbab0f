use Rattle.std.proofs.Common.{arith, vec_len}
use Rattle.word_pool.specs.Pool.{blocks}
use Rattle.word_pool.proofs.Pools.{size-blocks, within-blocks, set_laid, set_written}
use Rattle.word_pool.proofs.pool.Pool.set_word.Goals as goal

pub overflow_add-block : goal.overflow_add-block
overflow_add-block g c = let w = within-blocks c.args.self.now c.args.block c.args.i c.requires.inside in omega (arith, w, c.args.self.now.few)

pub index_mut-requires : goal.index_mut-requires
index_mut-requires g c = within-blocks c.args.self.now c.args.block c.args.i c.requires.inside

pub invariant_of-self-clause-laid : goal.invariant_of-self-clause-laid
invariant_of-self-clause-laid g c =
    let s = size-blocks c.args.self.now c.args.block in
    set_laid c.args.self.now.words.items (vec_len c.args.self.now.words) c.args.self.now.free c.args.self.now.spare.numbers c.args.self.now.used.numbers c.args.self.now.laid c.args.block c.args.i c.args.word
    c.requires.not_zero (omega (arith, s, c.requires.inside))

pub returns-clause-written : goal.returns-clause-written
unfolding blocks
returns-clause-written g c =
    let s = size-blocks c.args.self.now c.args.block in
    set_written c.args.self.now.words.items (vec_len c.args.self.now.words) c.args.self.now.free c.args.self.now.spare.numbers c.args.self.now.used.numbers c.args.self.now.laid c.args.block c.args.i c.args.word
    c.args.self.now.words.ok.0 (omega (arith, s, c.requires.inside))
