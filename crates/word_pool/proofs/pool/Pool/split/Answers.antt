use Rattle.std.proofs.Common.{arith, vec_len, ◌∙◌, sym}
use Rattle.word_pool.specs.Pool.{blocks}
use Rattle.word_pool.proofs.Pools.{size-blocks, within-blocks, split_laid, split_here}
use Rattle.word_pool.proofs.pool.Pool.split.Goals as goal

pub overflow_cast-upper : goal.overflow_cast-upper
overflow_cast-upper g c =
    let w = within-blocks c.args.self.now c.args.block c.args.half (omega (arith, c.requires.some, c.requires.used)) in omega (arith, w, c.args.self.now.few)

pub overflow_add-upper : goal.overflow_add-upper
overflow_add-upper g c =
    let w = within-blocks c.args.self.now c.args.block c.args.half (omega (arith, c.requires.some, c.requires.used)) in omega (arith, w, c.args.self.now.few)

pub invariant_of-self-clause-laid : goal.invariant_of-self-clause-laid
invariant_of-self-clause-laid g c =
    split_laid c.args.self.now.words.items (vec_len c.args.self.now.words) c.args.self.now.free c.args.self.now.spare.numbers c.args.self.now.used.numbers c.args.self.now.laid
    c.args.block c.args.half c.requires.some c.requires.not_zero (sym (size-blocks c.args.self.now c.args.block) ∙ c.requires.used)
    c.note.result.numbers c.note-2.result.numbers c.note.ensures c.note-2.ensures

pub returns-clause-split : goal.returns-clause-split
unfolding blocks
returns-clause-split g c =
    split_here c.args.self.now.words.items (vec_len c.args.self.now.words) c.args.self.now.free c.args.self.now.spare.numbers c.args.self.now.used.numbers c.args.self.now.laid
    c.args.block c.args.half c.requires.some c.requires.not_zero (sym (size-blocks c.args.self.now c.args.block) ∙ c.requires.used)
    c.note.result.numbers c.note-2.result.numbers c.note.ensures c.note-2.ensures
