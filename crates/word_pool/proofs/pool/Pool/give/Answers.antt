use Rattle.std.proofs.Common.{arith, vec_len, ◌∙◌, sym}
use Rattle.word_pool.specs.Pool.{blocks, spare}
use Rattle.word_pool.proofs.{Laid.width_some, Sizes.count_more, Sizes.count_other, Sizes.words_more}
use Rattle.word_pool.proofs.Pools.{size-blocks, within-blocks, push_laid, push_given}
use Rattle.word_pool.proofs.pool.Pool.give.Goals as goal

pub index_mut-requires : goal.index_mut-requires
index_mut-requires g c =
    let p = width_some c.list_of-list.result in
    let w = within-blocks c.args.self.now c.args.block 0 (omega (arith, p, c.list_of-list.ensures.size, c.requires.used)) in omega (arith, w)

pub invariant_of-self-clause-laid : goal.invariant_of-self-clause-laid
invariant_of-self-clause-laid g c =
    push_laid c.args.self.now.words.items (vec_len c.args.self.now.words) c.args.self.now.free c.args.self.now.spare.numbers c.args.self.now.used.numbers c.args.self.now.laid
    c.args.block c.list_of-list.result c.list_of-list.ensures.few (let k = c.list_of-list.type_inv in omega arith) c.args.self.now.lists c.args.self.now.words.ok.0 c.requires.not_zero
    (sym (size-blocks c.args.self.now c.args.block) ∙ c.requires.used ∙ c.list_of-list.ensures.size) c.note.result.numbers c.note.ensures c.one_more.result.numbers c.one_more.ensures

pub returns-clause-given : goal.returns-clause-given
unfolding blocks
returns-clause-given g c =
    push_given c.args.self.now.words.items (vec_len c.args.self.now.words) c.args.self.now.free c.args.self.now.spare.numbers c.args.self.now.used.numbers c.args.self.now.laid
    c.args.block c.list_of-list.result c.list_of-list.ensures.few (let k = c.list_of-list.type_inv in omega arith) c.args.self.now.lists c.args.self.now.words.ok.0 c.requires.not_zero
    (sym (size-blocks c.args.self.now c.args.block) ∙ c.requires.used ∙ c.list_of-list.ensures.size) c.note.result.numbers c.note.ensures

pub returns-clause-one_more : goal.returns-clause-one_more
unfolding spare
returns-clause-one_more g c = count_more c.args.self.now.spare.numbers c.one_more.result.numbers c.args.size c.list_of-list.result c.requires.one_of_six c.list_of-list.ensures.list c.args.self.now.lists c.one_more.ensures

pub returns-clause-others : goal.returns-clause-others
unfolding spare
returns-clause-others g c s h n = count_other c.args.self.now.spare.numbers c.one_more.result.numbers c.args.size c.list_of-list.result c.requires.one_of_six c.list_of-list.ensures.list c.args.self.now.lists c.one_more.ensures s h n

pub returns-clause-words : goal.returns-clause-words
unfolding spare
returns-clause-words g c = words_more c.args.self.now.spare.numbers c.one_more.result.numbers c.args.size c.list_of-list.result c.requires.one_of_six c.list_of-list.ensures.list c.args.self.now.lists c.one_more.ensures
