use Rattle.std.proofs.Common.{◌<◌, arith, vec_len, ◌∙◌, ap, sym}
use Rattle.std.proofs.lemmas.List.{get_or_default}
use Rattle.word_pool.specs.{Layout.entry, Layout.noted, Layout.free_size, Pool.blocks, Pool.spare}
use Rattle.word_pool.proofs.{Laid.head_within, Laid.head_some, Laid.width_some, Pools.pop_laid, Pools.pop_taken, Sizes.width_of, Sizes.few_lists, Sizes.words_fewer}
use Rattle.word_pool.proofs.pool.Pool.pop.Goals as goal

pub index-requires : goal.index-requires
index-requires g c =
    let few : c.args.list < 6 = omega (arith, few_lists c.args.size c.requires.one_of_six, c.requires.list) in
    let w = head_within (entry c.args.self.now.words.items) (vec_len c.args.self.now.words) (entry c.args.self.now.free) (entry c.args.self.now.spare.numbers) (noted c.args.self.now.used.numbers) c.args.self.now.laid c.args.list few c.requires.some in
    let p = width_some c.args.list in omega (arith, w, p)

pub invariant_of-self-clause-laid : goal.invariant_of-self-clause-laid
invariant_of-self-clause-laid g c =
    let few : c.args.list < 6 = omega (arith, few_lists c.args.size c.requires.one_of_six, c.requires.list) in
    let w = head_within (entry c.args.self.now.words.items) (vec_len c.args.self.now.words) (entry c.args.self.now.free) (entry c.args.self.now.spare.numbers) (noted c.args.self.now.used.numbers) c.args.self.now.laid c.args.list few c.requires.some in
    let p = width_some c.args.list in
    pop_laid c.args.self.now.words.items (vec_len c.args.self.now.words) c.args.self.now.free c.args.self.now.spare.numbers c.args.self.now.used.numbers c.args.self.now.laid
    c.args.list c.args.size few (width_of c.args.size c.requires.one_of_six ∙ sym (ap free_size c.requires.list)) (let k = c.index.type_inv in omega arith) c.args.self.now.lists c.requires.some c.note.result.numbers c.note.ensures
    c.index.result.now c.one_fewer.result.numbers (c.index.ensures ∙ get_or_default c.args.self.now.words.items (entry c.args.self.now.free c.args.list) c.index.result.now 0 (omega (arith, w, p, c.args.self.now.words.ok.0))) c.one_fewer.ensures

pub returns-clause-taken : goal.returns-clause-taken
unfolding blocks
returns-clause-taken g c =
    let few : c.args.list < 6 = omega (arith, few_lists c.args.size c.requires.one_of_six, c.requires.list) in
    pop_taken c.args.self.now.words.items (vec_len c.args.self.now.words) c.args.self.now.free c.args.self.now.spare.numbers c.args.self.now.used.numbers c.args.self.now.laid
    c.args.list c.args.size few (width_of c.args.size c.requires.one_of_six ∙ sym (ap free_size c.requires.list)) (let k = c.index.type_inv in omega arith) c.args.self.now.lists c.requires.some c.note.result.numbers c.note.ensures

pub returns-clause-words : goal.returns-clause-words
unfolding spare
returns-clause-words g c =
    let few : c.args.list < 6 = omega (arith, few_lists c.args.size c.requires.one_of_six, c.requires.list) in
    let p = head_some (entry c.args.self.now.words.items) (vec_len c.args.self.now.words) (entry c.args.self.now.free) (entry c.args.self.now.spare.numbers) (noted c.args.self.now.used.numbers) c.args.self.now.laid c.args.list few c.requires.some in
    let w = words_fewer c.args.self.now.spare.numbers c.one_fewer.result.numbers c.args.size c.args.list c.requires.one_of_six c.requires.list c.args.self.now.lists p c.one_fewer.ensures in
    omega (arith, w)
