use Rattle.std.proofs.Common.{arith, sym, ◌∙◌, ◌+◌}
use Rattle.std.proofs.lemmas.List.{get_or_default}
use Rattle.word_pool.proofs.Pools.{within-blocks, word-blocks}
use Rattle.word_pool.proofs.pool.Pool.word.Goals as goal

pub overflow_add-block : goal.overflow_add-block
overflow_add-block g c = let w = within-blocks c.args.self.now c.args.block c.args.i c.requires in omega (arith, w, c.args.self.now.few)

pub index-requires : goal.index-requires
index-requires g c = within-blocks c.args.self.now c.args.block c.args.i c.requires

pub returns : goal.returns
returns g c =
    let w = within-blocks c.args.self.now c.args.block c.args.i c.requires in
    c.index.ensures ∙ get_or_default c.args.self.now.words.items (c.args.block + c.args.i) c.index.result.now 0 (omega (arith, w, c.args.self.now.words.ok.0))
    ∙ sym (word-blocks c.args.self.now c.args.block c.args.i c.requires)
