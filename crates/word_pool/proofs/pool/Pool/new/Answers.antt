use Rattle.std.proofs.Common.{arith, vec_len, refl, ap}
use Rattle.word_pool.specs.{Pool.spare, Layout.entry}
use Rattle.word_pool.proofs.{Pools.empty_blocks, Sizes.total, Start.start_laid}
use Rattle.word_pool.proofs.pool.Pool.new.Goals as goal

pub invariant_of-result-clause-laid : goal.invariant_of-result-clause-laid
invariant_of-result-clause-laid g c =
    start_laid c.resize.new.self.items (vec_len c.resize.new.self) c.first_group.result.numbers c.first_block.result.numbers c.in_ok-resize.ensures.len
    (λ k l. c.in_ok-resize.ensures.by_index.1 k 0 refl (omega (arith, c.new-words.ensures.len)) l) c.first_group.ensures c.first_block.ensures

pub returns-clause-empty : goal.returns-clause-empty
returns-clause-empty g c = empty_blocks _ c.first_block.ensures

pub returns-clause-free : goal.returns-clause-free
unfolding spare
returns-clause-free g c =
    let w = ap (λ n. total (entry n)) c.first_group.ensures in omega (arith, w, c.in_ok-resize.ensures.len)
