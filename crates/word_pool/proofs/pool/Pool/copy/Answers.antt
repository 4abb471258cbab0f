use Rattle.std.proofs.Common.{◌∙◌, ap}
use Rattle.word_pool.specs.{Layout.entry, Pool.blocks, Pool.spare, Pool.list_of_size}
use Rattle.word_pool.proofs.Pools.{words_stay}
use Rattle.word_pool.proofs.pool.Pool.copy.Goals as goal

pub returns : goal.returns
unfolding blocks spare
returns g c = record {
  same = words_stay c.args.self.now.words.items c.in_ok-from_slice.field-0.items c.args.self.now.used.numbers c.again.result.numbers (c.in_ok-from_slice.ensures.items ∙ c.deref.ensures.value) c.again.ensures;
  free = λ s. ap (λ n. entry n (list_of_size s)) c.again-2.ensures;
  count = c.in_ok-from_slice.ensures.len ∙ c.deref.ensures.len;
}
