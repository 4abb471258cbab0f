use Rattle.std.proofs.Common.{rules}
use Rattle.word_pool.proofs.pool.Pool.halve.Goals as goal

pub returns-clause-shortened : goal.returns-clause-shortened
returns-clause-shortened g c = search rules
