use Rattle.std.proofs.Common.{◌-◌}
use Rattle.word_pool.proofs.pool.Pool.+take.Given as goal

abbrev pub decreases-take : goal.decreases-take
decreases-take g l = 128 - l.size
