use Rattle.std.proofs.Common.{vec_len}
use Rattle.publication.proofs.writers.close_all.Given as goal

abbrev pub decreases-loop-writer : goal.decreases-loop-writer
decreases-loop-writer g l = vec_len l.writers
