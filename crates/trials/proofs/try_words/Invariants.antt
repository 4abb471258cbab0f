use Rattle.std.proofs.Common.{length}
use Rattle.trials.proofs.try_words.Given as goal

-- the words that are left
abbrev pub decreases-loop-task : goal.decreases-loop-task
decreases-loop-task g l = length l.rest
