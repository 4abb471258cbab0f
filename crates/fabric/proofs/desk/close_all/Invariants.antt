use Rattle.std.proofs.Common.{vec_len}
use Rattle.fabric.proofs.desk.close_all.Given as goal

abbrev pub decreases-loop-desk : goal.decreases-loop-desk
decreases-loop-desk g l = vec_len l.desks
