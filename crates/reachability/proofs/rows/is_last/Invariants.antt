use Rattle.reachability.specs.Ways.{HasWay}
use Rattle.reachability.proofs.rows.is_last.Given as goal

abbrev pub invariant-loop : goal.invariant-loop
invariant-loop g l = HasWay l.world l.prefix l.at → HasWay l.world l.prefix l.router
