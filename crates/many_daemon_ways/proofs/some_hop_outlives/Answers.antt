use Rattle.many_daemon_ways.proofs.{Example.some_hop_outlives as outlives, RestExample.some_hops_rest}
use Rattle.many_daemon_ways.proofs.some_hop_outlives.Goals as goal

pub returns : goal.returns
returns c = record { outlives = outlives; rests = some_hops_rest }
