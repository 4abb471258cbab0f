use Rattle.many_daemon_ways.proofs.Resting.{equal_hops_are_least, hops_come_nearer, first_is_the_row, hops_are_in_force}
use Rattle.many_daemon_ways.proofs.hops_at_rest.Goals as goal

pub returns : goal.returns
returns c = record { least = equal_hops_are_least; nearer = hops_come_nearer; first = first_is_the_row; in_force = hops_are_in_force }
