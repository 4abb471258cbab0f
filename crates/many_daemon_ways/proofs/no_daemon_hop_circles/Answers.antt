use Rattle.many_daemon_ways.proofs.Ways.{no_hop_circles, no_unmarked_hop_circles}
use Rattle.many_daemon_ways.proofs.no_daemon_hop_circles.Goals as goal

pub returns : goal.returns
returns c = record { marked = no_hop_circles; unmarked = no_unmarked_hop_circles }
