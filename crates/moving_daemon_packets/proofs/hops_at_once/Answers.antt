use Rattle.moving_daemon_packets.proofs.Flights.{always_at_once, always_in_order}
use Rattle.moving_daemon_packets.proofs.hops_at_once.Goals as goal

pub returns : goal.returns
returns c = record { marked = always_at_once; unmarked = always_in_order }
