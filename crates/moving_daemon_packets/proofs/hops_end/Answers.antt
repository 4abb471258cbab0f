use Rattle.moving_daemon_packets.proofs.Hops.{marked_end, unmarked_end}
use Rattle.moving_daemon_packets.proofs.hops_end.Goals as goal

pub returns : goal.returns
returns c = record { marked = marked_end; unmarked = unmarked_end }
