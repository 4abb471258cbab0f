use Rattle.moving_packets.proofs.Hops.{always_few, always_hops_end}
use Rattle.moving_packets.proofs.hops_end.Goals as goal

pub returns : goal.returns
returns c = record { few = always_few; end = always_hops_end }
