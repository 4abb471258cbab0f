use Rattle.moving_packets.proofs.Rises.{always_come_from}
use Rattle.moving_packets.proofs.rises_come_from.Goals as goal

pub returns : goal.returns
returns c = always_come_from
