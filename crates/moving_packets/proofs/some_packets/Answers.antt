use Rattle.moving_packets.proofs.Example.{some_for_better, some_after_rise}
use Rattle.moving_packets.proofs.some_packets.Goals as goal

pub returns : goal.returns
returns c = record { better = some_for_better; rise = some_after_rise }
