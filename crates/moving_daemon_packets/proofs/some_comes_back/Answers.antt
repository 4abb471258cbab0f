use Rattle.moving_daemon_packets.proofs.Example.{some_comes_back as comes_back}
use Rattle.moving_daemon_packets.proofs.some_comes_back.Goals as goal

pub returns : goal.returns
returns c = comes_back
