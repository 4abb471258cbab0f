use Rattle.fabric.proofs.Example.{goes_ahead}
use Rattle.fabric.proofs.some_packet_goes_ahead.Goals as goal

pub returns : goal.returns
returns c = goes_ahead
