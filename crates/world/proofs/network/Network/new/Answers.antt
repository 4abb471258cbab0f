use Rattle.std.proofs.Common.{arith}
use Rattle.world.proofs.network.Network.new.Goals as goal

pub within-requires : goal.within-requires
within-requires c = record { routers = omega arith; links = omega arith; ports = omega arith; prefixes = omega arith; attachments = omega arith }
