use Rattle.many_ways.proofs.InForce.{always_no_hop_circles, always_hop_ways_end}
use Rattle.many_ways.proofs.no_hop_circles.Goals as goal

pub returns : goal.returns
returns c = record { circles = always_no_hop_circles; end = always_hop_ways_end }
