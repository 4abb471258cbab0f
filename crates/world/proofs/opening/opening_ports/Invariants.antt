use Rattle.std.proofs.Common.{◌≡◌, ◌++◌, drop, map}
use Rattle.no_packet_loops.proofs.Common.{opening_port, opening_link}
use Rattle.world.proofs.opening.opening_ports.Given as goal

abbrev pub invariant-loop-place : goal.invariant-loop-place
invariant-loop-place g l = l.ports.items ++ map (opening_port (map opening_link l.links)) (drop l.place-index l.places) ≡ map (opening_port (map opening_link l.links)) l.places
