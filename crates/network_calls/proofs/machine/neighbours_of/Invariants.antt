use Rattle.std.proofs.Common.{◌≡◌, length, map, take}
use Rattle.std.specs.List.{range_with_len}
use Rattle.network_calls.specs.Shown.{neighbour_shown}
use Rattle.network_calls.proofs.machine.neighbours_of.Given as goal

abbrev pub invariant-loop-port : goal.invariant-loop-port
invariant-loop-port l = record {
  count : length l.shown ≡ 32;
  first : take l.port l.shown ≡ map (neighbour_shown (l.fn.machine).machine) (range_with_len 0 l.port);
}
