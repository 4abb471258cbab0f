use Rattle.std.proofs.Common.{◌≡◌, length, map, take}
use Rattle.std.specs.List.{range_with_len}
use Rattle.single_router.specs.States.{awaited_flag}
use Rattle.single_router.proofs.state.awaited_ports.Given as goal

abbrev pub invariant-loop-port : goal.invariant-loop-port
invariant-loop-port l = record {
  count : length l.awaited ≡ 32;
  first : take l.port l.awaited ≡ map (awaited_flag (l.fn.machine).machine.computation) (range_with_len 0 l.port);
}
