use Rattle.std.proofs.Common.{◌≡◌, take, length, vec_len, vec_capacity}
use Rattle.router_core.proofs.router.copy_machines.Given as goal

abbrev pub invariant-loop-machine : goal.invariant-loop-machine
invariant-loop-machine g l = record {
  so_far : (l.copies).items ≡ take l.machine-index l.machines;
  count : vec_len l.copies ≡ l.machine-index;
  room : vec_capacity l.copies ≡ length l.machines;
}
