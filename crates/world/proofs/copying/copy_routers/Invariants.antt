use Rattle.std.proofs.Common.{◌≡◌, take, length, vec_len, vec_capacity}
use Rattle.world.proofs.copying.copy_routers.Given as goal

abbrev pub invariant-loop-router : goal.invariant-loop-router
invariant-loop-router g l = record {
  so_far : (l.copies).items ≡ take l.router-index l.routers;
  count : vec_len l.copies ≡ l.router-index;
  room : vec_capacity l.copies ≡ length l.routers;
}
