use Rattle.std.proofs.Common.{◌≡◌, ◌-◌, ◌<◌, length, vec_len}
use Rattle.tracer.specs.Following.{followed_from, followed_way}
use Rattle.tracer.proofs.Walks.{behind}
use Rattle.tracer.proofs.walk.follow.Given as goal

abbrev pub invariant-loop : goal.invariant-loop
invariant-loop g l = record {
  same : l.fabric ≡ l.fn.fabric;
  known : l.at < length l.fn.fabric.world.routers;
  passed : vec_len l.path ≡ l.counter;
  rest : behind l.path.items (followed_from l.through (l.routers - l.counter) l.fn.fabric.world l.addr l.first l.at) ≡ followed_way l.through l.fn.fabric.world l.router l.addr;
}
