use Rattle.std.proofs.Common.{◌≡◌, ◌++◌, ◌-◌, [], map, vec_len, vec_capacity}
use Rattle.no_packet_loops.proofs.Common.{range_with_len}
use Rattle.world.proofs.by_router.no_lists.Given as goal

abbrev pub invariant-loop : goal.invariant-loop
invariant-loop g l = record {
  so_far : map (λ v. v.items) l.lists.items ++ map (λ _. []) (range_with_len l.counter (l.count - l.counter)) ≡ map (λ _. []) (range_with_len 0 l.count);
  made : vec_len l.lists ≡ l.counter;
  room : vec_capacity l.lists ≡ l.count;
}
