use Rattle.std.proofs.Common.{◌≡◌, take, map, vec_len, vec_capacity, length}
use Rattle.link_fifo.proofs.links.copy_links.Given as goal

abbrev pub invariant-loop-link : goal.invariant-loop-link
invariant-loop-link g l = record {
  so_far : map (λ k. k.link) (l.copies).items ≡ map (λ k. k.link) (take l.link-index l.links);
  count : vec_len l.copies ≡ l.link-index;
  room : vec_capacity l.copies ≡ length l.links;
}
