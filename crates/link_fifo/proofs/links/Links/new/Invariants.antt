use Rattle.std.proofs.Common.{◌≡◌, take, map, vec_len, vec_capacity, length}
use Rattle.network_model.specs.World.{opening_link}
use Rattle.link_fifo.proofs.links.Links.new.Given as goal

abbrev pub invariant-loop-spec : goal.invariant-loop-spec
invariant-loop-spec g l = record {
  so_far : map (λ k. k.link) (l.links).items ≡ map opening_link (take l.spec-index l.specs);
  count : vec_len l.links ≡ l.spec-index;
  room : vec_capacity l.links ≡ length l.specs;
}
