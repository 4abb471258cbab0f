use Rattle.std.proofs.Common.{ℕ, List, Some, ◌≡◌, ◌≤◌, ◌<◌, map, length, vec_len, slice_get, vec_capacity}
use Rattle.publication.specs.{declared.known.Known.Known, Lists.EachAt, Lists.no_patches}
use Rattle.fabric.specs.Writers.{HaveReaders}
use Rattle.fabric.proofs.ports.take_port.Given as goal

abbrev pub invariant-loop-router : goal.invariant-loop-router
invariant-loop-router g l = record {
  all : vec_len l.lists ≡ vec_len l.fn.lists;
  end : l.router-end ≡ vec_len l.fn.lists;
  taken : vec_len l.port ≡ l.router;
  room : vec_len l.fn.lists ≤ vec_capacity l.port;
  port : EachAt (λ i r. r ≡ no_patches i) l.port.items;
  stock : (k : ℕ) → k < l.many → HaveReaders k (map (λ rs. rs.items) l.lists.items);
  untouched : (i : ℕ) → l.router ≤ i → (rs : List Known) → slice_get (map (λ rs. rs.items) l.lists.items) i ≡ Some rs → l.many ≤ length rs;
}
