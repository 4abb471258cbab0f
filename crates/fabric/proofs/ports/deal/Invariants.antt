use Rattle.std.proofs.Common.{◌≡◌, ◌-◌, ◌≤◌, All, map, vec_len, vec_capacity}
use Rattle.fabric.specs.Writers.{HaveReaders, IsReaderPort}
use Rattle.fabric.proofs.ports.deal.Given as goal

abbrev pub invariant-loop-done : goal.invariant-loop-done
invariant-loop-done g l = record {
  all : vec_len l.lists ≡ vec_len l.fn.lists;
  given : vec_len l.ports ≡ l.done;
  room : l.workers ≤ vec_capacity l.ports;
  stock : HaveReaders (l.workers - l.done) (map (λ rs. rs.items) l.lists.items);
  ports : All (λ port. IsReaderPort (vec_len l.fn.lists) port.items) l.ports.items;
}
