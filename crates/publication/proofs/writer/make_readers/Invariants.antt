use Rattle.std.proofs.Common.{◌≡◌, All, vec_len}
use Rattle.publication.proofs.writer.make_readers.Given as goal

abbrev pub invariant-loop : goal.invariant-loop
invariant-loop g l = (vec_len l.readers ≡ l.counter) × All (λ r. r ≡ l.fn.told) l.readers.items
