use Rattle.std.proofs.Common.{◌≡◌, vec_len}
use Rattle.std.specs.Vec.{vec_capacity}
use Rattle.publication.proofs.name.Unnamed.many.Given as goal

abbrev pub invariant-loop : goal.invariant-loop
invariant-loop g l = (vec_len l.all ≡ l.counter) × (vec_capacity l.all ≡ l.fn.count)
