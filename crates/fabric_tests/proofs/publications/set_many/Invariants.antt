use Rattle.std.proofs.Common.{◌≡◌, []}
use Rattle.fabric_tests.proofs.publications.set_many.Given as goal

abbrev pub invariant-loop-k : goal.invariant-loop-k
invariant-loop-k g l = l.writer.waiting ≡ []
