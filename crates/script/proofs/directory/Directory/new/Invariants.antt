use Rattle.std.proofs.Common.{◌≡◌, map}
use Rattle.script.proofs.Common.{range_with_len, neighbours_of}
use Rattle.script.proofs.directory.Directory.new.Given as goal

abbrev pub invariant-loop-router : goal.invariant-loop-router
invariant-loop-router l = map (λ v. v.items) l.neighbours.items ≡ map (neighbours_of l.links) (range_with_len 0 l.router)
