use Rattle.std.proofs.Common.{◌≡◌, ◌++◌, ◌+◌, ◌-◌, ◌≤◌, map, take, length, vec_len}
use Rattle.std.specs.Vec.{vec_capacity}
use Rattle.publication.proofs.writer.note_prefixes.Given as goal

abbrev pub invariant-loop-row : goal.invariant-loop-row
invariant-loop-row g l = (l.prefixes.items ≡ l.fn.prefixes.items ++ map (λ r. r.0) (take l.row-index l.row-items)) × (vec_len l.prefixes + (length l.row-items - l.row-index) ≤ vec_capacity l.prefixes)
