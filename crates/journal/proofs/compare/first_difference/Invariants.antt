use Rattle.std.proofs.Common.{◌≡◌, ◌≤◌, ◌+◌, ◌++◌, List, length}
use Rattle.script.proofs.Common.{Text, lines_of}
use Rattle.journal.proofs.compare.first_difference.Given as goal

abbrev pub invariant-loop-first : goal.invariant-loop-first
invariant-loop-first l = record {
  lines : List Text;
  count : l.same ≡ length lines;
  a_is : lines_of l.a ≡ lines ++ lines_of l.rest;
  b_is : lines_of l.b ≡ lines ++ lines_of l.other;
  fits_a : l.same + length l.rest ≤ length l.a;
  fits_b : l.same + length l.other ≤ length l.b;
}

abbrev pub decreases-loop-first : goal.decreases-loop-first
decreases-loop-first l = length l.rest
