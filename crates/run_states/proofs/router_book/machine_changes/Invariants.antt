use Rattle.std.proofs.Common.{◌≡◌}
use Rattle.run_states.specs.Books.{ShowsUnmarked, machines_after}
use Rattle.run_states.proofs.Books.{AreUnmarkedBelow}
use Rattle.run_states.proofs.router_book.machine_changes.Given as goal

abbrev pub invariant-loop-number : goal.invariant-loop-number
invariant-loop-number l = record {
  follows : l.shown ≡ machines_after (l.changes).items l.initial.shown;
  shows : ShowsUnmarked l.router l.prefixes l.marks l.shown;
  unmarked : AreUnmarkedBelow l.number l.marks;
}
