use Rattle.std.proofs.Common.{◌≡◌, ℕ, ◌<◌, false, length, get_or, Some, slice_get}
use Rattle.ipv4_prefix.specs.Prefix.{Prefix}
use Rattle.timed_reports.specs.Records.{MovesNoWay}
use Rattle.timed_reports.proofs.looks.mark_moved.Given as goal

abbrev pub invariant-loop-number : goal.invariant-loop-number
invariant-loop-number g l = record {
  marked : (k : ℕ) (p : Prefix) → k < l.number → slice_get (l.world).prefixes k ≡ Some p → get_or (l.marks).items k false ≡ false → MovesNoWay l.world l.step p;
  many : length (l.marks).items ≡ length (l.fn.marks).items;
}
