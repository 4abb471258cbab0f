use Rattle.std.proofs.Common.{◌≡◌, ℕ, ◌<◌, None, Some, slice_get, take}
use Rattle.ipv4_prefix.specs.Prefix.{Prefix}
use Rattle.timed_reports.specs.{declared.spells.Watched.Watched, Records.AreInOrder, Records.IsListed, Records.watched}
use Rattle.timed_reports.proofs.spells.watch_all.Given as goal

abbrev pub invariant-loop-prefix : goal.invariant-loop-prefix
invariant-loop-prefix g l = record {
  each : (k : ℕ) (p : Prefix) → k < l.prefix-index → slice_get l.prefixes k ≡ Some p → (i : ℕ) → i < l.routers → IsListed (watched i p None) (l.all).items;
  none : (k : ℕ) (c : Watched) → slice_get (l.all).items k ≡ Some c → c.since ≡ None;
  order : AreInOrder l.routers (take l.prefix-index l.prefixes) (l.all).items;
}
