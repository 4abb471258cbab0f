use Rattle.std.proofs.Common.{◌≡◌, ℕ, ◌<◌, ◌++◌, map, None, Some, slice_get}
use Rattle.timed_reports.specs.declared.spells.Watched.{Watched}
use Rattle.timed_reports.specs.Records.{IsListed, watched, watched_at, with_routers}
use Rattle.timed_reports.proofs.spells.watch_prefix.Given as goal

abbrev pub invariant-loop-place : goal.invariant-loop-place
invariant-loop-place g l = record {
  each : (i : ℕ) → i < l.place → IsListed (watched i l.prefix None) (l.all).items;
  kept : (c : Watched) → IsListed c (l.fn.all).items → IsListed c (l.all).items;
  none : (k : ℕ) (c : Watched) → slice_get (l.all).items k ≡ Some c → c.since ≡ None;
  order : map watched_at (l.all).items ≡ map watched_at (l.fn.all).items ++ with_routers l.place l.prefix;
}
