use Rattle.std.proofs.Common.{◌≡◌, ◌+◌, ◌*◌, ◌≤◌, List, length}
use Rattle.std.specs.Vec.{vec_capacity, vec_len}
use Rattle.reachability.specs.Ways.{IsCutOff}
use Rattle.timed_reports.specs.{declared.spells.Spell.Spell, declared.spells.Watched.Watched, Looks.IsSpared, Records.AreInOrder, Records.AreLooked}
use Rattle.timed_reports.proofs.looks.look_at_prefix.Given as goal

abbrev pub invariant-loop-place : goal.invariant-loop-place
invariant-loop-place g l = record {
  further : (old : List Watched) (before : List Spell) → AreInOrder (length (l.world).routers) l.prefixes old → AreLooked IsCutOff l.world l.now (IsSpared l.world l.step l.prefixes l.marks) (l.number * length (l.world).routers) old (l.fn.all).items before (l.fn.ended).items
      → AreLooked IsCutOff l.world l.now (IsSpared l.world l.step l.prefixes l.marks) l.place old (l.all).items before (l.ended).items;
  many : length (l.all).items ≡ length (l.fn.all).items;
  from : l.number * length (l.world).routers ≤ l.place;
  room : vec_len l.ended + l.number * length (l.world).routers ≤ vec_len l.fn.ended + l.place;
  capacity : vec_capacity l.fn.ended ≤ vec_capacity l.ended;
}
