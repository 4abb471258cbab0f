use Rattle.std.proofs.Common.{◌≡◌, ◌+◌, ◌*◌, ◌≤◌, length}
use Rattle.std.specs.Vec.{vec_capacity, vec_len}
use Rattle.reachability.specs.{Marks.size, Ways.IsCutOff}
use Rattle.timed_reports.specs.{Looks.IsSpared, Records.AreLooked}
use Rattle.timed_reports.proofs.looks.look_for_outages.Given as goal

abbrev pub invariant-loop-number : goal.invariant-loop-number
invariant-loop-number g l = record {
  looked : AreLooked IsCutOff l.world l.now (IsSpared l.world l.step (l.world).prefixes l.marks) (l.number * length (l.world).routers) (l.fn.all).items (l.all).items (l.fn.ended).items (l.ended).items;
  room : vec_len l.ended + length (l.fn.all).items ≤ vec_capacity l.ended + l.number * length (l.world).routers;
  size : size l.cut ≡ size l.fn.cut;
}
