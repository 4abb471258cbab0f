use Rattle.std.proofs.Common.{◌+◌, ◌*◌, ◌≤◌, length}
use Rattle.std.specs.Vec.{vec_capacity, vec_len}
use Rattle.timed_reports.specs.{Going.IsComputing, Looks.IsUnmet, Records.AreLooked}
use Rattle.timed_reports.proofs.looks.look_at_router.Given as goal

abbrev pub invariant-loop-number : goal.invariant-loop-number
invariant-loop-number g l = record {
  looked : AreLooked IsComputing l.world l.now (IsUnmet l.router l.told) (l.number * l.routers) (l.fn.all).items (l.all).items (l.fn.ended).items (l.ended).items;
  room : vec_len l.ended + length (l.fn.all).items ≤ vec_capacity l.ended + l.number * l.routers;
}
