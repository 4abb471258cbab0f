use Rattle.std.proofs.Common.{◌≡◌, ◌≤◌, drop, length}
use Rattle.network_model.specs.World.{rows_of}
use Rattle.route_table.specs.PrefixMap.{map_rows, map_capacity}
use Rattle.world.proofs.attachments.Attachments.new.Given as goal

abbrev pub invariant-loop-i : goal.invariant-loop-i
invariant-loop-i g l = record {
  rows : map_rows l.costs ≡ rows_of (drop l.i l.own);
  room : length l.own ≤ map_capacity l.costs;
}
