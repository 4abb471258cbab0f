use Rattle.std.proofs.Common.{arith, ap, length}
use Rattle.route_table.specs.PrefixMap.{map_rows}
use Rattle.route_table.proofs.Kept.{length-differing}
use Rattle.route_table.proofs.table.RouteTable.copy.Goals as goal

pub copy-requires-2 : goal.copy-requires-2
copy-requires-2 g c = omega (arith, length-differing (map_rows c.self.inside.rows), ap length c.self.invariant.differing)
