use Rattle.std.proofs.Common.{sym}
use Rattle.route_table.proofs.PrefixPlaces.{found_row, missed_row}
use Rattle.route_table.proofs.prefix_map.PrefixMap.get.Goals as goal

pub returns-in-Ok : goal.returns-in-Ok
returns-in-Ok g c = sym (found_row _ c.in-Ok.place c.args.prefix c.index.result.now c.args.self.now.sorted c.in-Ok.ensures c.index.ensures)

pub returns-in-Err : goal.returns-in-Err
returns-in-Err g c = sym (missed_row _ _ _ c.in-Err.ensures)
