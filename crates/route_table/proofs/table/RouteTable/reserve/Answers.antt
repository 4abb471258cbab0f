use Rattle.std.proofs.Common.{rules}
use Rattle.route_table.proofs.table.RouteTable.reserve.Goals as goal

pub returns-then-additional-room-clause-ok : goal.returns-then-additional-room-clause-ok
returns-then-additional-room-clause-ok g c = search rules

pub returns-in_err-reserve-clause-ok : goal.returns-in_err-reserve-clause-ok
returns-in_err-reserve-clause-ok g c = search rules

pub returns-in_err-reserve_in_all-clause-ok : goal.returns-in_err-reserve_in_all-clause-ok
returns-in_err-reserve_in_all-clause-ok g c = search rules

pub returns-clause-ok : goal.returns-clause-ok
returns-clause-ok g c = search rules
