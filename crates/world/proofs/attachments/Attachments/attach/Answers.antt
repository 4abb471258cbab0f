use Rattle.std.proofs.Common.{◌+◌, ◌≤◌, length, sym, subst, arith, rules}
use Rattle.route_table.specs.PrefixMap.{map_rows, map_capacity}
use Rattle.route_table.proofs.Kept.{length-put_at_most}
use Rattle.world.proofs.attachments.Attachments.attach.Goals as goal

pub put-requires : goal.put-requires
put-requires g c =
    let rows = map_rows c.reserve.new.self in
    let more = length-put_at_most c.args.prefix c.args.cost rows (c.reserve.new.self).sorted in
    let room : length rows + 1 ≤ map_capacity c.reserve.new.self = subst (λ xs. length xs + 1 ≤ map_capacity c.reserve.new.self) (sym c.in_ok-reserve.ensures.rows) c.in_ok-reserve.ensures.ok in
    omega (arith, more, room)

pub returns-in_err-reserve-clause-ok : goal.returns-in_err-reserve-clause-ok
returns-in_err-reserve-clause-ok g c = search rules

pub returns-in_err-push_back-clause-ok : goal.returns-in_err-push_back-clause-ok
returns-in_err-push_back-clause-ok g c = search rules

pub returns-clause-ok : goal.returns-clause-ok
returns-clause-ok g c = search rules
