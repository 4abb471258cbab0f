use Rattle.std.proofs.Common.{refl, sym, ap, ◌∙◌, arith, ◌≡◌, ◌≤◌, Some, length, slice_get}
use Rattle.no_packet_loops.proofs.Common.{slice_get_past, slice_get_read}
use Rattle.fabric.proofs.Seats.{none_waits, waits_there}
use Rattle.fabric.proofs.fabric.waiting_at.Goals as goal

pub returns-in-Some : goal.returns-in-Some
returns-in-Some g c inside =
    let read = c.in-Some.ensures.lookup in
    let desks = c.args.desks.now in
    let there : slice_get desks c.args.router ≡ Some c.in-Some.desk.now = ap (slice_get desks) (sym c.from.ensures) ∙ slice_get_read desks (length desks) c.from.result c.in-Some.desk.now refl read.3.0 read.1 in
    waits_there desks c.args.router c.in-Some.desk.now c.waiting.result.now there c.waiting.ensures inside

pub returns-in-None : goal.returns-in-None
returns-in-None g c inside =
    let desks = c.args.desks.now in
    let past : length desks ≤ c.args.router = omega (arith, c.in-None.ensures.lookup, c.from.ensures) in
    none_waits desks c.args.router (slice_get_past desks c.args.router past)
