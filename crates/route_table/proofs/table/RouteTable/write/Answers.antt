use Rattle.std.proofs.Common.{sym, ◌∙◌, subst, IsSome, refl, arith}
use Rattle.std.specs.FinMap.{find as row_of}
use Rattle.ipv4_prefix.specs.Prefix.{prefix_cmp}
use Rattle.route_table.specs.{declared.row.Row.Row, Rows.TableAndRoom}
use Rattle.network_model.proofs.RowLaws.{map-put}
use Rattle.route_table.proofs.{InForce.published-put, RowReads.published_at, RowReads.room_at}
use Rattle.route_table.proofs.Kept.{row_fits, change_fits, kept_put, length-put_known, length-put_at_most}
use Rattle.route_table.proofs.table.RouteTable.write.Goals as goal

pub put-requires : goal.put-requires
put-requires g c =
    let row : Row = record { control = c.args.entry; published = c.args.published } in
    row_fits _ _ _ _ c.self.inside.rows.sorted c.self.invariant c.args.prefix row (room_at _ _ _ c.self.view_is c.args.prefix c.requires.fits)

pub note_change-requires : goal.note_change-requires
note_change-requires g c =
    let row : Row = record { control = c.args.entry; published = c.args.published } in
    change_fits _ _ _ _ c.self.inside.rows.sorted c.self.invariant c.args.prefix row (room_at _ _ _ c.self.view_is c.args.prefix c.requires.fits)

pub invariant_of-self : goal.invariant_of-self
invariant_of-self g c =
    let put = c.put.ensures in
    let change = c.note_change.ensures in
    let row : Row = record { control = c.args.entry; published = c.args.published } in
    rw (put.rows, put.capacity, change.rows, change.capacity) (kept_put _ _ _ _ c.self.inside.rows.sorted c.self.invariant c.args.prefix row (room_at _ _ _ c.self.view_is c.args.prefix c.requires.fits))

pub returns-clause-control : goal.returns-clause-control
returns-clause-control g c = rw (c.put.ensures.rows, ← c.self.view_is) (map-put prefix_cmp (λ (r : Row). r.control) c.args.prefix _ c.self.inside.rows.entries.items)

pub returns-clause-published : goal.returns-clause-published
returns-clause-published g c =
    let rows = c.self.inside.rows in
    rw (c.put.ensures.rows, ← c.self.view_is) (published-put c.args.prefix _ rows.entries.items rows.sorted (c.requires.in_force ∙ published_at _ _ _ c.self.view_is c.args.prefix _ refl rows.sorted))

pub returns-clause-room_of_known : goal.returns-clause-room_of_known
returns-clause-room_of_known g c known =
    let rows = c.self.inside.rows in
    let there = subst (λ (t : TableAndRoom). IsSome (row_of prefix_cmp c.args.prefix (t.table).control)) (sym c.self.view_is) known in
    let same = length-put_known c.args.prefix (record { control = c.args.entry; published = c.args.published }) rows.entries.items rows.sorted there in
    rw (c.note_change.ensures.capacity, c.put.ensures.rows, same, ← c.self.view_is)

pub returns-clause-room : goal.returns-clause-room
returns-clause-room g c =
    let rows = c.self.inside.rows in
    let row : Row = record { control = c.args.entry; published = c.args.published } in
    rw (c.note_change.ensures.capacity, c.put.ensures.rows, ← c.self.view_is) (omega (arith, length-put_at_most c.args.prefix row rows.entries.items rows.sorted))
