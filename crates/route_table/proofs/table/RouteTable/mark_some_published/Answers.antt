use Rattle.std.proofs.Common.{◌≡◌, take, min, length, sym, ap, ◌∙◌}
use Rattle.std.proofs.lemmas.List.{take_min}
use Rattle.network_model.specs.{Step.changed_rows, Publication.with_rows}
use Rattle.route_table.specs.Parts.{with_some_published}
use Rattle.route_table.specs.Rows.{TableAndRoom, control_rows, published_rows, table_of, differing_rows, with_in_force}
use Rattle.route_table.proofs.{Changed.changed_rows-table_of, PublishedInPart.table-first}
use Rattle.route_table.proofs.Kept.{first_in_force, length-first_in_force, first_fits, kept_some_published}
use Rattle.route_table.proofs.table.RouteTable.mark_some_published.Goals as goal

pub put_in_force-requires : goal.put_in_force-requires
put_in_force-requires g c = rw c.as_slice.ensures (first_fits _ _ _ _ c.self.inside.rows.sorted c.self.invariant c.min-count.result)

pub invariant_of-self : goal.invariant_of-self
invariant_of-self g c =
    let put = c.put_in_force.ensures in
    let left = c.remove_first.ensures in
    rw (put.rows, put.capacity, left.rows, left.capacity, c.as_slice.ensures) (kept_some_published _ _ _ _ c.self.inside.rows.sorted c.self.invariant c.min-count.result)

pub returns-clause-table : goal.returns-clause-table
returns-clause-table g c =
    let rows = c.self.inside.rows.entries.items in
    let changed = c.self.inside.changed.entries.items in
    let sorted = c.self.inside.rows.sorted in
    let n = c.min-count.result in
    let differing = c.self.invariant.differing in
    let least : n ≡ min c.args.count (length changed) = c.min-count.ensures ∙ ap (min c.args.count) c.len.ensures in
    let first : take n (differing_rows rows) ≡ take c.args.count (changed_rows (table_of rows))
    = ap (take n) (sym differing) ∙ ap (λ k. take k changed) least ∙ take_min c.args.count changed ∙ ap (take c.args.count) (differing ∙ sym (changed_rows-table_of rows sorted)) in
    ap table_of (c.put_in_force.ensures.rows ∙ ap (λ cs. with_in_force (take n cs) rows) c.as_slice.ensures ∙ first_in_force _ _ _ _ sorted c.self.invariant n)
    ∙ table-first n rows sorted
    ∙ ap (λ cs. record { control = control_rows rows; published = with_rows cs (published_rows rows) }) first
    ∙ ap (λ (t : TableAndRoom). with_some_published c.args.count t.table) c.self.view_is

pub returns-clause-room : goal.returns-clause-room
returns-clause-room g c =
    let kept = length-first_in_force _ _ _ _ c.self.inside.rows.sorted c.self.invariant c.min-count.result in
    rw (c.remove_first.ensures.capacity, c.put_in_force.ensures.rows, c.as_slice.ensures, kept, ← c.self.view_is)
