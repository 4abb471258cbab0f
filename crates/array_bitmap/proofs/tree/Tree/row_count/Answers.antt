use Rattle.std.proofs.Common.{◌∙◌, arith, sym, ap, length, None, Some, subst, IfSome}
use Rattle.array_bitmap.specs.{Cursor.IsNextPrefix, Cursor.IsHeadFrom, Tree.entry_in, Image.cells_of, Image.rows_in}
use Rattle.array_bitmap.proofs.PrefixNumbers.{first_of_all}
use Rattle.array_bitmap.proofs.RowsFrom.{all_from, table_writable, none_from, number_onward}
use Rattle.array_bitmap.proofs.tree.Tree.row_count.Goals as goal

pub loop-row-init : goal.loop-row-init
loop-row-init g c =
    let rows = rows_in c.args.self.now in
    let p = c.covering-cursor.result in
    let all = ap length (all_from p rows (λ r is_row. first_of_all p r.0 c.covering-cursor.ensures.valid c.covering-cursor.ensures.len (table_writable (entry_in (cells_of c.args.self.now)) r is_row))) in
    record { valid = c.covering-cursor.ensures.valid; counted = omega (arith, all); few = omega arith }

pub returns-in_default-next_prefix : goal.returns-in_default-next_prefix
returns-in_default-next_prefix g c =
    let rows = rows_in c.args.self.now in
    let head = subst (λ o. IfSome o (IsHeadFrom c.loop-row.cursor rows)) c.in-Some.is c.first_row_from.ensures.head in
    let split = ap length (head None (subst (IsNextPrefix c.in-Some.row.0) c.in_default-next_prefix.is c.next_prefix.ensures)) in
    omega (arith, c.loop-row.invariant.counted, split)

pub loop-row-smaller : goal.loop-row-smaller
loop-row-smaller g c =
    let next = subst (IsNextPrefix c.in-Some.row.0) c.in-Some-next_prefix.is c.next_prefix.ensures in
    let onward = number_onward (entry_in (cells_of c.args.self.now)) c.loop-row.cursor c.in-Some.row c.in-Some-next_prefix.next c.loop-row.invariant.valid (sym c.first_row_from.ensures.first ∙ c.in-Some.is) next in
    omega (arith, onward)

pub loop-row-preserved : goal.loop-row-preserved
loop-row-preserved g c =
    let rows = rows_in c.args.self.now in
    let next = subst (IsNextPrefix c.in-Some.row.0) c.in-Some-next_prefix.is c.next_prefix.ensures in
    let onward = number_onward (entry_in (cells_of c.args.self.now)) c.loop-row.cursor c.in-Some.row c.in-Some-next_prefix.next c.loop-row.invariant.valid (sym c.first_row_from.ensures.first ∙ c.in-Some.is) next in
    let head = subst (λ o. IfSome o (IsHeadFrom c.loop-row.cursor rows)) c.in-Some.is c.first_row_from.ensures.head in
    let split = ap length (head (Some c.in-Some-next_prefix.next) next) in
    record {
      valid = next.0;
      counted = omega (arith, c.loop-row.invariant.counted, split);
      few = omega (arith, onward, c.loop-row.invariant.few);
    }

pub returns : goal.returns
returns g c = omega (arith, c.loop-row.invariant.counted, none_from c.loop-row.cursor (rows_in c.args.self.now) (sym c.first_row_from.ensures.first ∙ c.in_default.is))
