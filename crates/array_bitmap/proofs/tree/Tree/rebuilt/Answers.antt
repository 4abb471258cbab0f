use Rattle.std.proofs.Common.{◌∙◌, arith, sym, ap, None, Some, subst, IfSome, []}
use Rattle.std.proofs.lemmas.List.{nil_from_length}
use Rattle.network_model.specs.Publication.{with_rows}
use Rattle.network_model.proofs.RowLaws.{with_rows-sorted}
use Rattle.array_bitmap.specs.{Cursor.IsNextPrefix, Cursor.IsHeadFrom, Cursor.rows_from, Tree.entry_in, Image.cells_of, Image.rows_in}
use Rattle.array_bitmap.proofs.PrefixNumbers.{first_of_all}
use Rattle.array_bitmap.proofs.RowsFrom.{all_from, table_in_order, table_writable, none_from, number_onward}
use Rattle.array_bitmap.proofs.tree.Tree.rebuilt.Goals as goal

pub loop-row-init : goal.loop-row-init
loop-row-init g c =
    let entry = entry_in (cells_of c.args.self.now) in
    let rows = rows_in c.args.self.now in
    let p = c.covering-cursor.result in
    record {
      sound = c.in_ok-tree.ensures.sound;
      valid = c.covering-cursor.ensures.valid;
      rows = ap (with_rows (rows_from p rows)) c.in_ok-tree.ensures.empty
          ∙ ap (λ rs. with_rows rs []) (all_from p rows (λ r is_row. first_of_all p r.0 c.covering-cursor.ensures.valid c.covering-cursor.ensures.len (table_writable entry r is_row)))
          ∙ with_rows-sorted rows (table_in_order entry);
    }

pub loop-row-smaller : goal.loop-row-smaller
loop-row-smaller g c =
    let next = subst (IsNextPrefix c.in-Some.row.0) c.in-Some-next_prefix.is c.next_prefix.ensures in
    let onward = number_onward (entry_in (cells_of c.args.self.now)) c.loop-row.cursor c.in-Some.row c.in-Some-next_prefix.next c.loop-row.invariant.valid (sym c.first_row_from.ensures.first ∙ c.in-Some.is) next in
    omega (arith, onward)

pub loop-row-preserved : goal.loop-row-preserved
loop-row-preserved g c =
    let rows = rows_in c.args.self.now in
    let next = subst (IsNextPrefix c.in-Some.row.0) c.in-Some-next_prefix.is c.next_prefix.ensures in
    let head = subst (λ o. IfSome o (IsHeadFrom c.loop-row.cursor rows)) c.in-Some.is c.first_row_from.ensures.head in
    record {
      sound = c.in_ok-set_row.ensures.sound;
      valid = next.0;
      rows = ap (with_rows (rows_from c.in-Some-next_prefix.next rows)) c.in_ok-set_row.ensures.ok
          ∙ ap (λ rs. with_rows rs (rows_in c.loop-row.tree)) (sym (head (Some c.in-Some-next_prefix.next) next))
          ∙ c.loop-row.invariant.rows;
    }

pub returns-in_default-next_prefix-clause-rows : goal.returns-in_default-next_prefix-clause-rows
returns-in_default-next_prefix-clause-rows g c =
    let rows = rows_in c.args.self.now in
    let head = subst (λ o. IfSome o (IsHeadFrom c.loop-row.cursor rows)) c.in-Some.is c.first_row_from.ensures.head in
    c.in_ok-set_row.ensures.ok
    ∙ ap (λ rs. with_rows rs (rows_in c.loop-row.tree)) (sym (head None (subst (IsNextPrefix c.in-Some.row.0) c.in_default-next_prefix.is c.next_prefix.ensures)))
    ∙ c.loop-row.invariant.rows

pub returns-clause-rows : goal.returns-clause-rows
returns-clause-rows g c =
    let rows = rows_in c.args.self.now in
    let none = nil_from_length _ (none_from c.loop-row.cursor rows (sym c.first_row_from.ensures.first ∙ c.in_default.is)) in
    ap (λ rs. with_rows rs (rows_in c.loop-row.tree)) (sym none) ∙ c.loop-row.invariant.rows
