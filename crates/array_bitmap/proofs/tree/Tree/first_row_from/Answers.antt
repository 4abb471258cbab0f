use Rattle.std.proofs.Common.{inl, inr, sym, Some, None}
use Rattle.array_bitmap.specs.{Tree.entry_in, Image.cells_of}
use Rattle.array_bitmap.proofs.{PrefixNumbers.cases_before, RowsFrom.first_in_table, RowsFrom.head_of_table}
use Rattle.array_bitmap.proofs.tree.Tree.first_row_from.Goals as goal

pub returns-in-Row : goal.returns-in-Row
returns-in-Row g c =
    let entry = entry_in (cells_of c.args.self.now) in
    let first = first_in_table entry c.args.at (Some (c.cursor.cursor, c.in-Row.entry))
    (c.in-Row.ensures.valid, c.cursor.invariant.from, c.in-Row.ensures.found, c.cursor.invariant.none) in
    record { first = sym first; head = head_of_table entry c.args.at (c.cursor.cursor, c.in-Row.entry) first }

pub returns-in-NoMore-clause-first : goal.returns-in-NoMore-clause-first
returns-in-NoMore-clause-first g c =
    sym (first_in_table (entry_in (cells_of c.args.self.now)) c.args.at None (λ r valid from. elim (cases_before r c.cursor.cursor) [
      | inl before ↦ c.cursor.invariant.none r valid from before
      | inr not_before ↦ c.in-NoMore.ensures.found r valid not_before
    ]))
