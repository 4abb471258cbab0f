use Rattle.std.proofs.Common.{◌∙◌, IfSome, option_map, ap, subst, sym}
use Rattle.array_bitmap.specs.Cursor.{IsHeadFrom}
use Rattle.row_words.specs.Rows.{mark_in, marked}
use Rattle.row_words.proofs.Marks.{first_under, head_under}
use Rattle.row_words.proofs.parts.first_row.Goals as goal

pub returns-clause-first : goal.returns-clause-first
returns-clause-first g c =
    let cells = c.args.cells.now in
    c.mark_row.ensures ∙ ap (option_map (λ r. (r.0, mark_in cells r.1))) c.first_row_from.ensures.first ∙ sym (first_under (mark_in cells) c.args.at c.args.image.now.rows)

pub returns-clause-head : goal.returns-clause-head
returns-clause-head g c =
    let cells = c.args.cells.now in
    let rows = c.args.image.now.rows in
    subst (λ o. IfSome o (IsHeadFrom c.args.at (marked cells rows))) (sym c.mark_row.ensures) (head_under (mark_in cells) c.args.at rows c.first_row_from.result c.first_row_from.ensures.head)
