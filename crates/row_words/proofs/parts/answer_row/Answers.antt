use Rattle.std.proofs.Common.{◌∙◌, option_map, ap, sym}
use Rattle.row_words.specs.Rows.{mark_in}
use Rattle.row_words.proofs.Marks.{longest_marked}
use Rattle.row_words.proofs.parts.answer_row.Goals as goal

pub returns : goal.returns
returns g c =
    let cells = c.args.cells.now in
    c.mark_row.ensures ∙ ap (option_map (λ r. (r.0, mark_in cells r.1))) c.lookup.ensures.answer ∙ sym (longest_marked cells c.args.addr c.args.image.now.rows)
