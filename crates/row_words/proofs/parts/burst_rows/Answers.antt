use Rattle.std.proofs.Common.{◌∙◌, ap, map, option_map}
use Rattle.row_words.specs.Rows.{mark_in}
use Rattle.row_words.proofs.Marks.{rows_found}
use Rattle.row_words.proofs.parts.burst_rows.Goals as goal

pub returns : goal.returns
returns g c =
    let cells = c.args.cells.now in
    c.mark_rows.ensures
    ∙ ap (map (option_map (λ r. (r.0, mark_in cells r.1)))) c.lookup_all.ensures
    ∙ rows_found cells c.args.image.now.rows c.args.addrs.now
