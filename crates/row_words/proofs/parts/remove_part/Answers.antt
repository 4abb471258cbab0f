use Rattle.std.proofs.Common.{◌∙◌, ap, sym, subst}
use Rattle.network_model.specs.Publication.{Image}
use Rattle.row_words.specs.Rows.{marked, AreKept}
use Rattle.row_words.proofs.Marks.{kept_without, marked_without}
use Rattle.row_words.proofs.parts.remove_part.Goals as goal

pub returns-clause-kept : goal.returns-clause-kept
returns-clause-kept g c =
    subst (λ (i : Image). AreKept i.rows c.args.cells.now) (sym c.remove_row.ensures.rows) (kept_without c.args.prefix c.args.image.now.rows c.args.cells.now c.requires)

pub returns-clause-rows : goal.returns-clause-rows
returns-clause-rows g c =
    ap (λ (i : Image). marked c.args.cells.now i.rows) c.remove_row.ensures.rows ∙ marked_without c.args.cells.now c.args.prefix c.args.image.now.rows
