use Rattle.std.proofs.Common.{◌∙◌, sym, ap}
use Rattle.network_model.specs.Publication.{with_rows}
use Rattle.network_model.proofs.RowLaws.{with_rows-push}
use Rattle.array_bitmap.specs.Image.{rows_in}
use Rattle.array_bitmap.proofs.batch.set_all.Goals as goal

pub returns-clause-ok : goal.returns-clause-ok
returns-clause-ok g c =
    c.in_default-set_with_last.ensures.ok
    ∙ sym (ap (λ rows. with_rows rows (rows_in c.args.tree.now)) c.in-Some.ensures.cases.0 ∙ with_rows-push c.in-Some.others.now c.in-Some.last.now (rows_in c.args.tree.now))
