use Rattle.std.proofs.Common.{◌∙◌, ap}
use Rattle.lookup_calls.specs.Rows.{answer_rows}
use Rattle.lookup_calls.proofs.Wordless.{its_table, wordless_entries}
use Rattle.lookup_calls.proofs.kept.Kept.answer_burst.Goals as goal

pub returns-in-Plain : goal.returns-in-Plain
returns-in-Plain c =
    let image = c.in-Plain.image in
    let addrs = c.args.addrs.now in
    c.answer_burst.ensures
    ∙ wordless_entries image addrs
    ∙ ap (λ t. answer_rows t addrs) (its_table c.self.inside.form image c.args.self.now c.in-Plain.is c.self.view_is)
