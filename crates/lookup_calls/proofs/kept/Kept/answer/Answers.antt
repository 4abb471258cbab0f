use Rattle.std.proofs.Common.{◌∙◌, ap, sym}
use Rattle.c_interface.specs.Rows.{answer_row}
use Rattle.lookup_calls.specs.Rows.{entry_answer}
use Rattle.lookup_calls.proofs.Wordless.{its_table, wordless_entry}
use Rattle.lookup_calls.proofs.kept.Kept.answer.Goals as goal

pub returns-in-Plain : goal.returns-in-Plain
returns-in-Plain c =
    let image = c.in-Plain.image in
    c.answer.ensures
    ∙ ap answer_row (sym (wordless_entry image c.args.addr))
    ∙ ap (λ t. answer_row (entry_answer t c.args.addr)) (its_table c.self.inside.form image c.args.self.now c.in-Plain.is c.self.view_is)
