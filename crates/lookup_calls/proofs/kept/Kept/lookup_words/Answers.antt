use Rattle.std.proofs.Common.{rules, ◌∙◌, replicate, ap}
use Rattle.lookup_calls.specs.{Rows.answer_words, Tables.no_word}
use Rattle.lookup_calls.proofs.Wordless.{its_table, wordless_words}
use Rattle.lookup_calls.proofs.kept.Kept.lookup_words.Goals as goal

pub returns-in-Plain : goal.returns-in-Plain
returns-in-Plain c =
    let image = c.in-Plain.field-0 in
    let addrs = c.args.addrs.now in
    c.fill.ensures.after (λ y is. is)
    ∙ ap (λ n. replicate n no_word) c.requires
    ∙ wordless_words image addrs
    ∙ ap (λ t. answer_words t addrs) (its_table c.self.inside.form image c.args.self.now c.in-Plain.is c.self.view_is)

pub returns-in-Words : goal.returns-in-Words
returns-in-Words c = search rules
