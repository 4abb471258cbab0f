use Rattle.std.proofs.Common.{◌∙◌, IfSome, option_map, ap, sym, subst}
use Rattle.ipv4_prefix.specs.Prefix.{Prefix}
use Rattle.network_model.specs.declared.route.Entry.{Entry}
use Rattle.array_bitmap.specs.Cursor.{first_row_from, IsHeadFrom}
use Rattle.row_words.specs.Rows.{WordTable}
use Rattle.row_words.proofs.Marks.{first_under, head_under}
use Rattle.lookup_calls.specs.Tables.{wordless, wordless_rows}
use Rattle.lookup_calls.proofs.Wordless.{its_table}
use Rattle.lookup_calls.proofs.kept.Kept.first_row_from.Goals as goal

pub returns-in-Plain-clause-first : goal.returns-in-Plain-clause-first
returns-in-Plain-clause-first c =
    let image = c.in-Plain.image in
    let at = c.args.at in
    c.wordless_row.ensures
    ∙ ap (option_map (λ (r : Prefix × Entry). (r.0, wordless r.1))) c.first_row_from.ensures.first
    ∙ sym (first_under wordless at image.rows)
    ∙ ap (λ (t : WordTable). first_row_from at t.rows) (its_table c.self.inside.form image c.args.self.now c.in-Plain.is c.self.view_is)

pub returns-in-Plain-clause-head : goal.returns-in-Plain-clause-head
returns-in-Plain-clause-head c =
    let image = c.in-Plain.image in
    let at = c.args.at in
    subst (λ (t : WordTable). IfSome c.wordless_row.result (IsHeadFrom at t.rows)) (its_table c.self.inside.form image c.args.self.now c.in-Plain.is c.self.view_is)
    (subst (λ o. IfSome o (IsHeadFrom at (wordless_rows image.rows))) (sym c.wordless_row.ensures) (head_under wordless at image.rows c.first_row_from.result c.first_row_from.ensures.head))
