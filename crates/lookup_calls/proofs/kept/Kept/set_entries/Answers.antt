use Rattle.std.proofs.Common.{◌≡◌, ◌∙◌, OnOk, ap, sym, subst}
use Rattle.std.proofs.lemmas.Result.{on_ok_weaker}
use Rattle.row_words.specs.Rows.{WordTable, with_marked}
use Rattle.lookup_calls.specs.{Kept.form_table, Kept.IsInOrder, Tables.wordless_rows}
use Rattle.lookup_calls.proofs.Wordless.{set_in_table, sorted_either, words_table}
use Rattle.lookup_calls.proofs.kept.Kept.set_entries.Goals as goal
use Rattle.lookup_calls.proofs.kept.Kept.set_entries.Goals.{in-Plain, in-Words}

pub invariant_of-self : goal.invariant_of-self
invariant_of-self c = elim c.match-self.branch [
  | in-Plain w ↦ subst (λ k. IsInOrder k.form) (sym w.self-inside-is) (sorted_either w.set_rows.result w.in-Plain.image w.set_rows.new.image c.args.rows.now w.set_rows.ensures.ok w.set_rows.ensures.err (subst IsInOrder w.in-Plain.is c.self.invariant))
  | in-Words w ↦ subst (λ k. IsInOrder k.form) (sym w.self-inside-is) tt
]

pub returns-clause-ok : goal.returns-clause-ok
returns-clause-ok c =
    let set : WordTable → WordTable = λ t. record { generation = t.generation; rows = with_marked (wordless_rows c.args.rows.now) t.rows } in
    let P : Type 0 = form_table c.match-self.self-inside.form ≡ set c.args.self.now in
    elim c.match-self.branch [
      | in-Plain w ↦ subst (λ r. OnOk r P) (sym w.result-is)
          (on_ok_weaker w.set_rows.result (λ ok. ap (λ k. form_table k.form) w.self-inside-is ∙ set_in_table c.self.inside.form w.in-Plain.image c.args.self.now w.in-Plain.is c.self.view_is c.args.rows.now w.set_rows.new.image ok) w.set_rows.ensures.ok)
      | in-Words w ↦ subst (λ r. OnOk r P) (sym w.result-is)
          (on_ok_weaker w.set_wordless.result (λ ok. ap (λ k. form_table k.form) w.self-inside-is ∙ ok
          ∙ ap set (words_table c.self.inside.form w.in-Words.image c.args.self.now w.in-Words.is c.self.view_is)) w.set_wordless.ensures.ok)
    ]
