use Rattle.std.proofs.Common.{◌≡◌, ◌∙◌, ◌∷◌, [], OnOk, ap, sym, subst}
use Rattle.std.specs.FinMap.{put}
use Rattle.std.proofs.lemmas.Result.{on_ok_weaker}
use Rattle.ipv4_prefix.specs.Prefix.{prefix_cmp}
use Rattle.row_words.specs.Rows.{WordTable}
use Rattle.lookup_calls.specs.{Kept.form_table, Kept.IsInOrder, Tables.wordless}
use Rattle.lookup_calls.proofs.Wordless.{set_in_table, sorted_either, words_table}
use Rattle.lookup_calls.proofs.kept.Kept.set_entry.Goals as goal
use Rattle.lookup_calls.proofs.kept.Kept.set_entry.Goals.{in-Plain, in-Words}

pub invariant_of-self : goal.invariant_of-self
invariant_of-self c = elim c.match-self.branch [
  | in-Plain w ↦ subst (λ k. IsInOrder k.form) (sym w.self-inside-is) (sorted_either w.set_row.result w.in-Plain.image w.set_row.new.image ((c.args.prefix, c.args.entry) ∷ []) w.set_row.ensures.ok w.set_row.ensures.err (subst IsInOrder w.in-Plain.is c.self.invariant))
  | in-Words w ↦ subst (λ k. IsInOrder k.form) (sym w.self-inside-is) tt
]

pub returns-clause-ok : goal.returns-clause-ok
returns-clause-ok c =
    let set : WordTable → WordTable = λ t. record { generation = t.generation; rows = put prefix_cmp c.args.prefix (wordless c.args.entry) t.rows } in
    let P : Type 0 = form_table c.match-self.self-inside.form ≡ set c.args.self.now in
    elim c.match-self.branch [
      | in-Plain w ↦ subst (λ r. OnOk r P) (sym w.result-is)
          (on_ok_weaker w.set_row.result (λ ok. ap (λ k. form_table k.form) w.self-inside-is ∙ set_in_table c.self.inside.form w.in-Plain.image c.args.self.now w.in-Plain.is c.self.view_is ((c.args.prefix, c.args.entry) ∷ []) w.set_row.new.image ok) w.set_row.ensures.ok)
      | in-Words w ↦ subst (λ r. OnOk r P) (sym w.result-is)
          (on_ok_weaker w.set_rows.result (λ ok. ap (λ k. form_table k.form) w.self-inside-is ∙ ok
          ∙ (λ i. record { generation = (w.in-Words.image).generation; rows = put prefix_cmp c.args.prefix (w.wordless.ensures i) (w.in-Words.image).rows })
          ∙ ap set (words_table c.self.inside.form w.in-Words.image c.args.self.now w.in-Words.is c.self.view_is)) w.set_rows.ensures.ok)
    ]
