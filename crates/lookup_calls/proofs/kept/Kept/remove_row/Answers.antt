use Rattle.std.proofs.Common.{◌≡◌, ◌∙◌, true, ap, sym, subst}
use Rattle.std.specs.FinMap.{is_sorted}
use Rattle.ipv4_prefix.specs.Prefix.{prefix_cmp}
use Rattle.network_model.specs.Publication.{Image}
use Rattle.row_words.specs.Rows.{WordTable, without_marked}
use Rattle.row_words.proofs.Marks.{sorted_without}
use Rattle.lookup_calls.specs.Kept.{form_table, IsInOrder}
use Rattle.lookup_calls.proofs.Wordless.{out_of_table, words_table}
use Rattle.lookup_calls.proofs.kept.Kept.remove_row.Goals as goal
use Rattle.lookup_calls.proofs.kept.Kept.remove_row.Goals.{in-Plain, in-Words}

pub invariant_of-self : goal.invariant_of-self
invariant_of-self c = elim c.match-self.branch [
  | in-Plain w ↦ subst (λ k. IsInOrder k.form) (sym w.self-inside-is)
      (subst (λ (i : Image). is_sorted prefix_cmp i.rows ≡ true) (sym w.remove_row.ensures.rows) (sorted_without c.args.prefix (w.in-Plain.image).rows (subst IsInOrder w.in-Plain.is c.self.invariant)))
  | in-Words w ↦ subst (λ k. IsInOrder k.form) (sym w.self-inside-is) tt
]

pub returns : goal.returns
returns c = elim c.match-self.branch [
  | in-Plain w ↦ ap (λ k. form_table k.form) w.self-inside-is
      ∙ out_of_table c.self.inside.form w.in-Plain.image c.args.self.now w.in-Plain.is c.self.view_is c.args.prefix w.remove_row.new.image w.remove_row.ensures.rows
  | in-Words w ↦ ap (λ k. form_table k.form) w.self-inside-is ∙ w.remove_row-in-Words.ensures
      ∙ ap (λ (t : WordTable). record { generation = t.generation; rows = without_marked c.args.prefix t.rows }) (words_table c.self.inside.form w.in-Words.image c.args.self.now w.in-Words.is c.self.view_is)
]
