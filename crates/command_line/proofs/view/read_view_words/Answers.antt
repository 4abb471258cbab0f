use Rattle.std.proofs.Common.{◌∙◌, [], ◌∷◌, inl, inr, refl, ap, sym, subst}
use Rattle.clap.specs.Words.{App, HasKind, fault_of, is_simple, is_simple_and_free, kind_of, matches_of}
use Rattle.clap.specs.declared.error.kind.ErrorKind.TheVariants.{InvalidValue}
use Rattle.clap.proofs.{FaultLemmas.first_fails, FaultLemmas.past, TakesLemmas.passed_up}
use Rattle.command_line.specs.{Asked.word_texts, View.IsView, View.view_kinds_of, View.view_program}
use Rattle.command_line.proofs.Lines.{only_memory}
use Rattle.command_line.proofs.view.read_view_words.Goals as goal

pub returns-in_err-matches-clause-kinds : goal.returns-in_err-matches-clause-kinds
returns-in_err-matches-clause-kinds c =
    let failed = subst (λ (b : App). HasKind (fault_of b (word_texts c.args.words.now)) c.in_err-matches.field-0.0) c.in_ok-command.ensures
    (c.in_err-matches.ensures.kinds (ap is_simple_and_free c.in_ok-command.ensures ∙ refl)) in
    passed_up c.from_residual-in_err-matches.result c.in_err-matches.field-0.0 (HasKind (view_kinds_of (word_texts c.args.words.now))) c.from_residual-in_err-matches.ensures.1
    (first_fails (fault_of view_program (word_texts c.args.words.now)) (InvalidValue ∷ []) (kind_of c.in_err-matches.field-0.0) failed)

pub returns-in-Ok-clause-asked : goal.returns-in-Ok-clause-asked
returns-in-Ok-clause-asked c =
    let rows = (c.in_ok-matches.ensures.ok.2 (ap is_simple c.in_ok-command.ensures ∙ refl)).0 ∙ ap (λ (a : App). matches_of a (word_texts c.args.words.now)) c.in_ok-command.ensures in
    subst (λ r. IsView r c.in-Ok.asked) rows c.in-Ok.ensures.asked

pub returns-in-Ok-clause-taken : goal.returns-in-Ok-clause-taken
returns-in-Ok-clause-taken c =
    ap (λ (a : App). fault_of a (word_texts c.args.words.now)) (sym c.in_ok-command.ensures)
    ∙ c.in_ok-matches.ensures.kinds (ap is_simple_and_free c.in_ok-command.ensures ∙ refl)

pub returns-clause-kinds : goal.returns-clause-kinds
returns-clause-kinds c =
    let none = ap (λ (a : App). fault_of a (word_texts c.args.words.now)) (sym c.in_ok-command.ensures)
    ∙ c.in_ok-matches.ensures.kinds (ap is_simple_and_free c.in_ok-command.ensures ∙ refl) in
    subst (λ k. HasKind k c.in_ok-error-in-Err.field-0) (sym (past (fault_of view_program (word_texts c.args.words.now)) (InvalidValue ∷ []) none))
    (inr (inl c.in_ok-error-in-Err.ensures.kind))

pub returns-in_err-matches-clause-every : goal.returns-in_err-matches-clause-every
returns-in_err-matches-clause-every c asked none is one =
    let failed = subst (λ (b : App). HasKind (fault_of b (word_texts c.args.words.now)) c.in_err-matches.field-0.0) c.in_ok-command.ensures
    (c.in_err-matches.ensures.kinds (ap is_simple_and_free c.in_ok-command.ensures ∙ refl)) in
    only_memory c.from_residual-in_err-matches.result c.in_err-matches.field-0.0 _ (fault_of view_program (word_texts c.args.words.now)) c.from_residual-in_err-matches.ensures.1 failed none

pub returns-clause-every : goal.returns-clause-every
returns-clause-every c asked none is one =
    let rows = (c.in_ok-matches.ensures.ok.2 (ap is_simple c.in_ok-command.ensures ∙ refl)).0 ∙ ap (λ (a : App). matches_of a (word_texts c.args.words.now)) c.in_ok-command.ensures in
    absurd (c.in-Err.ensures.none asked (subst (λ r. IsView r asked) (sym rows) is) one)
