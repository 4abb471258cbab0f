use Rattle.std.proofs.Common.{◌∙◌, None, [], ◌∷◌, false, sym, ap, subst, inl, inr}
use Rattle.clap.specs.Words.{App, HasKind, app_of, fault_of, is_simple, is_simple_and_free, kind_of, subcommand_of, subcommand_rows_of}
use Rattle.clap.specs.declared.error.kind.ErrorKind.TheVariants.{InvalidValue}
use Rattle.clap.proofs.{FaultLemmas.first_fails, FaultLemmas.past, TakesLemmas.passed_up}
use Rattle.command_line.specs.{Asked.IsAsked, Asked.word_texts, Commands.program, Commands.kinds_of, declared.format.Format.TheVariants.Text as ForPeople, declared.words.Words.TheVariants.Check, declared.words.Words.TheVariants.Run, declared.words.Words.TheVariants.Replay}
use Rattle.command_line.proofs.Lines.{is_free, is_plain, kind_as, seen_as, check_faultless, check_met, run_faultless, run_met, replay_faultless, replay_met, only_memory}
use Rattle.command_line.proofs.Plain.{given, check_asked, run_asked, replay_asked, check_asks, run_asks, replay_asks}
use Rattle.command_line.proofs.words.read_words.Goals as goal

pub returns-in-Some-clause-taken : goal.returns-in-Some-clause-taken
returns-in-Some-clause-taken c =
    ap (λ (a : App). fault_of a (word_texts c.args.words.now)) (sym c.in_ok-command.ensures)
    ∙ c.in_ok-matches.ensures.kinds (ap is_simple_and_free c.in_ok-command.ensures ∙ is_free)

pub returns-in-Some-clause-asked : goal.returns-in-Some-clause-asked
returns-in-Some-clause-asked c =
    subst (λ met. IsAsked met c.in-Some.asked)
    ((c.in_ok-matches.ensures.ok.2 (ap is_simple c.in_ok-command.ensures ∙ is_plain)).1 ∙ ap (λ (a : App). subcommand_of a (word_texts c.args.words.now)) c.in_ok-command.ensures)
    c.in-Some.ensures.some

-- ---- clap's error is passed up

pub returns-in_err-matches-clause-kinds : goal.returns-in_err-matches-clause-kinds
returns-in_err-matches-clause-kinds c =
    let failed = kind_as (app_of c.in_ok-command.command) (word_texts c.args.words.now) c.in_err-matches.field-0.0 c.in_ok-command.ensures c.in_err-matches.ensures.kinds in
    passed_up c.from_residual-in_err-matches.result c.in_err-matches.field-0.0 (HasKind (kinds_of (word_texts c.args.words.now))) c.from_residual-in_err-matches.ensures.1
    (first_fails (fault_of program (word_texts c.args.words.now)) (InvalidValue ∷ []) (kind_of c.in_err-matches.field-0.0) failed)

pub returns-in_err-matches-clause-every : goal.returns-in_err-matches-clause-every
returns-in_err-matches-clause-every c asked none is =
    let failed = kind_as (app_of c.in_ok-command.command) (word_texts c.args.words.now) c.in_err-matches.field-0.0 c.in_ok-command.ensures c.in_err-matches.ensures.kinds in
    only_memory c.from_residual-in_err-matches.result c.in_err-matches.field-0.0 _ (fault_of program (word_texts c.args.words.now)) c.from_residual-in_err-matches.ensures.1 failed
    none

pub returns-in_err-matches-clause-check : goal.returns-in_err-matches-clause-check
returns-in_err-matches-clause-check c file is =
    let failed = kind_as (app_of c.in_ok-command.command) (word_texts c.args.words.now) c.in_err-matches.field-0.0 c.in_ok-command.ensures c.in_err-matches.ensures.kinds in
    only_memory c.from_residual-in_err-matches.result c.in_err-matches.field-0.0 _ (fault_of program (word_texts c.args.words.now)) c.from_residual-in_err-matches.ensures.1 failed
    (ap (fault_of program) is.spelled ∙ check_faultless is.name file is.no_option)

pub returns-in_err-matches-clause-run : goal.returns-in_err-matches-clause-run
returns-in_err-matches-clause-run c file is =
    let failed = kind_as (app_of c.in_ok-command.command) (word_texts c.args.words.now) c.in_err-matches.field-0.0 c.in_ok-command.ensures c.in_err-matches.ensures.kinds in
    only_memory c.from_residual-in_err-matches.result c.in_err-matches.field-0.0 _ (fault_of program (word_texts c.args.words.now)) c.from_residual-in_err-matches.ensures.1 failed
    (ap (fault_of program) is.spelled ∙ run_faultless is.name file is.no_option)

pub returns-in_err-matches-clause-replay : goal.returns-in_err-matches-clause-replay
returns-in_err-matches-clause-replay c file journal is =
    let failed = kind_as (app_of c.in_ok-command.command) (word_texts c.args.words.now) c.in_err-matches.field-0.0 c.in_ok-command.ensures c.in_err-matches.ensures.kinds in
    only_memory c.from_residual-in_err-matches.result c.in_err-matches.field-0.0 _ (fault_of program (word_texts c.args.words.now)) c.from_residual-in_err-matches.ensures.1 failed
    (ap (fault_of program) is.spelled ∙ replay_faultless is.name file journal is.no_option_file is.no_option_journal)

-- ---- what was asked for

pub returns-in-Some-clause-check : goal.returns-in-Some-clause-check
returns-in-Some-clause-check c file is =
    let met = seen_as (subcommand_rows_of c.in_ok-matches.matches) (app_of c.in_ok-command.command) (word_texts c.args.words.now) _ c.in_ok-command.ensures is.spelled
    (c.in_ok-matches.ensures.ok.2 (ap is_simple c.in_ok-command.ensures ∙ is_plain)).1 in
    check_asked (subcommand_rows_of c.in_ok-matches.matches) file c.in-Some.asked c.in-Some.ensures.some (met ∙ check_met is.name file is.no_option)

pub returns-in-Some-clause-run : goal.returns-in-Some-clause-run
returns-in-Some-clause-run c file is =
    let met = seen_as (subcommand_rows_of c.in_ok-matches.matches) (app_of c.in_ok-command.command) (word_texts c.args.words.now) _ c.in_ok-command.ensures is.spelled
    (c.in_ok-matches.ensures.ok.2 (ap is_simple c.in_ok-command.ensures ∙ is_plain)).1 in
    run_asked (subcommand_rows_of c.in_ok-matches.matches) file c.in-Some.asked c.in-Some.ensures.some (met ∙ run_met is.name file is.no_option)

pub returns-in-Some-clause-replay : goal.returns-in-Some-clause-replay
returns-in-Some-clause-replay c file journal is =
    let met = seen_as (subcommand_rows_of c.in_ok-matches.matches) (app_of c.in_ok-command.command) (word_texts c.args.words.now) _ c.in_ok-command.ensures is.spelled
    (c.in_ok-matches.ensures.ok.2 (ap is_simple c.in_ok-command.ensures ∙ is_plain)).1 in
    replay_asked (subcommand_rows_of c.in_ok-matches.matches) file journal c.in-Some.asked c.in-Some.ensures.some (met ∙ replay_met is.name file journal is.no_option_file is.no_option_journal)

-- ---- nothing was asked for

pub returns-clause-kinds : goal.returns-clause-kinds
returns-clause-kinds c =
    let none = ap (λ (a : App). fault_of a (word_texts c.args.words.now)) (sym c.in_ok-command.ensures)
    ∙ c.in_ok-matches.ensures.kinds (ap is_simple_and_free c.in_ok-command.ensures ∙ is_free) in
    subst (λ k. HasKind k c.in_ok-error-in-None.field-0) (sym (past (fault_of program (word_texts c.args.words.now)) (InvalidValue ∷ []) none))
    (inr (inl c.in_ok-error-in-None.ensures.kind))

pub returns-clause-every : goal.returns-clause-every
returns-clause-every c asked none is =
    absurd (c.in-None.ensures.none asked
    (subst (λ met. IsAsked met asked)
    (sym ((c.in_ok-matches.ensures.ok.2 (ap is_simple c.in_ok-command.ensures ∙ is_plain)).1 ∙ ap (λ (a : App). subcommand_of a (word_texts c.args.words.now)) c.in_ok-command.ensures)) is))

pub returns-clause-check : goal.returns-clause-check
returns-clause-check c file is =
    let met = seen_as (subcommand_rows_of c.in_ok-matches.matches) (app_of c.in_ok-command.command) (word_texts c.args.words.now) _ c.in_ok-command.ensures is.spelled
    (c.in_ok-matches.ensures.ok.2 (ap is_simple c.in_ok-command.ensures ∙ is_plain)).1 in
    absurd (c.in-None.ensures.none (Check (given file) false) (check_asks (subcommand_rows_of c.in_ok-matches.matches) file (met ∙ check_met is.name file is.no_option)))

pub returns-clause-run : goal.returns-clause-run
returns-clause-run c file is =
    let met = seen_as (subcommand_rows_of c.in_ok-matches.matches) (app_of c.in_ok-command.command) (word_texts c.args.words.now) _ c.in_ok-command.ensures is.spelled
    (c.in_ok-matches.ensures.ok.2 (ap is_simple c.in_ok-command.ensures ∙ is_plain)).1 in
    absurd (c.in-None.ensures.none (Run (given file) 1 1 None false false ForPeople false) (run_asks (subcommand_rows_of c.in_ok-matches.matches) file (met ∙ run_met is.name file is.no_option)))

pub returns-clause-replay : goal.returns-clause-replay
returns-clause-replay c file journal is =
    let met = seen_as (subcommand_rows_of c.in_ok-matches.matches) (app_of c.in_ok-command.command) (word_texts c.args.words.now) _ c.in_ok-command.ensures is.spelled
    (c.in_ok-matches.ensures.ok.2 (ap is_simple c.in_ok-command.ensures ∙ is_plain)).1 in
    absurd (c.in-None.ensures.none (Replay (given file) (given journal) false ForPeople false) (replay_asks (subcommand_rows_of c.in_ok-matches.matches) file journal (met ∙ replay_met is.name file journal is.no_option_file is.no_option_journal)))
