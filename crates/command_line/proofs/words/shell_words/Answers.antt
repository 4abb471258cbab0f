use Rattle.std.proofs.Common.{codes, refl, sym, ◌∙◌, true≢false}
use Rattle.clap.specs.Words.{found_of, rows_of}
use Rattle.command_line.proofs.Given.{some_given, none_given, text_given, if_none, not_found, not_together}
use Rattle.command_line.proofs.Subcommands.{of_shell}
use Rattle.command_line.proofs.words.shell_words.Goals as goal

pub returns-in_err-file-clause-none : goal.returns-in_err-file-clause-none
returns-in_err-file-clause-none c =
    let none = none_given c.get_str.result (found_of c.args.matches.now) (codes "file") c.get_str.ensures c.in_err-file.was in
    if_none c.from_residual.result _ (of_shell (λ w. ⊥) (rows_of (found_of c.args.matches.now)) (λ f j n e o asks. not_found (rows_of (found_of c.args.matches.now)) (codes "file") none asks.0))

pub returns-in_err-format-clause-none : goal.returns-in_err-format-clause-none
returns-in_err-format-clause-none c =
    if_none c.from_residual-in_err-format.result _ (of_shell (λ w. ⊥) (rows_of (found_of c.args.matches.now)) (λ f j n e o asks. c.in_err-format.ensures.none o asks.3))

pub returns-in_err-no_journal-clause-none : goal.returns-in_err-no_journal-clause-none
returns-in_err-no_journal-clause-none c =
    if_none c.from_residual-in_err-no_journal.result _ (of_shell (λ w. ⊥) (rows_of (found_of c.args.matches.now)) (λ f j n e o asks. c.in_err-no_journal.ensures.none n asks.4))

pub returns-then-not-go_together-clause-none : goal.returns-then-not-go_together-clause-none
returns-then-not-go_together-clause-none c =
    let rows = rows_of (found_of c.args.matches.now) in
    of_shell (λ w. ⊥) rows (λ f j n e o asks.
    not_together rows 1 1 1 1 c.get_str-journal.result j c.in_ok-no_journal.no_journal n
    (text_given c.get_str-journal.result (found_of c.args.matches.now) (codes "journal") c.get_str-journal.ensures) c.in_ok-no_journal.ensures.some asks.1 asks.4 refl refl
    (λ together. true≢false (sym (c.go_together.ensures.1 together) ∙ c.if-not-go_together.true)) asks.5)

pub returns-clause-some : goal.returns-clause-some
returns-clause-some c = (
  refl,
  (
    some_given c.get_str.result (found_of c.args.matches.now) (codes "file") c.in_ok-file.file c.get_str.ensures c.in_ok-file.was,
    text_given c.get_str-journal.result (found_of c.args.matches.now) (codes "journal") c.get_str-journal.ensures,
    c.flag-explain.ensures,
    c.in_ok-format.ensures.some,
    c.in_ok-no_journal.ensures.some,
    c.go_together.ensures.0 c.if-not-go_together.false,
  ),
)
