use Rattle.std.proofs.Common.{codes, refl, sym, ◌∙◌, true≢false}
use Rattle.clap.specs.Words.{found_of, rows_of}
use Rattle.command_line.proofs.Given.{some_given, none_given, text_given, if_none, not_found, not_together, one_number}
use Rattle.command_line.proofs.Subcommands.{of_run}
use Rattle.command_line.proofs.words.run_words.Goals as goal

pub returns-in_err-file-clause-none : goal.returns-in_err-file-clause-none
returns-in_err-file-clause-none c =
    let none = none_given c.get_str.result (found_of c.args.matches.now) (codes "file") c.get_str.ensures c.in_err-file.was in
    if_none c.from_residual.result _ (of_run (λ w. ⊥) (rows_of (found_of c.args.matches.now)) (λ f t k j n e o p asks. not_found (rows_of (found_of c.args.matches.now)) (codes "file") none asks.0))

pub returns-in_err-threads-clause-none : goal.returns-in_err-threads-clause-none
returns-in_err-threads-clause-none c =
    if_none c.from_residual-in_err-threads.result _ (of_run (λ w. ⊥) (rows_of (found_of c.args.matches.now)) (λ f t k j n e o p asks. c.in_err-threads.ensures.none t asks.1))

pub returns-in_err-workers-clause-none : goal.returns-in_err-workers-clause-none
returns-in_err-workers-clause-none c =
    if_none c.from_residual-in_err-workers.result _ (of_run (λ w. ⊥) (rows_of (found_of c.args.matches.now)) (λ f t k j n e o p asks. c.in_err-workers.ensures.none k asks.2))

pub returns-in_err-format-clause-none : goal.returns-in_err-format-clause-none
returns-in_err-format-clause-none c =
    if_none c.from_residual-in_err-format.result _ (of_run (λ w. ⊥) (rows_of (found_of c.args.matches.now)) (λ f t k j n e o p asks. c.in_err-format.ensures.none o asks.5))

pub returns-in_err-no_journal-clause-none : goal.returns-in_err-no_journal-clause-none
returns-in_err-no_journal-clause-none c =
    if_none c.from_residual-in_err-no_journal.result _ (of_run (λ w. ⊥) (rows_of (found_of c.args.matches.now)) (λ f t k j n e o p asks. c.in_err-no_journal.ensures.none n asks.7))

pub returns-then-not-go_together-clause-none : goal.returns-then-not-go_together-clause-none
returns-then-not-go_together-clause-none c =
    let rows = rows_of (found_of c.args.matches.now) in
    of_run (λ w. ⊥) rows (λ f t k j n e o p asks.
    not_together rows c.in_ok-threads.threads c.in_ok-workers.workers t k c.get_str-journal.result j c.in_ok-no_journal.no_journal n
    (text_given c.get_str-journal.result (found_of c.args.matches.now) (codes "journal") c.get_str-journal.ensures) c.in_ok-no_journal.ensures.some asks.3 asks.7
    (one_number rows (codes "threads") 16 t c.in_ok-threads.threads asks.1 c.in_ok-threads.ensures.some)
    (one_number rows (codes "workers") 16 k c.in_ok-workers.workers asks.2 c.in_ok-workers.ensures.some)
    (λ together. true≢false (sym (c.go_together.ensures.1 together) ∙ c.if-not-go_together.true)) asks.8)

pub returns-clause-some : goal.returns-clause-some
returns-clause-some c = (
  refl,
  (
    some_given c.get_str.result (found_of c.args.matches.now) (codes "file") c.in_ok-file.file c.get_str.ensures c.in_ok-file.was,
    c.in_ok-threads.ensures.some,
    c.in_ok-workers.ensures.some,
    text_given c.get_str-journal.result (found_of c.args.matches.now) (codes "journal") c.get_str-journal.ensures,
    c.flag-explain.ensures,
    c.in_ok-format.ensures.some,
    c.flag-progress.ensures,
    c.in_ok-no_journal.ensures.some,
    c.go_together.ensures.0 c.if-not-go_together.false,
  ),
)
