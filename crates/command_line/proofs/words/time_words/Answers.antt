use Rattle.std.proofs.Common.{codes, refl}
use Rattle.clap.specs.Words.{found_of, rows_of}
use Rattle.command_line.proofs.Given.{some_given, none_given, if_none, not_found}
use Rattle.command_line.proofs.Subcommands.{of_time}
use Rattle.command_line.proofs.words.time_words.Goals as goal

pub returns-in_err-file-clause-none : goal.returns-in_err-file-clause-none
returns-in_err-file-clause-none c =
    let none = none_given c.get_str.result (found_of c.args.matches.now) (codes "file") c.get_str.ensures c.in_err-file.was in
    if_none c.from_residual.result _ (of_time (λ w. ⊥) (rows_of (found_of c.args.matches.now)) (λ f t s e o asks. not_found (rows_of (found_of c.args.matches.now)) (codes "file") none asks.0))

pub returns-in_err-times-clause-none : goal.returns-in_err-times-clause-none
returns-in_err-times-clause-none c =
    let none = none_given c.get_str-2.result (found_of c.args.matches.now) (codes "times") c.get_str-2.ensures c.in_err-times.was in
    if_none c.from_residual-in_err-times.result _ (of_time (λ w. ⊥) (rows_of (found_of c.args.matches.now)) (λ f t s e o asks. not_found (rows_of (found_of c.args.matches.now)) (codes "times") none asks.1))

pub returns-in_err-format-clause-none : goal.returns-in_err-format-clause-none
returns-in_err-format-clause-none c =
    if_none c.from_residual-in_err-format.result _ (of_time (λ w. ⊥) (rows_of (found_of c.args.matches.now)) (λ f t s e o asks. c.in_err-format.ensures.none o asks.4))

pub returns-clause-some : goal.returns-clause-some
returns-clause-some c = (
  refl,
  (
    some_given c.get_str.result (found_of c.args.matches.now) (codes "file") c.in_ok-file.file c.get_str.ensures c.in_ok-file.was,
    some_given c.get_str-2.result (found_of c.args.matches.now) (codes "times") c.in_ok-times.times c.get_str-2.ensures c.in_ok-times.was,
    c.flag-spells.ensures,
    c.flag-explain.ensures,
    c.in_ok-format.ensures.some,
  ),
)
