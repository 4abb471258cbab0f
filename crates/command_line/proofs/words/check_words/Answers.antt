use Rattle.std.proofs.Common.{codes, refl}
use Rattle.clap.specs.Words.{found_of, rows_of}
use Rattle.command_line.proofs.Given.{some_given, none_given, if_none, not_found}
use Rattle.command_line.proofs.Subcommands.{of_check}
use Rattle.command_line.proofs.words.check_words.Goals as goal

pub returns-in_err-file-clause-none : goal.returns-in_err-file-clause-none
returns-in_err-file-clause-none c =
    let none = none_given c.get_str.result (found_of c.args.matches.now) (codes "file") c.get_str.ensures c.in_err-file.was in
    if_none c.from_residual.result _ (of_check (λ w. ⊥) (rows_of (found_of c.args.matches.now)) (λ f e asks. not_found (rows_of (found_of c.args.matches.now)) (codes "file") none asks.0))

pub returns-clause-some : goal.returns-clause-some
returns-clause-some c = (refl, (some_given c.get_str.result (found_of c.args.matches.now) (codes "file") c.in_ok-file.file c.get_str.ensures c.in_ok-file.was, c.flag-explain.ensures))
