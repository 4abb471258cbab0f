use Rattle.clap.specs.Words.{found_of, rows_of}
use Rattle.command_line.proofs.{Given.if_none, Subcommands.of_explain}
use Rattle.command_line.proofs.words.explain_words.Goals as goal

pub returns-in_err-number-clause-none : goal.returns-in_err-number-clause-none
returns-in_err-number-clause-none c =
    if_none c.from_residual.result _ (of_explain (λ w. ⊥) (rows_of (found_of c.args.matches.now)) (λ k asks. c.in_err-number.ensures.none _ asks))
