use Rattle.std.proofs.Common.{codes}
use Rattle.clap.specs.Words.{found_of, rows_of}
use Rattle.command_line.proofs.Given.{format_read, if_none, no_name, no_format, none_given, some_given}
use Rattle.command_line.proofs.Subcommands.{passed_on}
use Rattle.command_line.proofs.words.named_format.Goals as goal

pub returns-in_err-name-clause-none : goal.returns-in_err-name-clause-none
returns-in_err-name-clause-none c =
    if_none c.from_residual.result _ (no_name (rows_of (found_of c.args.matches.now))
    (none_given c.get_str.result (found_of c.args.matches.now) (codes "format") c.get_str.ensures c.in_err-name.was))

pub returns-clause-some : goal.returns-clause-some
returns-clause-some c =
    format_read (rows_of (found_of c.args.matches.now)) c.in_ok-name.name.now c.of.result
    (some_given c.get_str.result (found_of c.args.matches.now) (codes "format") c.in_ok-name.name c.get_str.ensures c.in_ok-name.was) c.of.ensures.some

pub returns-clause-none : goal.returns-clause-none
returns-clause-none c =
    passed_on c.of.result _ _
    (no_format (rows_of (found_of c.args.matches.now)) c.in_ok-name.name.now
    (some_given c.get_str.result (found_of c.args.matches.now) (codes "format") c.in_ok-name.name c.get_str.ensures c.in_ok-name.was)) c.of.ensures.none
