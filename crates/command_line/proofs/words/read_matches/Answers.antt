use Rattle.std.proofs.Common.{sym, ◌≡◌, Some}
use Rattle.clap.specs.{Words.found_of, Words.rows_of, Words.subcommand_rows_of, declared.parser.matches.ArgMatches.TheViews.out-ArgMatches}
use Rattle.command_line.proofs.Subcommands.{asked, met_rows, none_asked}
use Rattle.command_line.proofs.words.read_matches.Goals as goal

met : (c : goal.After-command_words) → subcommand_rows_of c.args.matches.now ≡ Some (c.in_ok-name.name.now, rows_of (found_of c.in_ok-name.inner.now))
met c =
    met_rows (out-ArgMatches c.args.matches.now).subcommand c.in_ok-name.name.now (rows_of (found_of c.in_ok-name.inner.now))
    (sym c.in_ok-name.ensures.name) (sym c.in_ok-name.ensures.rows)

pub returns-clause-some : goal.returns-clause-some
returns-clause-some c = asked (subcommand_rows_of c.args.matches.now) _ _ (met c) c.command_words.result c.command_words.ensures.some

pub returns-clause-none : goal.returns-clause-none
returns-clause-none c = none_asked (subcommand_rows_of c.args.matches.now) _ _ (met c) c.command_words.result c.command_words.ensures.none
