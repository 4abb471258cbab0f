use Rattle.std.proofs.Common.{codes, sym, ◌∙◌}
use Rattle.clap.specs.Words.{found_of, rows_of}
use Rattle.command_line.proofs.{Given.none_given, Given.some_given, Given.text_given, Viewed.no_one_run, Viewed.no_view}
use Rattle.command_line.proofs.view.view_words.Goals as goal

pub returns-clause-asked : goal.returns-clause-asked
returns-clause-asked c = (
  some_given c.get_str.result (found_of c.args.matches.now) (codes "file") c.in-Some.file c.get_str.ensures c.in-Some.is,
  text_given c.get_str-journal.result (found_of c.args.matches.now) (codes "journal") c.get_str-journal.ensures,
  text_given c.get_str-times.result (found_of c.args.matches.now) (codes "times") c.get_str-times.ensures,
  text_given c.get_str-output.result (found_of c.args.matches.now) (codes "output") c.get_str-output.ensures,
  c.flag-json.ensures,
)

pub returns-in_default-clause-none : goal.returns-in_default-clause-none
returns-in_default-clause-none c =
    no_view (rows_of (found_of c.args.matches.now)) (none_given c.get_str.result (found_of c.args.matches.now) (codes "file") c.get_str.ensures c.in_default.is)

pub returns-then-is_some-2-clause-none : goal.returns-then-is_some-2-clause-none
returns-then-is_some-2-clause-none c =
    no_one_run (rows_of (found_of c.args.matches.now)) c.get_str-journal.result c.get_str-times.result
    (text_given c.get_str-journal.result (found_of c.args.matches.now) (codes "journal") c.get_str-journal.ensures)
    (text_given c.get_str-times.result (found_of c.args.matches.now) (codes "times") c.get_str-times.ensures)
    (sym c.is_some.ensures ∙ c.if-is_some.true) (sym c.is_some-then-is_some.ensures ∙ c.if-is_some-2.true)
