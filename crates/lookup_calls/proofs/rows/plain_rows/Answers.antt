use Rattle.std.proofs.Common.{◌∙◌, ap}
use Rattle.lookup_calls.specs.Tables.{wordless_rows}
use Rattle.lookup_calls.proofs.Wordless.{plain_are}
use Rattle.lookup_calls.proofs.rows.plain_rows.Goals as goal

pub returns-clause-ok : goal.returns-clause-ok
returns-clause-ok c = ap wordless_rows c.in_ok-read_rows.ensures.ok ∙ plain_are c.args.rows.now
