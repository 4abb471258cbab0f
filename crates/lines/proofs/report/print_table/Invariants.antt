use Rattle.std.proofs.Common.{◌≡◌, ◌++◌}
use Rattle.std.specs.Io.KnownBytes.{Appends}
use Rattle.lines.specs.Report.{rows_text}
use Rattle.lines.proofs.report.print_table.Given as goal

abbrev pub invariant-loop-prefix : goal.invariant-loop-prefix
invariant-loop-prefix g l = record {
  told : Appends (g.W.Write.contents l.initial.out) (g.W.Write.contents l.out) (rows_text l.printer l.router l.yielded);
  rows : l.yielded ++ l.prefix-iterator ≡ l.table.table.published;
}
