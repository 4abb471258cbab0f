use Rattle.std.proofs.Common.{◌≡◌, take}
use Rattle.lookup_calls.specs.Tables.{wordless_rows}
use Rattle.lookup_calls.proofs.kept.set_wordless.Given as goal

abbrev pub invariant-loop-prefix : goal.invariant-loop-prefix
invariant-loop-prefix l = l.marked.items ≡ wordless_rows (take l.prefix-index l.rows)
