use Rattle.std.proofs.Common.{take}
use Rattle.std.specs.Io.KnownBytes.{Appends}
use Rattle.journal.specs.Steps.{steps_text}
use Rattle.journal.proofs.write.write_lines.Given as goal

abbrev pub invariant-loop-step : goal.invariant-loop-step
invariant-loop-step g l = record {
  printed : Appends (g.W.Write.contents l.initial.out) (g.W.Write.contents l.out) (steps_text l.directory l.links (take l.step-index l.steps));
}
