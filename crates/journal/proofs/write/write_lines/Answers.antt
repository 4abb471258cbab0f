use Rattle.std.proofs.Common.{arith}
use Rattle.script.proofs.Common.{line_next}
use Rattle.journal.specs.Steps.{step_text}
use Rattle.journal.proofs.write.write_lines.Goals as goal

pub loop-step-preserved : goal.loop-step-preserved
loop-step-preserved g c =
    let mid = g.W.Write.contents c.loop-step.out in
    let new = g.W.Write.contents c.writeln.new.self in
    record {
      printed = line_next (step_text c.args.directory.now c.args.links.now) c.args.steps.now c.loop-step.step-index c.step-item.result (g.W.Write.contents c.args.out.now) mid new
          (omega (arith, c.loop-step-test.true)) c.step-item.is c.loop-step.invariant.printed c.in_ok-writeln.ensures.bytes;
    }
