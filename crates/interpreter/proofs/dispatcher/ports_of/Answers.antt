use Rattle.std.proofs.Common.{rules, length}
use Rattle.publication.proofs.Places.{rest_all}
use Rattle.fabric.specs.Writers.{IsReaderPort}
use Rattle.interpreter.proofs.dispatcher.ports_of.Goals as goal

pub loop-readers-preserved : goal.loop-readers-preserved
loop-readers-preserved g c = (
  tt,
  tt,
  search rules,
  search rules,
  rest_all (λ readers. IsReaderPort (length g.B.FabricName.books) readers.items) _ c.in-Some.readers _ c.in-Some.ensures.steps.0 c.loop-readers.invariant.4,
)
