use Rattle.single_router.specs.Frames.{frame_of}
use Rattle.network_calls.proofs.Items.{AreFirst}
use Rattle.network_calls.proofs.gate.write_held.Given as goal

abbrev pub invariant-loop-at : goal.invariant-loop-at
invariant-loop-at l = AreFirst frame_of ((l.router).gate).held l.fn.messages l.messages l.at
