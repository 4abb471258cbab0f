use Rattle.std.proofs.Common.{arith, sym}
use Rattle.single_router.specs.Frames.{frame_of}
use Rattle.network_calls.proofs.Items.{ended, full_by, more_by, none}
use Rattle.network_calls.proofs.gate.write_held.Goals as goal

pub loop-at-init : goal.loop-at-init
loop-at-init c = none frame_of ((c.args.router.now).gate).held c.args.messages.now

pub loop-at-preserved : goal.loop-at-preserved
loop-at-preserved c =
    more_by frame_of ((c.args.router.now).gate).held c.args.messages.now c.loop-at.messages c.loop-at.at c.in-Some.held c.of.result c.in-Some.ensures c.of.ensures (omega arith) c.loop-at.invariant

pub returns-in-None : goal.returns-in-None
returns-in-None c =
    ended frame_of ((c.args.router.now).gate).held c.args.messages.now c.loop-at.messages c.loop-at.at (sym c.in-None.ensures) (omega arith) c.loop-at.invariant

pub returns : goal.returns
returns c = full_by frame_of ((c.args.router.now).gate).held c.args.messages.now c.loop-at.messages c.loop-at.at c.held.result c.held.ensures (omega arith) c.loop-at.invariant
