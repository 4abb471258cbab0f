use Rattle.guarded.proofs.Shares.{turn_refused}
use Rattle.control.proofs.control.Control.take_turns.Goals as goal

pub returns-in-Err-clause-err : goal.returns-in-Err-clause-err
returns-in-Err-clause-err g c =
    let turn = c.turn_with-done.ensures.turn in
    turn_refused g.N.ControlName.opened g.N.ControlName.asked g.N.ControlName.shares (c.loop.share).sum c.loop.router turn.0 c.turn_with-done.result c.in-Err.refusal turn.1 c.loop.invariant.2 c.in-Err.is turn.2
