use Rattle.std.proofs.Common.{◌<◌, arith}
use Rattle.guarded.proofs.Shares.{turn_refused}
use Rattle.guarded.proofs.guarded.Guarded.turn.Goals as goal

pub returns-in-Err-clause-err : goal.returns-in-Err-clause-err
returns-in-Err-clause-err g c =
    let begun = c.take_turn-done.ensures in
    let routers = c.routers.ensures.routers in
    let within : c.args.router < (g.N.ControlName.opened.network).routers = omega (arith, routers, c.if-from-routers.false) in
    turn_refused g.N.ControlName.opened g.N.ControlName.asked g.N.ControlName.shares _ c.args.router _ c.take_turn-done.result.0 c.in-Err.refusal begun.found within c.in-Err.is begun.turn
