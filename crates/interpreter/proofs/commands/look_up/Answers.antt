use Rattle.std.proofs.Common.{refl}
use Rattle.network_model.specs.Kinds.{refusal_kind}
use Rattle.script.proofs.Exits.{at_err}
use Rattle.plans.specs.Faults.{OfRefusal}
use Rattle.interpreter.proofs.commands.look_up.Goals as goal

pub returns-in_err-found-clause-err : goal.returns-in_err-found-clause-err
returns-in_err-found-clause-err g c =
    let e = c.in_err-found.field-0.0 in
    at_err c.from_residual.result (OfRefusal (g.N.Live.meaning.not_looked_up c.args.net.now c.args.router c.args.addr)) (refusal_kind e) c.from_residual.ensures.1 (e, refl, c.in_err-found.ensures.err)
