use Rattle.std.proofs.Common.{refl}
use Rattle.network_model.specs.Kinds.{refusal_kind}
use Rattle.script.proofs.Exits.{at_err}
use Rattle.plans.specs.Faults.{OfRefusal}
use Rattle.interpreter.proofs.commands.show_trace.Goals as goal

pub returns-in_err-traced-clause-err : goal.returns-in_err-traced-clause-err
returns-in_err-traced-clause-err g c =
    let e = c.in_err-traced.field-0.0 in
    at_err c.from_residual.result (OfRefusal (g.N.Live.meaning.not_traced c.args.net.now c.args.router)) (refusal_kind e) c.from_residual.ensures.1 (e, refl, c.in_err-traced.ensures.err)
