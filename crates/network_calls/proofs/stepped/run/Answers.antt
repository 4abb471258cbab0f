use Rattle.std.proofs.Common.{arith, sym, subst}
use Rattle.std.proofs.lemmas.List.{get_or_default}
use Rattle.network_calls.specs.Calls.{IsRanTo}
use Rattle.network_calls.proofs.Ran.{ran_more, ran_none, stops}
use Rattle.network_calls.proofs.stepped.run.Goals as goal

pub loop-place-init : goal.loop-place-init
loop-place-init c = ran_none c.args.parts.now c.args.simulation.now

pub loop-place-preserved : goal.loop-place-preserved
loop-place-preserved c =
    let done = c.in-Ok.ensures.ok in
    ran_more c.args.parts.now c.args.simulation.now c.loop-place.simulation c.read_and_step.new.simulation c.loop-place.place _ c.loop-place.invariant (omega arith) (get_or_default c.args.parts.now c.loop-place.place _ _ (omega arith)) done.0 done.1

pub returns-in-Err-clause-ran : goal.returns-in-Err-clause-ran
returns-in-Err-clause-ran c = subst (λ s. IsRanTo c.args.parts.now c.args.simulation.now s c.loop-place.place) (sym c.in-Err.ensures.err) c.loop-place.invariant

pub returns-in-Err-clause-stop : goal.returns-in-Err-clause-stop
returns-in-Err-clause-stop c =
    stops c.args.parts.now c.loop-place.simulation c.read_and_step.new.simulation c.loop-place.place _ c.in-Err.failure (omega arith) (get_or_default c.args.parts.now c.loop-place.place _ _ (omega arith)) c.in-Err.ensures.err c.in-Err.ensures.cause
