use Rattle.std.proofs.Common.{◌∙◌, ◌<◌, inl, inr, ap, length, refl, rules, sym, subst, arith}
use Rattle.network_model.specs.{declared.step.Refusal.TheVariants.UnknownRouter, Kinds.refusal_kind, World.Network}
use Rattle.world.specs.Steps.{CanBeRefused}
use Rattle.course.proofs.Courses.{refused_as}
use Rattle.script.proofs.Exits.{at_err}
use Rattle.plans.specs.Faults.{OfRefusal}
use Rattle.interpreter.specs.Commands.{CannotPut, is_amiss_at}
use Rattle.interpreter.proofs.Links.{none_below}
use Rattle.interpreter.proofs.putting.put_links.Goals as goal

pub returns-then-from-routers-clause-err : goal.returns-then-from-routers-clause-err
returns-then-from-routers-clause-err g c = (UnknownRouter, refl, inl (search rules))

-- the first that is refused
pub returns-in_err-step-clause-err : goal.returns-in_err-step-clause-err
returns-in_err-step-clause-err g c =
    let k = g.N.Live.meaning in
    let before = c.loop-place.net in
    let e = c.in_err-step.field-0.0 in
    at_err c.from_residual.result (OfRefusal (CannotPut k c.args.up c.args.router c.args.net.now c.step.new.self)) (refusal_kind e) c.from_residual.ensures.1 (
      e,
      refl,
      rw c.in_err-step.ensures.err (inr (record {
        link = c.loop-place.place;
        is_link = subst (λ n. c.loop-place.place < n) (ap length (c.links-place-end.ensures.links ∙ ap (λ (n : Network). n.links) c.network.ensures)) c.loop-place-test.true;
        before = c.loop-place.invariant;
        amiss = ap (λ w. is_amiss_at w c.args.up c.args.router c.loop-place.place) (sym c.world-in-loop-place.ensures) ∙ sym c.if-is_amiss.ensures;
        refused = subst (λ s. CanBeRefused (k.refusal before s) e) c.put.ensures (refused_as _ (k.refusal before c.put.result) e c.in_err-step.ensures.cause);
      })),
    )

pub returns-clause-all : goal.returns-clause-all
returns-clause-all g c l within =
    let all = ap length (c.links-place-end.ensures.links ∙ ap (λ (n : Network). n.links) c.network.ensures) in
    let last = c.loop-place-test.false in
    none_below g.N.Live.meaning c.args.up c.args.router c.loop-place.place c.args.net.now c.loop-place.net c.loop-place.invariant l (omega (arith, within, all, last))
