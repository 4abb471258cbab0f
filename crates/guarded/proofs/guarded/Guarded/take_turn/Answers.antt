use Rattle.std.proofs.Common.{◌≡◌, ◌∙◌, Err, None, Ok, Some, ap, subst, sym, inl, inr, arith}
use Rattle.network_model.proofs.Common.{Lawful}
use Rattle.network_model.specs.declared.step.Step.TheVariants.{Publish}
use Rattle.world.specs.Steps.{IsDoneOr}
use Rattle.fabric.specs.Fabric.{Fabric, fabric_refusal, next_fabric_step}
use Rattle.guarded.proofs.Served.{done_none, next_router, turn_next}
use Rattle.course.proofs.Courses.{refused_as}
use Rattle.guarded.proofs.guarded.Guarded.take_turn.Goals as goal

pub lend-requires : goal.lend-requires
lend-requires g c =
    let f : Fabric = c.audit.new.self in
    let due : next_fabric_step f c.args.router ≡ Some c.args.step = ap (λ (h : Fabric). next_fabric_step h c.args.router) c.audit.ensures.fabric ∙ c.requires.next in
    let mine : c.in-Publish.router ≡ c.args.router = next_router f.world c.args.router c.in-Publish.router (turn_next f c.args.router (Publish c.in-Publish.router) (due ∙ ap Some c.in-Publish.is)) in
    record { next = due ∙ ap Some (c.in-Publish.is ∙ ap Publish mine) }

pub returns-in-Ok-clause-turn : goal.returns-in-Ok-clause-turn
returns-in-Ok-clause-turn g c =
    let f : Fabric = c.audit.new.self in
    let due : next_fabric_step f c.args.router ≡ Some c.args.step = ap (λ (h : Fabric). next_fabric_step h c.args.router) c.audit.ensures.fabric ∙ c.requires.next in
    let mine : c.in-Publish.router ≡ c.args.router = next_router f.world c.args.router c.in-Publish.router (turn_next f c.args.router (Publish c.in-Publish.router) (due ∙ ap Some c.in-Publish.is)) in (
      c.requires.next,
      subst (λ (h : Fabric). Lawful h.world c.args.step) c.audit.ensures.fabric (subst (Lawful f.world) (sym (c.in-Publish.is ∙ ap Publish mine)) c.in-Ok.ensures.due),
    )

pub returns-in-Ok-clause-ticket : goal.returns-in-Ok-clause-ticket
returns-in-Ok-clause-ticket g c =
    let f : Fabric = c.audit.new.self in
    let due : next_fabric_step f c.args.router ≡ Some c.args.step = ap (λ (h : Fabric). next_fabric_step h c.args.router) c.audit.ensures.fabric ∙ c.requires.next in
    let mine : c.in-Publish.router ≡ c.args.router = next_router f.world c.args.router c.in-Publish.router (turn_next f c.args.router (Publish c.in-Publish.router) (due ∙ ap Some c.in-Publish.is)) in (
      ap (λ s. Ok (Some s)) (c.in-Publish.is ∙ ap Publish mine),
      subst (λ h. fabric_refusal h (Publish c.args.router) ≡ None) c.audit.ensures.fabric (done_none _ _ c.in-Ok.ensures.cause),
      c.in-Ok.ensures.fresh.0,
      c.in-Ok.ensures.fresh.1,
    )

pub returns-in-Err-clause-turn : goal.returns-in-Err-clause-turn
returns-in-Err-clause-turn g c =
    let f : Fabric = c.audit.new.self in
    let due : next_fabric_step f c.args.router ≡ Some c.args.step = ap (λ (h : Fabric). next_fabric_step h c.args.router) c.audit.ensures.fabric ∙ c.requires.next in
    let mine : c.in-Publish.router ≡ c.args.router = next_router f.world c.args.router c.in-Publish.router (turn_next f c.args.router (Publish c.in-Publish.router) (due ∙ ap Some c.in-Publish.is)) in
    inr (
      Publish c.args.router,
      c.requires.next ∙ ap Some (c.in-Publish.is ∙ ap Publish mine),
      inl (refused_as _ (fabric_refusal c.args.self.now (Publish c.args.router)) c.in-Err.refusal
          (subst (λ h. IsDoneOr (fabric_refusal h (Publish c.args.router)) (Err c.in-Err.refusal)) c.audit.ensures.fabric c.in-Err.ensures.cause)),
    )

pub step-requires : goal.step-requires
step-requires g c = inr (
  c.args.router,
  turn_next c.audit.new.self c.args.router c.args.step (ap (λ (f : Fabric). next_fabric_step f c.args.router) c.audit.ensures.fabric ∙ c.requires.next),
)

pub returns-in-Err-step : goal.returns-in-Err-step
returns-in-Err-step g c =
    let sum = c.in-Err-step.ensures.sum in
    let audited = c.audit.ensures.sum in
    record {
      found = c.audit.ensures.found;
      turn = inr (
        c.args.step,
        c.requires.next,
        inl (refused_as _ (fabric_refusal c.args.self.now c.args.step) c.in-Err-step.refusal
            (subst (λ f. IsDoneOr (fabric_refusal f c.args.step) (Err c.in-Err-step.refusal)) c.audit.ensures.fabric c.in-Err-step.ensures.cause)),
      );
      ticket = tt;
      lent = tt;
      sum = omega (arith, sum, audited);
      holder = c.in-Err-step.ensures.holder ∙ c.audit.ensures.holder;
      out = c.in-Err-step.ensures.out ∙ c.audit.ensures.out;
    }
