use Rattle.std.proofs.Common.{◌≡◌, ◌∙◌, Some, ap, refl, sym, subst, inl, inr}
use Rattle.fabric.specs.Fabric.{Fabric, fabric_refusal, next_fabric_step}
use Rattle.guarded.specs.Served.{IsServed, IsFabricStopped, none_asked}
use Rattle.guarded.proofs.Served.{done_free, served_next, stopped, turn_next}
use Rattle.course.proofs.Courses.{refused_as}
use Rattle.control.proofs.settling.take_turns.Goals as goal

-- the step that was done was the router's next
pub loop-steps-preserved : goal.loop-steps-preserved
loop-steps-preserved g c =
    let f : Fabric = c.turn_from.new.self in
    let same : f ≡ c.loop-steps.fabric = c.turn_from.ensures.same in
    let router = c.in-Some.router in
    let s = c.in-Some.step in
    let served : IsServed g.O.Origin.from none_asked f = subst (IsServed g.O.Origin.from none_asked) (sym same) c.loop-steps.invariant.0 in
    let due : next_fabric_step f router ≡ Some s = ap (λ (h : Fabric). next_fabric_step h router) same ∙ c.in-Some.ensures.some in
    let ok = c.in-Ok.ensures.ok in (
      served_next g.O.Origin.from none_asked f f c.step.new.self s served refl refl refl served.stays (λ i lent. lent) (done_free f s _ c.in-Ok.ensures.cause)
          (inr (router, turn_next f router s due)) ok.0 c.fits.ensures ok.1,
      ap (λ (h : Fabric). h.lent) ok.1 ∙ ap (λ (h : Fabric). h.lent) same ∙ c.loop-steps.invariant.1,
    )

-- the step that was refused was the router's next
pub returns-in-Err-clause-err : goal.returns-in-Err-clause-err
returns-in-Err-clause-err g c =
    let f : Fabric = c.turn_from.new.self in
    let same : f ≡ c.loop-steps.fabric = c.turn_from.ensures.same in
    record {
      fabric = f;
      served = subst (IsServed g.O.Origin.from none_asked) (sym same) c.loop-steps.invariant.0;
      router = c.in-Some.router;
      step = c.in-Some.step;
      due = ap (λ (h : Fabric). next_fabric_step h c.in-Some.router) same ∙ c.in-Some.ensures.some;
      refused = inl (refused_as _ (fabric_refusal f c.in-Some.step) c.in-Err.refusal c.in-Err.ensures.cause);
    }

-- and it was refused for want of room or of memory
pub returns-in-Err-clause-alone : goal.returns-in-Err-clause-alone
returns-in-Err-clause-alone g c =
    let f : Fabric = c.turn_from.new.self in
    let router = c.in-Some.router in
    let s = c.in-Some.step in
    let e = c.in-Err.refusal in
    let due : next_fabric_step f router ≡ Some s = ap (λ (h : Fabric). next_fabric_step h router) c.turn_from.ensures.same ∙ c.in-Some.ensures.some in
    let cause = refused_as _ (fabric_refusal f s) e c.in-Err.ensures.cause in
    subst (λ h. IsFabricStopped h e) (sym c.in-Err.ensures.err) (stopped f router s e due cause)

pub returns-in-Err-clause-turns : goal.returns-in-Err-clause-turns
returns-in-Err-clause-turns g c = subst (IsServed g.O.Origin.from none_asked) (sym (c.in-Err.ensures.err ∙ c.turn_from.ensures.same)) c.loop-steps.invariant.0

pub returns-in-Err-clause-lent : goal.returns-in-Err-clause-lent
returns-in-Err-clause-lent g c = ap (λ (h : Fabric). h.lent) (c.in-Err.ensures.err ∙ c.turn_from.ensures.same) ∙ c.loop-steps.invariant.1
