use Rattle.std.proofs.Common.{◌≡◌, ◌+◌, ◌++◌, [], ◌∷◌, Some, slice_get, length, refl, take, sym, ap, subst, ◌∙◌, arith, add-one, append_assoc, rules}
use Rattle.no_packet_loops.proofs.Common.{Lawful, Runs, slice_get_read, take-suc, Step}
use Rattle.world.specs.Steps.{CanBeRefused}
use Rattle.fabric.specs.Fabric.{Fabric, after_step, fabric_refusal}
use Rattle.course.proofs.Courses.{refused_as}
use Rattle.world.proofs.Runs.{with_last_step}
use Rattle.fabric.proofs.fabric.Fabric.run.Goals as goal

pub loop-done-preserved : goal.loop-done-preserved
loop-done-preserved g c =
    let s : Step = c.index-steps-done.result in
    let done : Lawful c.loop-done.self.world s × (c.step.new.self ≡ after_step c.loop-done.self s) = c.in_default.ensures.ok in
    let steps : take (c.loop-done.done + 1) c.args.steps.now ≡ take c.loop-done.done c.args.steps.now ++ s ∷ []
    = ap (λ n. take n c.args.steps.now) (add-one c.loop-done.done) ∙ take-suc c.args.steps.now c.loop-done.done s (omega arith) ∙ ap (λ x. take c.loop-done.done c.args.steps.now ++ x ∷ []) (sym c.index-steps-done.is) in
    record {
      runs = subst (λ ss. Runs c.args.self.now.world ss c.step.new.self.world) (sym steps)
          (subst (Runs c.args.self.now.world (take c.loop-done.done c.args.steps.now ++ s ∷ [])) (sym (ap (λ (f : Fabric). f.world) done.1))
          (with_last_step c.args.self.now.world (take c.loop-done.done c.args.steps.now) c.loop-done.self.world s c.loop-done.invariant.runs done.0));
      journal = ap (λ (f : Fabric). f.journal) done.1 ∙ ap (λ ss. ss ++ s ∷ []) c.loop-done.invariant.journal ∙ append_assoc c.args.self.now.journal (take c.loop-done.done c.args.steps.now) (s ∷ []) ∙ ap (λ ss. c.args.self.now.journal ++ ss) (sym steps);
      network = ap (λ (f : Fabric). f.network) done.1 ∙ c.loop-done.invariant.network;
    }

-- the step that was refused
pub returns-in-Err-clause-stop : goal.returns-in-Err-clause-stop
returns-in-Err-clause-stop g c =
    let s : Step = c.index-steps-done.result in
    let at : slice_get c.args.steps.now c.loop-done.done ≡ Some s = slice_get_read c.args.steps.now (length c.args.steps.now) c.loop-done.done s refl (omega arith) c.index-steps-done.is in
    (s, at, subst (λ f. CanBeRefused (fabric_refusal f s) c.in-Err.refusal) (sym c.in-Err.ensures.err) (refused_as _ (fabric_refusal c.loop-done.self s) c.in-Err.refusal c.in-Err.ensures.cause))

pub returns-in-Err-clause-runs : goal.returns-in-Err-clause-runs
returns-in-Err-clause-runs g c = search rules

pub returns-clause-runs : goal.returns-clause-runs
returns-clause-runs g c = search rules
