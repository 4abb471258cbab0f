use Rattle.no_packet_loops.proofs.Common.{⊤, get_or_from_slice_get, Lawful, next, refusal, Runs, take-suc, Step, Publish}
use Rattle.std.proofs.Common.{◌≡◌, Some, suc, ◌+◌, ◌-◌, ◌++◌, [], ◌∷◌, take, length, sym, ap, subst, ◌∙◌, arith, add-one, rules}
use Rattle.world.specs.Steps.{HasRoomForSteps}
use Rattle.world.proofs.{Runs.with_last_step, Runs.next-room, Runs.less_room, Done.only_cause, Headline.reached_on, Headline.sound_there}
use Rattle.world.proofs.world.World.run.Goals as goal

pub loop-done-preserved : goal.loop-done-preserved
loop-done-preserved g c =
    let s : Step = c.index-steps-done.result in
    let done : Lawful c.loop-done.self s × (c.step.new.self ≡ next c.loop-done.self s) = c.in_default.ensures.ok in
    let steps : take (c.loop-done.done + 1) c.args.steps.now ≡ take c.loop-done.done c.args.steps.now ++ s ∷ []
    = ap (λ n. take n c.args.steps.now) (add-one c.loop-done.done) ∙ take-suc c.args.steps.now c.loop-done.done s (omega arith) ∙ ap (λ x. take c.loop-done.done c.args.steps.now ++ x ∷ []) (sym c.index-steps-done.is) in
    record {
      runs = subst (λ ss. Runs c.args.self.now ss c.step.new.self) (sym steps)
          (subst (Runs c.args.self.now (take c.loop-done.done c.args.steps.now ++ s ∷ [])) (sym done.1)
          (with_last_step c.args.self.now (take c.loop-done.done c.args.steps.now) c.loop-done.self s c.loop-done.invariant.runs done.0));
      room = subst (HasRoomForSteps (length c.args.steps.now - (c.loop-done.done + 1))) (sym done.1)
          (next-room (length c.args.steps.now - (c.loop-done.done + 1)) c.loop-done.self s
          (less_room (suc (length c.args.steps.now - (c.loop-done.done + 1))) (length c.args.steps.now - c.loop-done.done) c.loop-done.self (omega arith) c.loop-done.invariant.room));
    }

pub returns-in-Err-clause-reached : goal.returns-in-Err-clause-reached
returns-in-Err-clause-reached g c = λ n reached.
    reached_on n c.args.self.now c.step.new.self (take c.loop-done.done c.args.steps.now) reached
    (subst (Runs c.args.self.now (take c.loop-done.done c.args.steps.now)) (sym c.in-Err.ensures.err) c.loop-done.invariant.runs)

pub returns-in-Err-clause-headline : goal.returns-in-Err-clause-headline
returns-in-Err-clause-headline g c = λ n reached. sound_there n c.step.new.self (returns-in-Err-clause-reached g c n reached)

pub returns-in-Err-clause-publication : goal.returns-in-Err-clause-publication
returns-in-Err-clause-publication g c = λ i is.
    let asked : c.index-steps-done.result ≡ Publish i = c.index-steps-done.is ∙ get_or_from_slice_get c.args.steps.now c.loop-done.done (Publish i) c.index-steps-done.result is in
    let cause : refusal c.loop-done.self c.index-steps-done.result ≡ Some c.in-Err.refusal = only_cause ⊤ (refusal c.loop-done.self c.index-steps-done.result) c.in-Err.refusal (c.in-Err.ensures.publication i asked) in
    subst (λ s. refusal c.step.new.self s ≡ Some c.in-Err.refusal) asked (subst (λ w. refusal w c.index-steps-done.result ≡ Some c.in-Err.refusal) (sym c.in-Err.ensures.err) cause)

pub returns-clause-reached : goal.returns-clause-reached
returns-clause-reached g c = λ n reached. reached_on n c.args.self.now c.loop-done.self (take c.loop-done.done c.args.steps.now) reached c.loop-done.invariant.runs

pub returns-clause-headline : goal.returns-clause-headline
returns-clause-headline g c = λ n reached. sound_there n c.loop-done.self (returns-clause-reached g c n reached)

pub returns-in-Err-clause-runs : goal.returns-in-Err-clause-runs
returns-in-Err-clause-runs g c = search rules

pub returns-clause-runs : goal.returns-clause-runs
returns-clause-runs g c = search rules
