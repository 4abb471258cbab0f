use Rattle.std.proofs.Common.{sym, subst, ◌∙◌}
use Rattle.network_model.specs.Step.{next}
use Rattle.no_packet_loops.proofs.WorldLaws.{next-shape}
use Rattle.run_states.specs.Recorders.{IsCurrent, IsRecorderOf}
use Rattle.run_states.proofs.Marked.{by_result, current_after, led_nowhere, led_to_next}
use Rattle.run_states.proofs.recorder.Recorder.step.Goals as goal

pub returns-clause-of : goal.returns-clause-of
returns-clause-of c =
    let w = c.args.world.now in
    let s = c.args.step in
    let marked = c.mark.ensures.of w c.requires.of in
    by_result c.step.result c.step.ensures.ok c.step.ensures.err
    (λ done. subst (λ v. IsRecorderOf v c.mark.new.self) (sym done.1)
    (let shape = next-shape w s in record { links = marked.links ∙ sym shape.links; routers = marked.routers ∙ sym shape.routers; few_links = marked.few_links; few_routers = marked.few_routers; places = marked.places }))
    (λ stays. subst (λ v. IsRecorderOf v c.mark.new.self) (sym stays) marked)

pub returns-clause-current : goal.returns-clause-current
returns-clause-current c =
    let w = c.args.world.now in
    let s = c.args.step in
    let r = c.requires.reached in
    by_result c.step.result c.step.ensures.ok c.step.ensures.err
    (λ done. subst (λ v. IsCurrent v c.mark.new.self) (sym done.1)
    (current_after w s (next w s) c.args.self.now c.mark.new.self (led_to_next r.0 w s r.1) c.requires.of c.mark.ensures c.requires.current))
    (λ stays. subst (λ v. IsCurrent v c.mark.new.self) (sym stays)
    (current_after w s w c.args.self.now c.mark.new.self (led_nowhere w s) c.requires.of c.mark.ensures c.requires.current))
