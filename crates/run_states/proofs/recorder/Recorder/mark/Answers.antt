use Rattle.std.proofs.Common.{Some, ap, subst, sym, ◌∙◌}
use Rattle.world.specs.declared.touched.Touched.{Touched}
use Rattle.run_states.specs.Marks.{LinkMarked, cuts}
use Rattle.run_states.proofs.Marked.{no_link, step_marks}
use Rattle.run_states.proofs.recorder.Recorder.mark.Goals as goal

pub returns-in-Some : goal.returns-in-Some
returns-in-Some c =
    let mid = c.mark_touched_router.new.self in
    let after = c.mark_link.new.self in
    step_marks c.args.world.now c.args.step.now c.args.self.now mid after c.mark_touched_router.ensures
    (subst (λ o. LinkMarked o (cuts c.args.step.now) mid after) (sym c.in-Some.is ∙ ap (λ (t : Touched). t.link) c.by.ensures.named)
    (subst (λ b. LinkMarked (Some c.in-Some.link) b mid after) c.cuts.ensures c.mark_link.ensures))

pub returns-in_default : goal.returns-in_default
returns-in_default c =
    let mid = c.mark_touched_router.new.self in
    step_marks c.args.world.now c.args.step.now c.args.self.now mid mid c.mark_touched_router.ensures
    (subst (λ o. LinkMarked o (cuts c.args.step.now) mid mid) (sym c.in_default.is ∙ ap (λ (t : Touched). t.link) c.by.ensures.named) (no_link mid (cuts c.args.step.now)))
