use Rattle.std.proofs.Common.{◌≡◌, ◌+◌, ◌++◌, [], ◌∷◌, take, sym, ap, subst, ◌∙◌, arith, add-one}
use Rattle.no_packet_loops.proofs.Common.{Lawful, Runs, take-suc, Step}
use Rattle.world.proofs.Runs.{with_last_step}
use Rattle.course.specs.Course.{Course, course_after, course_after_all}
use Rattle.course.proofs.Courses.{after_push}
use Rattle.course.proofs.stepping.run.Goals as goal

pub loop-done-preserved : goal.loop-done-preserved
loop-done-preserved g c =
    let course = g.M.Stepping.course in
    let s : Step = c.index-steps-done.result in
    let old : Course = course c.args.mover.now in
    let mid : Course = course c.loop-done.mover in
    let new : Course = course c.advance.new.self in
    let done : Lawful mid.world s × (new ≡ course_after mid s) = c.in_default.ensures.ok in
    let steps : take (c.loop-done.done + 1) c.args.steps.now ≡ take c.loop-done.done c.args.steps.now ++ s ∷ []
    = ap (λ n. take n c.args.steps.now) (add-one c.loop-done.done) ∙ take-suc c.args.steps.now c.loop-done.done s (omega arith) ∙ ap (λ x. take c.loop-done.done c.args.steps.now ++ x ∷ []) (sym c.index-steps-done.is) in
    record {
      runs = subst (λ ss. Runs old.world ss new.world) (sym steps)
          (subst (Runs old.world (take c.loop-done.done c.args.steps.now ++ s ∷ [])) (sym (ap (λ (x : Course). x.world) done.1))
          (with_last_step old.world (take c.loop-done.done c.args.steps.now) mid.world s c.loop-done.invariant.runs done.0));
      after = done.1 ∙ ap (λ x. course_after x s) c.loop-done.invariant.after ∙ sym (after_push old (take c.loop-done.done c.args.steps.now) s) ∙ sym (ap (course_after_all old) steps);
    }
