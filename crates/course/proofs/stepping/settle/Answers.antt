use Rattle.std.proofs.Common.{◌∙◌, sym, ap, subst}
use Rattle.no_packet_loops.proofs.Common.{Lawful}
use Rattle.world.specs.Steps.{CanBeRefused}
use Rattle.course.specs.{Course.Course, Course.course_after, Course.course_refusal, Turns.IsCourseStopped}
use Rattle.course.proofs.{Courses.refused_as, Turning.stopped, Turning.turned_more}
use Rattle.course.proofs.stepping.settle.Goals as goal

-- one turn more
pub loop-done-preserved : goal.loop-done-preserved
loop-done-preserved g c =
    let course = g.M.Stepping.course in
    let same = c.turn_from.ensures.same in
    let done = c.in_default-advance.ensures.ok in
    turned_more (course c.args.mover.now) (course c.loop-done.mover) (course c.advance.new.self) c.loop-done.done c.in-Some.step c.loop-done.invariant (c.in-Some.router, c.in-Some.ensures.some)
    (subst (λ (s : Course). Lawful s.world c.in-Some.step) same done.0) (done.1 ∙ ap (λ s. course_after s c.in-Some.step) same)

-- the step was refused
pub returns-in-Err-clause-stop : goal.returns-in-Err-clause-stop
returns-in-Err-clause-stop g c =
    let course = g.M.Stepping.course in
    let same = c.turn_from.ensures.same in
    let e = c.in-Err.refusal in
    subst (λ s. IsCourseStopped s e) (sym (c.in-Err.ensures.err ∙ same))
    (stopped (course c.loop-done.mover) c.in-Some.step e (c.in-Some.router, c.in-Some.ensures.some)
    (subst (λ s. CanBeRefused (course_refusal s c.in-Some.step) e) same (refused_as _ (course_refusal (course c.turn_from.new.self) c.in-Some.step) e c.in-Err.ensures.cause)))
