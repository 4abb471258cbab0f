use Rattle.std.proofs.Common.{◌≡◌, take}
use Rattle.network_model.specs.Run.{Runs}
use Rattle.course.specs.Course.{course_after_all}
use Rattle.course.proofs.stepping.run.Given as goal

abbrev pub invariant-loop-done : goal.invariant-loop-done
invariant-loop-done g l =
    let course = g.M.Stepping.course in
    record {
      runs : Runs (course l.initial.mover).world (take l.done l.steps) (course l.mover).world;
      after : course l.mover ≡ course_after_all (course l.initial.mover) (take l.done l.steps);
    }
