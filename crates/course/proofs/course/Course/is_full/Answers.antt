use Rattle.std.proofs.Common.{subst, arith}
use Rattle.std.proofs.lemmas.Bool.{eqb-false}
use Rattle.world.specs.Steps.{HasRoomForSteps}
use Rattle.course.specs.Course.{Course, course_of}
use Rattle.course.proofs.Courses.{room_left}
use Rattle.course.proofs.course.Course.is_full.Goals as goal

pub returns-clause-room : goal.returns-clause-room
returns-clause-room g c = λ less.
    subst (λ (x : Course). HasRoomForSteps 1 x.world) c.self.view_is
    (room_left (course_of c.self.inside.network c.self.inside.world c.self.inside.steps c.self.inside.sent) c.self.invariant
    (let fits = c.self.invariant.fits in let more = eqb-false c.self.inside.steps 18446744073709551615 less in omega (arith, fits, more)))
