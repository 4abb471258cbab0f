use Rattle.std.proofs.Common.{◌∙◌, ap}
use Rattle.course.specs.Course.{course_of}
use Rattle.network_model.specs.World.{opening}
use Rattle.course.proofs.Courses.{kept_open}
use Rattle.course.proofs.course.Course.open.Goals as goal

pub invariant_of-result : goal.invariant_of-result
invariant_of-result g c = kept_open c.args.network c.in_ok-world.world c.none.result c.in_ok-world.ensures c.none.ensures

pub returns : goal.returns
returns g c = ap (λ w. course_of c.args.network w 0 c.none.result) c.in_ok-world.ensures ∙ ap (course_of c.args.network (opening c.args.network) 0) c.none.ensures
