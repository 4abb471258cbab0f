use Rattle.std.proofs.Common.{◌≡◌, sym, subst}
use Rattle.course.specs.Course.{course_of, IsCourse}
use Rattle.course.proofs.course.Course.copy.Goals as goal

-- the copy of each part is equal to it, so the copy keeps what every course keeps
pub invariant_of-result : goal.invariant_of-result
invariant_of-result g c =
    let same : course_of c.in_ok-network.network c.in_ok-world.world c.self.inside.steps c.self.inside.sent ≡ course_of c.self.inside.network c.self.inside.world c.self.inside.steps c.self.inside.sent
    = λ i. record { network = c.in_ok-network.ensures i; world = c.in_ok-world.ensures i; steps = c.self.inside.steps; sent = c.self.inside.sent } in
    subst IsCourse (sym same) c.self.invariant
