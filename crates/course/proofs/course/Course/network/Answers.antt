use Rattle.std.proofs.Common.{subst, ◌≡◌, length}
use Rattle.course.specs.Course.{Course}
use Rattle.course.proofs.Idle.{router_count}
use Rattle.course.proofs.course.Course.network.Goals as goal

pub returns-clause-count : goal.returns-clause-count
returns-clause-count g c =
    subst (λ (x : Course). length x.world.routers ≡ x.network.routers) c.self.view_is (router_count c.self.inside.network c.self.invariant.done c.self.inside.world c.self.invariant.runs)
