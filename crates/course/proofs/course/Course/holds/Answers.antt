use Rattle.std.proofs.Common.{subst, ◌≡◌, length}
use Rattle.world.specs.Headline.{HasWorldHeadline, IsReached}
use Rattle.world.proofs.Headline.{sound_there}
use Rattle.course.specs.{Course.Course, Course.course_of, Links.HasShortWays, Links.LeadsToRouters}
use Rattle.course.proofs.{Courses.reached, Idle.router_count, Links.leads_to_routers, Links.short_ways}
use Rattle.course.proofs.course.Course.holds.Goals as goal

pub returns-clause-reached : goal.returns-clause-reached
returns-clause-reached g c =
    subst (λ (x : Course). IsReached x.network x.world) c.self.view_is
    (reached (course_of c.self.inside.network c.self.inside.world c.self.inside.steps c.self.inside.sent) c.self.invariant c.routers-routers.ensures.valid)

pub returns-clause-headline : goal.returns-clause-headline
returns-clause-headline g c =
    subst (λ (x : Course). HasWorldHeadline x.network x.world) c.self.view_is
    (sound_there c.self.inside.network c.self.inside.world
    (reached (course_of c.self.inside.network c.self.inside.world c.self.inside.steps c.self.inside.sent) c.self.invariant c.routers-routers.ensures.valid))

pub returns-clause-routers : goal.returns-clause-routers
returns-clause-routers g c =
    subst (λ (x : Course). LeadsToRouters x.world) c.self.view_is (leads_to_routers c.self.inside.network c.self.invariant.done c.self.inside.world c.self.invariant.runs c.routers-routers.ensures.valid)

pub returns-clause-ways : goal.returns-clause-ways
returns-clause-ways g c =
    subst (λ (x : Course). HasShortWays x.world) c.self.view_is (short_ways c.self.inside.network c.self.invariant.done c.self.inside.world c.self.invariant.runs c.routers-routers.ensures.valid)

pub returns-clause-count : goal.returns-clause-count
returns-clause-count g c =
    subst (λ (x : Course). length x.world.routers ≡ x.network.routers) c.self.view_is (router_count c.self.inside.network c.self.invariant.done c.self.inside.world c.self.invariant.runs)
