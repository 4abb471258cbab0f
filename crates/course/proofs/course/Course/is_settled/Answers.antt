use Rattle.std.proofs.Common.{◌≡◌, ◌<◌, None, sym, subst, ap, ◌∙◌}
use Rattle.network_model.proofs.Common.{is_settled, next_step, is_quiet}
use Rattle.quiet_routes.proofs.Settled.{settled_is_quiet}
use Rattle.course.specs.Course.{Course}
use Rattle.course.proofs.Idle.{idle-settled, settled-idle}
use Rattle.course.proofs.course.Course.is_settled.Goals as goal

pub returns-clause-idle : goal.returns-clause-idle
returns-clause-idle g c = (
  λ settled i within. settled-idle c.args.self.now.world (sym (c.is_settled.ensures ∙ ap (λ (s : Course). is_settled s.world) c.self.view_is) ∙ settled) i,
  λ none. c.is_settled.ensures ∙ idle-settled c.self.inside.network c.routers-routers.ensures.valid c.self.invariant.done c.self.inside.world c.self.invariant.runs
      (λ i within. subst (λ (s : Course). next_step s.world i ≡ None) (sym c.self.view_is) (none i (subst (λ (s : Course). i < s.network.routers) c.self.view_is within))),
)

pub returns-clause-quiet : goal.returns-clause-quiet
returns-clause-quiet g c =
    c.is_settled.ensures
    ∙ settled_is_quiet c.self.inside.network c.self.invariant.done c.self.inside.world c.routers-routers.ensures.valid c.self.invariant.runs
    ∙ ap (λ (s : Course). is_quiet s.world) c.self.view_is
