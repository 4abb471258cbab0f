use Rattle.std.proofs.Common.{rules, ◌≡◌, true, None, is_some, refl, ap, ◌∙◌}
use Rattle.network_model.specs.Step.{router_at_home}
use Rattle.single_router.specs.{Bounded.with_router, Inputs.attachment_of}
use Rattle.single_router.proofs.single.SingleRouter.detach.Goals as goal

pub returns-clause-ok : goal.returns-clause-ok
returns-clause-ok c =
    let attached : is_some (attachment_of (c.args.self.now).router c.args.prefix) ≡ true = search rules in
    let gone = router_at_home (record { prefix = c.args.prefix; cost = None }) in (
      rw attached refl,
      (λ i. record { router = c.in_ok-notice.ensures.ok i; most = c.self.inside.most_prefixes }) ∙ ap (with_router gone) c.self.view_is,
    )
