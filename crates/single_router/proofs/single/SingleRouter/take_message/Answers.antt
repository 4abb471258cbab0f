use Rattle.std.proofs.Common.{rules, ◌≡◌, ◌==◌, true, None, ap, ◌∙◌}
use Rattle.network_model.specs.{Step.router_told, World.machine_of}
use Rattle.single_router.specs.{Bounded.crowd_fault, Bounded.with_router, Inputs.kind_fault}
use Rattle.single_router.proofs.single.SingleRouter.take_message.Goals as goal

pub returns-clause-ok : goal.returns-clause-ok
returns-clause-ok c =
    let same : (c.in_ok-was.was'.session == c.args.session) ≡ true = search rules in
    let polite : kind_fault (machine_of (c.args.self.now).router c.args.message.prefix).computation c.args.port c.args.message.kind ≡ None = search rules in
    let room : crowd_fault c.args.message.prefix c.args.self.now ≡ None = search rules in (
      rw (c.in_ok-was.ensures.ok.0, c.in_ok-was.ensures.ok.1, same, polite) room,
      (λ i. record { router = c.in_ok-accept.ensures.ok i; most = c.self.inside.most_prefixes }) ∙ ap (with_router (router_told c.args.port c.args.message)) c.self.view_is,
    )
