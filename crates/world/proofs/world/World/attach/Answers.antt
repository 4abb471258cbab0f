use Rattle.std.proofs.Common.{◌≡◌, None, refl, ap, ◌∙◌}
use Rattle.network_model.specs.World.{World}
use Rattle.network_model.specs.Step as steps
use Rattle.link_fifo.proofs.Changes.{written}
use Rattle.world.specs.Steps.{prefix_refusal}
use Rattle.router_core.proofs.Refused.{gave_up}
use Rattle.world.proofs.{Insides.world_in, Done.written_back, Done.in_bounds, Done.known_within}
use Rattle.world.proofs.world.World.attach.Goals as goal

pub returns-clause-ok : goal.returns-clause-ok
returns-clause-ok g c =
    ap (λ xs. record (world_in c.self.inside) { attachments = xs })
    (written (steps.with_attachment c.args.prefix c.args.cost) c.from.ensures c.index_mut.ensures.value c.in_ok-attach.ensures.ok refl)
    ∙ ap (λ (w : World). steps.changed_attachments c.args.router (steps.with_attachment c.args.prefix c.args.cost) w) c.self.view_is

pub index_mut-requires : goal.index_mut-requires
index_mut-requires g c =
    let known : prefix_refusal (world_in c.self.inside) c.args.router c.args.prefix ≡ None = ap (λ w. prefix_refusal w c.args.router c.args.prefix) c.self.view_is ∙ c.in_ok-known_prefix.ensures.ok in
    in_bounds c.from.ensures (known_within (world_in c.self.inside) c.args.router c.args.prefix c.self.invariant known) c.self.inside.attachments.ok.0

pub returns-in_err-attach-clause-err : goal.returns-in_err-attach-clause-err
returns-in_err-attach-clause-err g c =
    gave_up c.from_residual-in_err-attach.result
    (ap (λ xs. record (world_in c.self.inside) { attachments = xs }) (written_back c.self.inside.attachments.items c.from.result c.index_mut.ensures.value c.in_err-attach.ensures.err) ∙ c.self.view_is)
