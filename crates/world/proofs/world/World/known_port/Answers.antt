use Rattle.std.proofs.Common.{◌<◌, length, ap, subst, ◌∙◌, arith}
use Rattle.no_packet_loops.proofs.Common.{Refusal, World, ok_or}
use Rattle.world.specs.Kept.{IsWorld}
use Rattle.world.proofs.Done.{port_answer, port_cause}
use Rattle.world.proofs.world.World.known_port.Goals as goal

pub returns-clause-ok : goal.returns-clause-ok
returns-clause-ok g c =
    let below : c.args.router < length c.self.inside.routers.items = omega arith in
    port_answer c.args.self.now c.args.router c.args.port c.ok_or.result (subst IsWorld c.self.view_is c.self.invariant) (subst (λ (w : World). c.args.router < length w.routers) c.self.view_is below)
    (c.ok_or.ensures.value ∙ ap (λ o. ok_or o Refusal.UnknownLink) c.port.ensures)

pub returns-clause-cause : goal.returns-clause-cause
returns-clause-cause g c =
    let below : c.args.router < length c.self.inside.routers.items = omega arith in
    port_cause c.args.self.now c.args.router c.args.port c.ok_or.result (subst (λ (w : World). c.args.router < length w.routers) c.self.view_is below)
    (c.ok_or.ensures.value ∙ ap (λ o. ok_or o Refusal.UnknownLink) c.port.ensures)
