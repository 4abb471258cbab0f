use Rattle.std.proofs.Common.{subst, Ok}
use Rattle.no_packet_loops.proofs.Common.{World, refusal, LinkUp}
use Rattle.link_fifo.specs.Refusals.{refusal_to_come_up}
use Rattle.world.specs.Steps.{IsDoneOr}
use Rattle.world.proofs.Insides.{world_in}
use Rattle.world.proofs.Done.{not_refused, up-keeps, done_on_link, refused_by_link, up_refusal}
use Rattle.world.proofs.world.World.link_up.Goals as goal

pub invariant_of-self-2 : goal.invariant_of-self-2
invariant_of-self-2 g c =
    up-keeps (world_in c.self.inside) c.args.link c.up.new.self.links (not_refused (refusal_to_come_up c.self.inside.links.links c.args.link) c.in_ok-up.field-0 c.in_ok-up.ensures.cause) c.in_ok-up.ensures.ok c.self.invariant

pub returns-in_err-up-clause-cause : goal.returns-in_err-up-clause-cause
returns-in_err-up-clause-cause g c =
    subst (λ (w : World). IsDoneOr (refusal w (LinkUp c.args.link)) c.from_residual.result) c.self.view_is
    (refused_by_link (refusal_to_come_up c.self.inside.links.links c.args.link) c.in_err-up.field-0.0 c.from_residual.result (up_refusal (world_in c.self.inside) c.args.link) c.in_err-up.ensures.cause c.from_residual.ensures.1)

pub returns-clause-cause : goal.returns-clause-cause
returns-clause-cause g c =
    subst (λ (w : World). IsDoneOr (refusal w (LinkUp c.args.link)) (Ok (tt {0}))) c.self.view_is
    (done_on_link (refusal_to_come_up c.self.inside.links.links c.args.link) c.in_ok-up.field-0 (up_refusal (world_in c.self.inside) c.args.link) c.in_ok-up.ensures.cause)
