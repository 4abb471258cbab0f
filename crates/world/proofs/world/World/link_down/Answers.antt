use Rattle.std.proofs.Common.{◌≡◌, true, Err, Ok, MatchOption, is_ok, subst}
use Rattle.no_packet_loops.proofs.Common.{World, Refusal, refusal, LinkDown}
use Rattle.link_fifo.specs.Refusals.{refusal_to_change}
use Rattle.world.proofs.Insides.{world_in}
use Rattle.world.proofs.Done.{no_cause, down-keeps, done_for_link, refused_for_link, down_refusal}
use Rattle.world.proofs.world.World.link_down.Goals as goal

pub invariant_of-self-2 : goal.invariant_of-self-2
invariant_of-self-2 g c =
    down-keeps (world_in c.self.inside) c.args.link c.down.new.self.links (no_cause (true ≡ true) (refusal_to_change c.self.inside.links.links c.args.link) c.in_ok-down.field-0 c.in_ok-down.ensures.cause) c.in_ok-down.ensures.ok c.self.invariant

pub returns-in_err-down-clause-cause : goal.returns-in_err-down-clause-cause
returns-in_err-down-clause-cause g c =
    subst (λ (w : World). MatchOption (refusal w (LinkDown c.args.link)) (is_ok c.from_residual.result ≡ true) (λ (x : Refusal). c.from_residual.result ≡ Err x)) c.self.view_is
    (refused_for_link (refusal_to_change c.self.inside.links.links c.args.link) c.in_err-down.field-0.0 c.from_residual.result (down_refusal (world_in c.self.inside) c.args.link) c.in_err-down.ensures.cause c.from_residual.ensures.1)

pub returns-clause-cause : goal.returns-clause-cause
returns-clause-cause g c =
    subst (λ (w : World). MatchOption (refusal w (LinkDown c.args.link)) (true ≡ true) (λ (e : Refusal). Ok (tt {0}) ≡ Err e)) c.self.view_is
    (done_for_link (refusal_to_change c.self.inside.links.links c.args.link) (tt {0}) (down_refusal (world_in c.self.inside) c.args.link)
    (no_cause (true ≡ true) (refusal_to_change c.self.inside.links.links c.args.link) c.in_ok-down.field-0 c.in_ok-down.ensures.cause))
