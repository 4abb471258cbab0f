use Rattle.std.proofs.Common.{subst, arith}
use Rattle.no_packet_loops.proofs.Common.{HasCosts, IsCost}
use Rattle.world.proofs.Elements.{all_more}
use Rattle.world.proofs.network.read_links.Goals as goal

pub loop-link-init : goal.loop-link-init
loop-link-init c = λ k d h. absurd (omega arith)

pub loop-link-preserved : goal.loop-link-preserved
loop-link-preserved c =
    all_more HasCosts c.args.links.now c.loop-link.link-index c.link-item.result (omega arith) c.link-item.is
    (record { from_a = subst IsCost c.value.ensures.value c.value.ensures.cost; from_b = subst IsCost c.value-in-loop-link.ensures.value c.value-in-loop-link.ensures.cost })
    c.loop-link.invariant

pub returns : goal.returns
returns c = λ k d below. c.loop-link.invariant k d (omega arith)
