use Rattle.std.proofs.Common.{ℕ, subst, arith}
use Rattle.no_packet_loops.proofs.Common.{Prefix, IsPrefix, IsCost}
use Rattle.world.proofs.Elements.{all_more}
use Rattle.world.proofs.network.read_attachments.Goals as goal

pub loop-attachment-init : goal.loop-attachment-init
loop-attachment-init c = record { prefixes = λ k d h. absurd (omega arith); costs = λ k d h. absurd (omega arith) }

pub loop-attachment-preserved : goal.loop-attachment-preserved
loop-attachment-preserved c =
    let given = c.args.attachments.now in
    let here = c.attachment-item.result in
    record {
      prefixes = all_more (λ (a : Prefix × ℕ × ℕ). IsPrefix a.0) given c.loop-attachment.attachment-index here (omega arith) c.attachment-item.is c.len.ensures.valid c.loop-attachment.invariant.prefixes;
      costs = all_more (λ (a : Prefix × ℕ × ℕ). IsCost a.2) given c.loop-attachment.attachment-index here (omega arith) c.attachment-item.is (subst IsCost c.value.ensures.value c.value.ensures.cost) c.loop-attachment.invariant.costs;
    }

pub returns-clause-prefixes : goal.returns-clause-prefixes
returns-clause-prefixes c = λ k d below. c.loop-attachment.invariant.prefixes k d (omega arith)

pub returns-clause-costs : goal.returns-clause-costs
returns-clause-costs c = λ k d below. c.loop-attachment.invariant.costs k d (omega arith)
