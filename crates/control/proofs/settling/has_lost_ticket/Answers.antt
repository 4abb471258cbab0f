use Rattle.std.proofs.Common.{◌≢◌, ◌∙◌, Some, true≢false, sym, arith}
use Rattle.network_model.specs.declared.step.Refusal.TheVariants.{WrongTicket}
use Rattle.world.proofs.Elements.{all_more}
use Rattle.control.proofs.settling.has_lost_ticket.Goals as goal

pub loop-place-init : goal.loop-place-init
loop-place-init g c = λ k d below. absurd (omega arith)

pub loop-place-preserved : goal.loop-place-preserved
loop-place-preserved g c =
    all_more (λ s. s.halt ≢ Some WrongTicket) c.args.shares.now c.loop-place.place c.index-shares-place.result (omega arith) c.index-shares-place.is
    (λ lost. true≢false (sym (c.has_lost_ticket.ensures.lost.1 lost) ∙ c.if-has_lost_ticket.false)) c.loop-place.invariant

pub returns-clause-kept : goal.returns-clause-kept
returns-clause-kept g c = λ _ k d below. c.loop-place.invariant k d (omega arith)
