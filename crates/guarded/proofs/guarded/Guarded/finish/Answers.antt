use Rattle.std.proofs.Common.{◌≡◌, ◌∙◌, ◌+◌, None, true, false, ap, refl, subst, sym, arith, MatchBool, rules}
use Rattle.network_model.proofs.Common.{sum_by_push, Lawful, Fits, journal_sum, step_number}
use Rattle.network_model.specs.declared.step.Step.TheVariants.{Publish}
use Rattle.publication.specs.Outings.{Outing}
use Rattle.fabric.specs.Fabric.{Fabric, after_step, count_lent, is_lent, with_lent}
use Rattle.guarded.proofs.{WritersOut.count_in, Served.served_published, Served.served_unpublished}
use Rattle.guarded.specs.Served.{IsServed}
use Rattle.guarded.proofs.guarded.Guarded.finish.Goals as goal
use Rattle.guarded.proofs.guarded.Guarded.finish.Goals.{then-published, else-published}

pub invariant_of-self-2 : goal.invariant_of-self-2
invariant_of-self-2 g c =
    let s = c.self.inside in
    let t = c.into_ticket-ticket.result in
    let i = t.before.router in
    let own : is_lent g.N.ControlName.opened i ≡ false = subst (λ (o : Outing). is_lent g.N.ControlName.opened o.before.router ≡ false) (sym c.into_ticket-ticket.ensures.ticket) c.into_ticket-ticket.ensures.was_in in
    let back = c.in_ok-give_back.ensures in
    let fewer = count_in s.fabric.lent i t.patch (back.its.0 refl) in
    let before = c.self.invariant.0 in
    let bound = c.self.invariant.2 in
    elim c.if-published.branch [
      | then-published w ↦
          let published : t.is_published ≡ true = sym c.is_published-published.ensures ∙ w.if-published.true in
          let done : Lawful s.fabric.world (Publish i) × (c.give_back.new.self ≡ after_step (with_lent s.fabric i None) (Publish i))
          = subst (λ b. MatchBool b (Lawful s.fabric.world (Publish i) × (c.give_back.new.self ≡ after_step (with_lent s.fabric i None) (Publish i))) (c.give_back.new.self ≡ with_lent s.fabric i None)) published back.done in
          let more : journal_sum c.give_back.new.self.journal ≡ journal_sum s.fabric.journal + step_number (Publish i)
          = ap (λ (f : Fabric). journal_sum f.journal) done.1 ∙ sum_by_push step_number s.fabric.journal (Publish i) in
          let number : c.number-number.result ≡ step_number (Publish i) = c.number-number.ensures.number ∙ ap (λ k. step_number (Publish k)) c.router-router.ensures in
          let fits : Fits (Publish i) = subst (λ k. Fits (Publish k)) c.router-router.ensures c.number-number.ensures.fits in
          let high = ap (λ x. x.high.total) w.self-inside-is in
          let low = ap (λ x. x.low.total) w.self-inside-is in
          let now = ap (λ x. journal_sum x.fabric.journal) w.self-inside-is in (
            omega (arith, more, before, number, high, low, now, w.add.ensures.total, w.add-then-published.ensures.total, c.audit.ensures.total, c.audit-2.ensures.total),
            subst (IsServed g.N.ControlName.opened g.N.ControlName.asked) (sym (ap (λ x. x.fabric) w.self-inside-is))
                (served_published g.N.ControlName.opened g.N.ControlName.asked s.fabric c.give_back.new.self i t.patch c.self.invariant.1 own (back.its.0 refl) done.0 fits done.1),
            (let out = ap (λ x. x.out.total) w.self-inside-is in
                let held = ap (λ x. count_lent x.fabric.lent) w.self-inside-is in
                let lent = ap (λ (f : Fabric). count_lent f.lent) done.1 in
                omega (arith, fewer, bound, out, held, lent, c.sub.ensures.total)),
          )
      | else-published w ↦
          let not_yet : t.is_published ≡ false = sym c.is_published-published.ensures ∙ w.if-published.false in
          let same : c.give_back.new.self ≡ with_lent s.fabric i None
          = subst (λ b. MatchBool b (Lawful s.fabric.world (Publish i) × (c.give_back.new.self ≡ after_step (with_lent s.fabric i None) (Publish i))) (c.give_back.new.self ≡ with_lent s.fabric i None)) not_yet back.done in
          let journal : journal_sum c.give_back.new.self.journal ≡ journal_sum s.fabric.journal = ap (λ (f : Fabric). journal_sum f.journal) same in
          let high = ap (λ x. x.high.total) w.self-inside-is in
          let low = ap (λ x. x.low.total) w.self-inside-is in
          let now = ap (λ x. journal_sum x.fabric.journal) w.self-inside-is in (
            omega (arith, journal, before, high, low, now, c.audit.ensures.total, c.audit-2.ensures.total),
            subst (IsServed g.N.ControlName.opened g.N.ControlName.asked) (sym (ap (λ x. x.fabric) w.self-inside-is))
                (served_unpublished g.N.ControlName.opened g.N.ControlName.asked s.fabric c.give_back.new.self i c.self.invariant.1 own same),
            (let out = ap (λ x. x.out.total) w.self-inside-is in
                let held = ap (λ x. count_lent x.fabric.lent) w.self-inside-is in
                let lent = ap (λ (f : Fabric). count_lent f.lent) same in
                omega (arith, fewer, bound, out, held, lent, c.sub.ensures.total)),
          )
    ]

pub invariant_of-share : goal.invariant_of-share
invariant_of-share g c = search rules

pub invariant_of-self : goal.invariant_of-self
invariant_of-self g c = search rules

pub returns-in_err-give_back-clause-sum : goal.returns-in_err-give_back-clause-sum
returns-in_err-give_back-clause-sum g c = search rules

pub invariant_of-share-then-published : goal.invariant_of-share-then-published
invariant_of-share-then-published g c = search rules

pub invariant_of-share-else-published : goal.invariant_of-share-else-published
invariant_of-share-else-published g c = search rules

pub returns-clause-sum : goal.returns-clause-sum
returns-clause-sum g c = search rules
