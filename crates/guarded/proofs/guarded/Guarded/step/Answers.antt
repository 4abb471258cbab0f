use Rattle.std.proofs.Common.{◌≡◌, ◌+◌, refl, ap, sym, subst, ◌∙◌, arith, rules}
use Rattle.network_model.proofs.Common.{sum_by_push, journal_sum, step_number}
use Rattle.fabric.specs.Fabric.{Fabric, count_lent}
use Rattle.guarded.specs.Served.{IsTurnAt}
use Rattle.guarded.proofs.Served.{done_free, served_next}
use Rattle.guarded.proofs.guarded.Guarded.step.Goals as goal

pub invariant_of-self-2 : goal.invariant_of-self-2
invariant_of-self-2 g c =
    let ok = c.in_ok-step.ensures.ok in
    let before = c.self.invariant.0 in
    let more : journal_sum c.step.new.self.journal ≡ journal_sum c.self.inside.fabric.journal + step_number c.args.step
    = ap (λ (f : Fabric). journal_sum f.journal) ok.1 ∙ sum_by_push step_number c.self.inside.fabric.journal c.args.step in
    let number = c.number-number.ensures.number in (
      omega (arith, more, before, number, c.add.ensures.total, c.add-2.ensures.total, c.audit.ensures.total, c.audit-2.ensures.total),
      served_next g.N.ControlName.opened g.N.ControlName.asked c.self.inside.fabric c.self.inside.fabric c.step.new.self c.args.step c.self.invariant.1 refl refl refl c.self.invariant.1.stays (λ i lent. lent)
          (done_free c.self.inside.fabric c.args.step _ c.in_ok-step.ensures.cause)
          (subst (λ (f : Fabric). IsTurnAt g.N.ControlName.asked f.world c.args.step) (sym c.self.view_is) c.requires) ok.0 c.number-number.ensures.fits ok.1,
      (let lent = ap (λ (f : Fabric). count_lent f.lent) ok.1 in let before = c.self.invariant.2 in omega (arith, lent, before)),
    )

pub returns-in_err-step-clause-ok : goal.returns-in_err-step-clause-ok
returns-in_err-step-clause-ok g c = search rules

pub returns-in_err-step-clause-cause : goal.returns-in_err-step-clause-cause
returns-in_err-step-clause-cause g c = search rules

pub returns-clause-ok : goal.returns-clause-ok
returns-clause-ok g c = search rules

pub returns-clause-cause : goal.returns-clause-cause
returns-clause-cause g c = search rules
