use Rattle.std.proofs.Common.{ℕ, ◌≡◌, ◌≤◌, ◌<◌, ◌+◌, ◌*◌, ◌^◌, ◌∙◌, None, Some, IfSome, sym, subst}
use Rattle.network_model.specs.Journal.{journal_sum}
use Rattle.fabric.specs.Fabric.{Fabric, count_lent, next_fabric_step}
use Rattle.guarded.specs.Served.{IsServed}
use Rattle.guarded.proofs.guarded.Guarded.turn_from.Goals as goal

-- the fabric is what it was
pub invariant_of-self : goal.invariant_of-self
invariant_of-self g c =
    let s = c.self.inside in
    subst (λ (f : Fabric). (s.high.total * 2 ^ 64 + s.low.total ≡ journal_sum f.journal) × IsServed g.N.ControlName.opened g.N.ControlName.asked f × (count_lent f.lent ≤ g.N.ControlName.lent + s.out.total)) (sym c.turn_from.ensures.same) c.self.invariant

pub returns-clause-same : goal.returns-clause-same
returns-clause-same g c = c.turn_from.ensures.same ∙ c.self.view_is

pub returns-clause-some : goal.returns-clause-some
returns-clause-some g c = subst (λ (f : Fabric). IfSome c.turn_from.result (λ d. next_fabric_step f d.0 ≡ Some d.1)) c.self.view_is c.turn_from.ensures.some

pub returns-clause-none : goal.returns-clause-none
returns-clause-none g c = subst (λ (f : Fabric). c.turn_from.result ≡ None → (i : ℕ) → i < f.network.routers → next_fabric_step f i ≡ None) c.self.view_is c.turn_from.ensures.none
