use Rattle.std.proofs.Common.{◌≡◌, sym, subst, drop, slice_get}
use Rattle.timed_simulation.specs.{Timed.Timed, Next.KeepsMoments}
use Rattle.timed_simulation.proofs.Nexts.{kept_changes}
use Rattle.timed_simulation.proofs.timed.TimedSimulation.withdraw.Goals as goal

pub invariant_of-self : goal.invariant_of-self
invariant_of-self g c =
    subst (λ t. KeepsMoments t c.self.inside.minima) (sym c.withdraw.ensures.rest) (kept_changes c.self.inside.clocked c.self.inside.minima c.self.invariant (drop 1 (c.self.inside.clocked).changes))

pub returns-clause-change : goal.returns-clause-change
returns-clause-change g c = subst (λ (t : Timed). c.withdraw.result ≡ slice_get t.changes 0) c.self.view_is c.withdraw.ensures.change

pub returns-clause-rest : goal.returns-clause-rest
returns-clause-rest g c = subst (λ (t : Timed). c.withdraw.new.self ≡ record t { changes = drop 1 t.changes }) c.self.view_is c.withdraw.ensures.rest
