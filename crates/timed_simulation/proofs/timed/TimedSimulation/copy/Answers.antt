use Rattle.std.proofs.Common.{◌∙◌, subst, sym}
use Rattle.timed_simulation.specs.Next.{KeepsMoments}
use Rattle.timed_simulation.proofs.timed.TimedSimulation.copy.Goals as goal

pub invariant_of-result : goal.invariant_of-result
invariant_of-result g c =
    subst (λ ms. KeepsMoments c.in_ok-clocked.clocked ms) (sym c.in_ok-minima.ensures)
    (subst (λ t. KeepsMoments t c.self.inside.minima) (sym c.in_ok-clocked.ensures) c.self.invariant)

pub returns : goal.returns
returns g c = c.in_ok-clocked.ensures ∙ c.self.view_is
