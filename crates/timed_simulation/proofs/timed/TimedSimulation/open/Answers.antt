use Rattle.std.proofs.Common.{◌∙◌, ap, sym, subst, None, replicate}
use Rattle.timed_simulation.specs.Next.{KeepsMoments}
use Rattle.timed_simulation.proofs.Nexts.{opened}
use Rattle.timed_simulation.proofs.timed.TimedSimulation.open.Goals as goal

pub invariant_of-result : goal.invariant_of-result
invariant_of-result g c =
    subst (λ ms. KeepsMoments c.in_ok-clocked.clocked ms) (sym (c.in_ok-minima.ensures ∙ ap (λ n. replicate n None) c.routers.ensures.number))
    (subst (λ t. KeepsMoments t (replicate (c.args.network).routers None)) (sym c.in_ok-clocked.ensures)
    (opened c.args.network c.routers.ensures.valid c.args.links.now c.args.routers.now c.requires.each_link c.requires.each_router))
