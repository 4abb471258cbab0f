use Rattle.std.proofs.Common.{◌∙◌, sym, ap, subst}
use Rattle.no_packet_loops.proofs.Common.{is_quiet, is_settled}
use Rattle.simulation.specs.{Headline.HasBestRows, Simulation.Simulation}
use Rattle.timed_simulation.specs.{Timed.world_of, Runs.steps_of, Runs.IsTimed}
use Rattle.timed_reports.proofs.AtRest.{none_computing, none_out}
use Rattle.timed_reports.proofs.nothing_goes_on.Goals as goal

pub returns-clause-ways : goal.returns-clause-ways
returns-clause-ways g c = λ rest p i.
    let kept : IsTimed c.args.timed.now = c.holds.ensures.timed in
    none_out (c.args.timed.now.simulation).network kept.valid (steps_of kept.done) (world_of c.args.timed.now) kept.runs p i
    (subst HasBestRows c.simulation.ensures (c.is_settled-settled.ensures.least_cost (c.is_settled-settled.ensures.settled ∙ ap (λ (s : Simulation). is_settled s.world) c.simulation.ensures ∙ rest.1)))

pub returns-clause-computations : goal.returns-clause-computations
returns-clause-computations g c = λ rest p i.
    let kept : IsTimed c.args.timed.now = c.holds.ensures.timed in
    none_computing (c.args.timed.now.simulation).network kept.valid (steps_of kept.done) (world_of c.args.timed.now) kept.runs p i
    (ap (λ (s : Simulation). is_quiet s.world) (sym c.simulation.ensures) ∙ sym c.is_settled-settled.ensures.quiet ∙ c.is_settled-settled.ensures.settled ∙ ap (λ (s : Simulation). is_settled s.world) c.simulation.ensures ∙ rest.1)
