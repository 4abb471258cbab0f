use Rattle.std.proofs.Common.{sym, ap, ◌∙◌, ℕ, Option}
use Rattle.timed_simulation.specs.Next.{looked_if}
use Rattle.timed_simulation.proofs.again.look_if.Goals as goal

pub returns-clause-looked : goal.returns-clause-looked
returns-clause-looked g c = c.look_at.ensures.looked ∙ sym (ap (λ (o : Option ℕ). looked_if c.args.clocked.now o c.args.minima.now) c.in-Some.is)
