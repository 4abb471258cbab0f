use Rattle.std.proofs.Common.{sym, ap, ◌∙◌, ℕ, Option}
use Rattle.timed_simulation.specs.Next.{looked_at, looked_ends}
use Rattle.timed_simulation.proofs.again.look_at_ends.Goals as goal

pub returns-clause-looked : goal.returns-clause-looked
returns-clause-looked g c =
    c.look_at-2.ensures.looked ∙ ap (looked_at c.args.clocked.now c.in-Some.ends.1) c.look_at.ensures.looked
    ∙ sym (ap (λ (o : Option (ℕ × ℕ)). looked_ends c.args.clocked.now o c.args.minima.now) c.in-Some.is)
