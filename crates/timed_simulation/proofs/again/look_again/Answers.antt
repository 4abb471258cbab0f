use Rattle.std.proofs.Common.{ap, ◌∙◌, ℕ, Option}
use Rattle.network_model.specs.World.{Network}
use Rattle.simulation.specs.Simulation.{Simulation}
use Rattle.timed_simulation.specs.Next.{ends_of, looked_ends, looked_if, owner_of}
use Rattle.timed_simulation.proofs.again.look_again.Goals as goal

pub returns : goal.returns
returns g c =
    let t = c.args.clocked.now in
    let x = c.args.touched in
    let ms = c.args.minima.now in
    c.look_at_ends.ensures.looked
    ∙ ap (looked_ends t c.touched_ends-ends.result) (c.look_if.ensures.looked ∙ ap (λ (o : Option ℕ). looked_if t o ms) c.touched_owner.ensures)
    ∙ ap (λ (o : Option (ℕ × ℕ)). looked_ends t o (looked_if t (owner_of x) ms)) (c.touched_ends-ends.ensures ∙ ap (λ (n : Network). ends_of n x) (c.network.ensures ∙ ap (λ (s : Simulation). s.network) c.simulation.ensures))
