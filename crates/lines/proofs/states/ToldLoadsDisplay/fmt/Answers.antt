use Rattle.std.proofs.Common.{[], ◌∷◌, codes, decimal, refl}
use Rattle.std.proofs.Output.{has_written_of_eq}
use Rattle.lines.proofs.Joined.{told}
use Rattle.lines.proofs.states.ToldLoadsDisplay.fmt.Goals as goal

pub returns-clause-writes : goal.returns-clause-writes
returns-clause-writes g c plain ok =
    let t = c.args.self.now in
    let line = t.1.0 in
    has_written_of_eq _ _ _ _ _ (told t.0.format (decimal (line.at).from_a) (λ _. codes " " ∷ decimal (line.at).from_b ∷ codes " queued " ∷ decimal line.queued_a ∷ codes " " ∷ decimal line.queued_b ∷ [])
    (codes "\"costs\":[") (λ _. decimal (line.at).from_a ∷ codes "," ∷ decimal (line.at).from_b ∷ codes "],\"queued\":[" ∷ decimal line.queued_a ∷ codes "," ∷ decimal line.queued_b ∷ codes "]" ∷ []) refl refl) (c.either.ensures plain ok)
