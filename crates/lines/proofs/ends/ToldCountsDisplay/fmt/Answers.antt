use Rattle.std.proofs.Common.{[], ◌∷◌, codes, decimal, refl}
use Rattle.std.proofs.Output.{has_written_of_eq}
use Rattle.lines.proofs.Joined.{told}
use Rattle.lines.proofs.ends.ToldCountsDisplay.fmt.Goals as goal

pub returns-clause-writes : goal.returns-clause-writes
returns-clause-writes g c plain ok =
    let t = c.args.self.now in
    let counts = t.1 in
    has_written_of_eq _ _ _ _ _ (told t.0.format (decimal counts.steps) (λ _. codes " steps, " ∷ decimal (counts.sent).updates ∷ codes " updates " ∷ decimal (counts.sent).queries ∷ codes " queries " ∷ decimal (counts.sent).replies ∷ codes " replies" ∷ [])
    (codes "\"steps\":") (λ _. decimal counts.steps ∷ codes ",\"updates\":" ∷ decimal (counts.sent).updates ∷ codes ",\"queries\":" ∷ decimal (counts.sent).queries ∷ codes ",\"replies\":" ∷ decimal (counts.sent).replies ∷ []) refl refl) (c.either.ensures plain ok)
