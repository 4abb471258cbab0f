use Rattle.std.proofs.Common.{[], ◌∷◌, codes, decimal, refl}
use Rattle.std.proofs.Output.{has_written_of_eq}
use Rattle.journal.specs.Steps.{step_text}
use Rattle.lines.specs.{Formats.in_format, Texts.came_text, Objects.came_json}
use Rattle.lines.proofs.Joined.{told}
use Rattle.lines.proofs.times.ToldRefChangeLineDisplay.fmt.Goals as goal

pub returns-clause-writes : goal.returns-clause-writes
returns-clause-writes g c plain ok =
    let t = c.args.self.now in
    let d = t.0.directory.now in
    let line = t.1.now in
    has_written_of_eq _ _ _ _ _ (told t.0.format (decimal line.moment) (λ f. codes " " ∷ step_text d (line.links).now line.step ∷ codes ": " ∷ in_format f (came_text line.came) (came_json line.came) ∷ [])
    (codes "{\"kind\":\"change\",\"moment\":") (λ f. decimal line.moment ∷ codes ",\"step\":\"" ∷ step_text d (line.links).now line.step ∷ codes "\"," ∷ in_format f (came_text line.came) (came_json line.came) ∷ codes "}" ∷ []) refl refl) (c.either.ensures plain ok)
