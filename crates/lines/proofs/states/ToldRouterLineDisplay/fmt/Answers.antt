use Rattle.std.proofs.Common.{[], ◌∷◌, Some, codes, decimal, refl}
use Rattle.std.proofs.Output.{has_written_of_eq}
use Rattle.script.specs.Directories.{name_text}
use Rattle.lines.proofs.Joined.{told}
use Rattle.lines.proofs.states.ToldRouterLineDisplay.fmt.Goals as goal

pub returns-clause-writes : goal.returns-clause-writes
returns-clause-writes g c plain ok =
    let t = c.args.self.now in
    let d = t.0.directory.now in
    let line = t.1 in
    has_written_of_eq _ _ _ _ _ (told t.0.format (name_text d (Some line.router)) (λ _. codes " gen " ∷ decimal (line.at).generation ∷ codes " held " ∷ decimal (line.at).held ∷ codes " ripe " ∷ decimal (line.at).ripe ∷ codes " attach " ∷ decimal (line.at).notices ∷ [])
    (codes "{\"kind\":\"router\",\"router\":\"") (λ _. name_text d (Some line.router) ∷ codes "\",\"generation\":" ∷ decimal (line.at).generation ∷ codes ",\"held\":" ∷ decimal (line.at).held ∷ codes ",\"ripe\":" ∷ decimal (line.at).ripe ∷ codes ",\"notices\":" ∷ decimal (line.at).notices ∷ codes "}" ∷ []) refl refl) (rw c.name-name.ensures at c.either.ensures plain ok)
