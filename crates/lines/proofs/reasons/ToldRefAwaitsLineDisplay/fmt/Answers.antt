use Rattle.std.proofs.Common.{[], ◌∷◌, Some, codes, refl}
use Rattle.std.proofs.Output.{has_written_of_eq}
use Rattle.ipv4_prefix.specs.Texts.{prefix_text}
use Rattle.script.specs.Directories.{name_text}
use Rattle.lines.specs.{Texts.each_name, Objects.names_json}
use Rattle.lines.proofs.Joined.{told}
use Rattle.lines.proofs.reasons.ToldRefAwaitsLineDisplay.fmt.Goals as goal

pub returns-clause-writes : goal.returns-clause-writes
returns-clause-writes g c plain ok =
    let t = c.args.self.now in
    let d = t.0.directory.now in
    let line = t.1.now in
    has_written_of_eq _ _ _ _ _ (told t.0.format (codes "  awaits the reply of") (λ _. each_name d (codes " ") [] (line.neighbours).now ∷ [])
    (codes "{\"kind\":\"awaits\",\"router\":\"") (λ _. name_text d (Some line.router) ∷ codes "\",\"prefix\":\"" ∷ prefix_text line.prefix ∷ codes "\",\"neighbours\":[" ∷ names_json d (line.neighbours).now ∷ codes "]}" ∷ []) refl refl) (rw c.name-name.ensures at c.either.ensures plain ok)
