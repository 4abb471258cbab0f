use Rattle.std.proofs.Common.{[], ◌∷◌, Some, codes, refl}
use Rattle.std.proofs.Output.{has_written_of_eq}
use Rattle.ipv4_prefix.specs.Texts.{prefix_text}
use Rattle.script.specs.Directories.{name_text}
use Rattle.lines.specs.{Formats.in_format, Texts.entry_text, Texts.state_text, Objects.entry_json, Objects.state_json}
use Rattle.lines.proofs.Joined.{told}
use Rattle.lines.proofs.states.ToldMachineLineDisplay.fmt.Goals as goal

pub returns-clause-writes : goal.returns-clause-writes
returns-clause-writes g c plain ok =
    let t = c.args.self.now in
    let d = t.0.directory.now in
    let line = t.1 in
    has_written_of_eq _ _ _ _ _ (told t.0.format (name_text d (Some line.router)) (λ f. codes " " ∷ prefix_text line.prefix ∷ codes " " ∷ in_format f (state_text line.at) (state_json line.at) ∷ codes " " ∷ in_format f (entry_text d line.router line.entry) (entry_json d line.router line.entry) ∷ [])
    (codes "{\"kind\":\"machine\",\"router\":\"") (λ f. name_text d (Some line.router) ∷ codes "\",\"prefix\":\"" ∷ prefix_text line.prefix ∷ codes "\"," ∷ in_format f (state_text line.at) (state_json line.at) ∷ codes "," ∷ in_format f (entry_text d line.router line.entry) (entry_json d line.router line.entry) ∷ codes "}" ∷ []) refl refl) (rw c.name-name.ensures at c.either.ensures plain ok)
