use Rattle.std.proofs.Common.{[], ◌∷◌, Some, codes, decimal, refl}
use Rattle.std.proofs.Output.{has_written_of_eq}
use Rattle.script.specs.Directories.{name_text}
use Rattle.lines.specs.{Formats.in_format, Texts.loads_text, Texts.up_text, Objects.flag_json, Objects.loads_json}
use Rattle.lines.proofs.Joined.{told}
use Rattle.lines.proofs.states.ToldLinkLineDisplay.fmt.Goals as goal

pub returns-clause-writes : goal.returns-clause-writes
returns-clause-writes g c plain ok =
    let t = c.args.self.now in
    let d = t.0.directory.now in
    let line = t.1 in
    has_written_of_eq _ _ _ _ _ (told t.0.format (codes "link ") (λ f. name_text d (Some line.a) ∷ codes " " ∷ name_text d (Some line.b) ∷ codes " " ∷ up_text (line.at).up ∷ codes " " ∷ decimal (line.at).session ∷ codes " " ∷ in_format f (loads_text line) (loads_json line) ∷ [])
    (codes "{\"kind\":\"link\",\"a\":\"") (λ f. name_text d (Some line.a) ∷ codes "\",\"b\":\"" ∷ name_text d (Some line.b) ∷ codes "\",\"up\":" ∷ flag_json (line.at).up ∷ codes ",\"session\":" ∷ decimal (line.at).session ∷ codes "," ∷ in_format f (loads_text line) (loads_json line) ∷ codes "}" ∷ []) refl refl) (rw (c.name-a.ensures, c.name-b.ensures, c.up_words-word.ensures) at c.either.ensures plain ok)
