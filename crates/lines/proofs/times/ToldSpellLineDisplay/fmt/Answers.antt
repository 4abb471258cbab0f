use Rattle.std.proofs.Common.{[], ◌∷◌, Some, codes, decimal, refl}
use Rattle.std.proofs.Output.{has_written_of_eq}
use Rattle.ipv4_prefix.specs.Texts.{prefix_text}
use Rattle.script.specs.Directories.{name_text}
use Rattle.lines.specs.{Texts.spell_word}
use Rattle.lines.proofs.Joined.{told}
use Rattle.lines.proofs.times.ToldSpellLineDisplay.fmt.Goals as goal

pub returns-clause-writes : goal.returns-clause-writes
returns-clause-writes g c plain ok =
    let t = c.args.self.now in
    let d = t.0.directory.now in
    let line = t.1 in
    has_written_of_eq _ _ _ _ _ (told t.0.format (codes "  ") (λ _. spell_word line.outage ∷ codes " at " ∷ name_text d (Some line.router) ∷ codes " for " ∷ prefix_text line.prefix ∷ codes " from " ∷ decimal line.from ∷ codes " to " ∷ decimal line.to ∷ [])
    (codes "{\"kind\":\"") (λ _. spell_word line.outage ∷ codes "\",\"router\":\"" ∷ name_text d (Some line.router) ∷ codes "\",\"prefix\":\"" ∷ prefix_text line.prefix ∷ codes "\",\"from\":" ∷ decimal line.from ∷ codes ",\"to\":" ∷ decimal line.to ∷ codes "}" ∷ []) refl refl) (rw (c.spell_words-kind.ensures, c.name-name.ensures) at c.either.ensures plain ok)
