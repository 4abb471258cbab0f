use Rattle.std.proofs.Common.{[], ◌∷◌, Some, codes, refl}
use Rattle.std.proofs.Output.{has_written_of_eq}
use Rattle.ipv4_prefix.specs.Texts.{address_text}
use Rattle.script.specs.Directories.{name_text}
use Rattle.lines.specs.{Texts.each_name, Texts.end_text, Texts.through_text, Objects.names_json, Objects.through_json}
use Rattle.lines.proofs.Joined.{told}
use Rattle.lines.proofs.answers.ToldRefTraceLineDisplay.fmt.Goals as goal

pub returns-clause-writes : goal.returns-clause-writes
returns-clause-writes g c plain ok =
    let t = c.args.self.now in
    let d = t.0.directory.now in
    let line = t.1.now in
    has_written_of_eq _ _ _ _ _ (told t.0.format (codes "trace ") (λ _. name_text d (Some line.router) ∷ codes " " ∷ address_text line.addr ∷ through_text line.through ∷ codes ": " ∷ each_name d [] (codes " ") (line.path).now ∷ end_text line.end ∷ [])
    (codes "{\"kind\":\"trace\",\"router\":\"") (λ _. name_text d (Some line.router) ∷ codes "\",\"address\":\"" ∷ address_text line.addr ∷ codes "\"," ∷ through_json line.through ∷ codes "\"path\":[" ∷ names_json d (line.path).now ∷ codes "],\"end\":\"" ∷ end_text line.end ∷ codes "\"}" ∷ []) refl refl) (rw (c.name-name.ensures, c.through_words-option.ensures, c.through_member-member.ensures, c.end_words-end.ensures) at c.either.ensures plain ok)
