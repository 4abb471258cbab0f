use Rattle.std.proofs.Common.{[], ◌∷◌, Some, codes, decimal, sym, ap}
use Rattle.std.proofs.Output.{has_written_of_eq}
use Rattle.script.specs.Directories.{name_text}
use Rattle.lines.specs.{Formats.in_format, Texts.asked_text, Texts.answer_text, Texts.found_text, Objects.answer_json, Objects.asked_json, Objects.found_json}
use Rattle.lines.proofs.Joined.{told}
use Rattle.lines.proofs.answers.ToldAskedDisplay.fmt.Goals as goal

pub returns-in-Row-clause-writes : goal.returns-in-Row-clause-writes
returns-in-Row-clause-writes g c plain ok =
    let t = c.args.self.now in
    let d = t.0.directory.now in
    has_written_of_eq _ _ _ _ _ (told t.0.format (name_text d (Some c.in-Row.router)) (λ f. codes " " ∷ in_format f (found_text d c.in-Row.router (Some (c.in-Row.prefix, c.in-Row.entry))) (found_json d c.in-Row.router (Some (c.in-Row.prefix, c.in-Row.entry))) ∷ [])
    (codes "{\"kind\":\"row\",\"router\":\"") (λ f. name_text d (Some c.in-Row.router) ∷ codes "\"," ∷ in_format f (found_text d c.in-Row.router (Some (c.in-Row.prefix, c.in-Row.entry))) (found_json d c.in-Row.router (Some (c.in-Row.prefix, c.in-Row.entry))) ∷ codes "}" ∷ []) (ap (asked_text d) (sym c.in-Row.is)) (ap (asked_json d) (sym c.in-Row.is))) (rw c.name-name.ensures at c.either.ensures plain ok)

pub returns-in-Packet-clause-writes : goal.returns-in-Packet-clause-writes
returns-in-Packet-clause-writes g c plain ok =
    let t = c.args.self.now in
    let d = t.0.directory.now in
    has_written_of_eq _ _ _ _ _ (told t.0.format (codes "packet ") (λ f. decimal c.in-Packet.number ∷ codes " " ∷ in_format f (answer_text d c.in-Packet.answer) (answer_json d c.in-Packet.answer) ∷ [])
    (codes "{\"kind\":\"packet\",\"job\":") (λ f. decimal c.in-Packet.number ∷ codes "," ∷ in_format f (answer_text d c.in-Packet.answer) (answer_json d c.in-Packet.answer) ∷ codes "}" ∷ []) (ap (asked_text d) (sym c.in-Packet.is)) (ap (asked_json d) (sym c.in-Packet.is))) (c.either-in-Packet.ensures plain ok)
