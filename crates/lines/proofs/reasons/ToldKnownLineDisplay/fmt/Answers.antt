use Rattle.std.proofs.Common.{[], ◌∷◌, Some, codes, decimal, sym, ap}
use Rattle.std.proofs.Output.{has_written_of_eq}
use Rattle.ipv4_prefix.specs.Texts.{prefix_text}
use Rattle.script.specs.Directories.{name_text}
use Rattle.lines.specs.{Formats.in_format, Texts.known_text, Texts.over_link_text, Texts.owed_text, Objects.known_json, Objects.over_link_json, Objects.router_name_json}
use Rattle.lines.proofs.Joined.{told}
use Rattle.lines.proofs.reasons.ToldKnownLineDisplay.fmt.Goals as goal

pub returns-in-Owes-clause-writes : goal.returns-in-Owes-clause-writes
returns-in-Owes-clause-writes g c plain ok =
    let t = c.args.self.now in
    let d = t.0.directory.now in
    let line = t.1 in
    has_written_of_eq _ _ _ _ _ (told t.0.format [] (λ f. in_format f (owed_text d c.in-Owes.neighbour) (router_name_json d c.in-Owes.neighbour) ∷ [])
    (codes "{\"kind\":\"owes\",\"router\":\"") (λ f. name_text d (Some line.router) ∷ codes "\",\"prefix\":\"" ∷ prefix_text line.prefix ∷ codes "\",\"neighbour\":" ∷ in_format f (owed_text d c.in-Owes.neighbour) (router_name_json d c.in-Owes.neighbour) ∷ codes "}" ∷ []) (ap (known_text d) (sym c.in-Owes.is)) (ap (known_json d line.router line.prefix) (sym c.in-Owes.is))) (rw c.name-name.ensures at c.either.ensures plain ok)

pub returns-in-Attached-clause-writes : goal.returns-in-Attached-clause-writes
returns-in-Attached-clause-writes g c plain ok =
    let t = c.args.self.now in
    let d = t.0.directory.now in
    let line = t.1 in
    has_written_of_eq _ _ _ _ _ (told t.0.format (codes "  attached, cost ") (λ _. decimal c.in-Attached.cost ∷ [])
    (codes "{\"kind\":\"attached\",\"router\":\"") (λ _. name_text d (Some line.router) ∷ codes "\",\"prefix\":\"" ∷ prefix_text line.prefix ∷ codes "\",\"cost\":" ∷ decimal c.in-Attached.cost ∷ codes "}" ∷ []) (ap (known_text d) (sym c.in-Attached.is)) (ap (known_json d line.router line.prefix) (sym c.in-Attached.is))) (rw c.name-name.ensures at c.either-in-Attached.ensures plain ok)

pub returns-in-AtNeighbour-clause-writes : goal.returns-in-AtNeighbour-clause-writes
returns-in-AtNeighbour-clause-writes g c plain ok =
    let t = c.args.self.now in
    let d = t.0.directory.now in
    let line = t.1 in
    has_written_of_eq _ _ _ _ _ (told t.0.format (codes "  ") (λ f. name_text d c.in-AtNeighbour.neighbour ∷ codes ": " ∷ in_format f (over_link_text c.in-AtNeighbour.known) (over_link_json c.in-AtNeighbour.known) ∷ [])
    (codes "{\"kind\":\"neighbour\",\"router\":\"") (λ f. name_text d (Some line.router) ∷ codes "\",\"prefix\":\"" ∷ prefix_text line.prefix ∷ codes "\",\"neighbour\":" ∷ in_format f (owed_text d c.in-AtNeighbour.neighbour) (router_name_json d c.in-AtNeighbour.neighbour) ∷ codes ",\"up\":" ∷ in_format f (over_link_text c.in-AtNeighbour.known) (over_link_json c.in-AtNeighbour.known) ∷ codes "}" ∷ []) (ap (known_text d) (sym c.in-AtNeighbour.is)) (ap (known_json d line.router line.prefix) (sym c.in-AtNeighbour.is))) (rw (c.name-name.ensures, c.name-across.ensures) at c.either-in-AtNeighbour.ensures plain ok)
