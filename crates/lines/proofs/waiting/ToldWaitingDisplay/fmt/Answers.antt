use Rattle.std.proofs.Common.{[], ◌∷◌, Some, codes, sym, ap}
use Rattle.std.proofs.Output.{has_written_of_eq}
use Rattle.script.specs.Directories.{name_text, neighbour_at}
use Rattle.lines.specs.{Formats.in_format, Texts.item_text, Texts.message_text, Texts.notice_text, Texts.ripe_text, Texts.waiting_text, Objects.flag_json, Objects.item_json, Objects.message_json, Objects.notice_json, Objects.waiting_json}
use Rattle.lines.proofs.Joined.{told}
use Rattle.lines.proofs.waiting.ToldWaitingDisplay.fmt.Goals as goal

pub returns-in-Queued-clause-writes : goal.returns-in-Queued-clause-writes
returns-in-Queued-clause-writes g c plain ok =
    let t = c.args.self.now in
    let d = t.0.directory.now in
    has_written_of_eq _ _ _ _ _ (told t.0.format (codes "queue ") (λ f. name_text d (Some c.in-Queued.router) ∷ codes " from " ∷ name_text d (neighbour_at d c.in-Queued.router c.in-Queued.port) ∷ codes ": " ∷ in_format f (item_text c.in-Queued.session c.in-Queued.item) (item_json c.in-Queued.session c.in-Queued.item) ∷ [])
    (codes "{\"kind\":\"queued\",\"router\":\"") (λ f. name_text d (Some c.in-Queued.router) ∷ codes "\",\"neighbour\":\"" ∷ name_text d (neighbour_at d c.in-Queued.router c.in-Queued.port) ∷ codes "\"," ∷ in_format f (item_text c.in-Queued.session c.in-Queued.item) (item_json c.in-Queued.session c.in-Queued.item) ∷ codes "}" ∷ []) (ap (waiting_text d) (sym c.in-Queued.is)) (ap (waiting_json d) (sym c.in-Queued.is))) (rw (c.name-name.ensures, c.name-source.ensures, c.neighbour.ensures) at c.either.ensures plain ok)

pub returns-in-Noticed-clause-writes : goal.returns-in-Noticed-clause-writes
returns-in-Noticed-clause-writes g c plain ok =
    let t = c.args.self.now in
    let d = t.0.directory.now in
    has_written_of_eq _ _ _ _ _ (told t.0.format (codes "queue ") (λ f. name_text d (Some c.in-Noticed.router) ∷ codes " from " ∷ name_text d (Some c.in-Noticed.router) ∷ codes ": " ∷ in_format f (notice_text c.in-Noticed.notice) (notice_json c.in-Noticed.notice) ∷ [])
    (codes "{\"kind\":\"queued\",\"router\":\"") (λ f. name_text d (Some c.in-Noticed.router) ∷ codes "\",\"neighbour\":\"" ∷ name_text d (Some c.in-Noticed.router) ∷ codes "\"," ∷ in_format f (notice_text c.in-Noticed.notice) (notice_json c.in-Noticed.notice) ∷ codes "}" ∷ []) (ap (waiting_text d) (sym c.in-Noticed.is)) (ap (waiting_json d) (sym c.in-Noticed.is))) (rw c.name-name-in-Noticed.ensures at c.either-in-Noticed.ensures plain ok)

pub returns-in-Kept-clause-writes : goal.returns-in-Kept-clause-writes
returns-in-Kept-clause-writes g c plain ok =
    let t = c.args.self.now in
    let d = t.0.directory.now in
    has_written_of_eq _ _ _ _ _ (told t.0.format (codes "held ") (λ f. name_text d (Some c.in-Kept.router) ∷ codes " to " ∷ name_text d (neighbour_at d c.in-Kept.router c.in-Kept.held.port) ∷ codes ": " ∷ in_format f (message_text c.in-Kept.held.session c.in-Kept.held.message) (message_json c.in-Kept.held.session c.in-Kept.held.message) ∷ ripe_text c.in-Kept.ripe ∷ [])
    (codes "{\"kind\":\"held\",\"router\":\"") (λ f. name_text d (Some c.in-Kept.router) ∷ codes "\",\"neighbour\":\"" ∷ name_text d (neighbour_at d c.in-Kept.router c.in-Kept.held.port) ∷ codes "\"," ∷ in_format f (message_text c.in-Kept.held.session c.in-Kept.held.message) (message_json c.in-Kept.held.session c.in-Kept.held.message) ∷ codes ",\"ripe\":" ∷ flag_json c.in-Kept.ripe ∷ codes "}" ∷ []) (ap (waiting_text d) (sym c.in-Kept.is)) (ap (waiting_json d) (sym c.in-Kept.is))) (rw (c.name-name-in-Kept.ensures, c.name-across.ensures, c.neighbour-in-Kept.ensures, c.ripe_words-word.ensures) at c.either-in-Kept.ensures plain ok)
