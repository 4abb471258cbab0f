use Rattle.std.proofs.Common.{[], ◌∷◌, codes, decimal, sym, ap}
use Rattle.std.proofs.Output.{has_written_of_eq}
use Rattle.ipv4_prefix.specs.Texts.{prefix_text}
use Rattle.lines.specs.{Texts.attachment_text, Objects.attachment_json}
use Rattle.lines.proofs.Joined.{told}
use Rattle.lines.proofs.waiting.ToldNoticeDisplay.fmt.Goals as goal

pub returns-in-Some-clause-writes : goal.returns-in-Some-clause-writes
returns-in-Some-clause-writes g c plain ok =
    let t = c.args.self.now in
    let notice = t.1 in
    has_written_of_eq _ _ _ _ _ (told t.0.format (codes "attached ") (λ _. prefix_text notice.prefix ∷ codes " cost " ∷ decimal c.in-Some.cost ∷ [])
    (codes "\"item\":\"attached\",\"prefix\":\"") (λ _. prefix_text notice.prefix ∷ codes "\",\"cost\":" ∷ decimal c.in-Some.cost ∷ []) (ap (attachment_text notice.prefix) (sym c.in-Some.is)) (ap (attachment_json notice.prefix) (sym c.in-Some.is))) (c.either.ensures plain ok)
