use Rattle.std.proofs.Common.{[], ◌∷◌, ◌++◌, if◌then◌else◌, codes, decimal, sym, ap}
use Rattle.std.proofs.Output.{has_written_of_eq}
use Rattle.metric.specs.Distance.{distance_text}
use Rattle.lines.specs.{Formats.in_format, Objects.distance_json}
use Rattle.lines.proofs.Joined.{told}
use Rattle.lines.proofs.reasons.ToldNeighbourDisplay.fmt.Goals as goal

pub returns-then-known-clause-writes : goal.returns-then-known-clause-writes
returns-then-known-clause-writes g c plain ok =
    let t = c.args.self.now in
    let known = t.1 in
    has_written_of_eq _ _ _ _ _ (told t.0.format (codes "up, cost ") (λ f. decimal known.cost ∷ codes ", reported " ∷ in_format f (distance_text known.reported) (distance_json known.reported) ∷ [])
    (codes "true,\"cost\":") (λ f. decimal known.cost ∷ codes ",\"reported\":" ∷ in_format f (distance_text known.reported) (distance_json known.reported) ∷ [])
    (ap (λ up. if up then codes "up, cost " ++ decimal known.cost ++ codes ", reported " ++ distance_text known.reported else codes "down") (sym c.if-known.true))
    (ap (λ up. if up then codes "true,\"cost\":" ++ decimal known.cost ++ codes ",\"reported\":" ++ distance_json known.reported else codes "false") (sym c.if-known.true))) (c.either.ensures plain ok)
