use Rattle.std.proofs.Common.{[], ◌∷◌, codes, decimal, refl}
use Rattle.std.proofs.Output.{has_written_of_eq}
use Rattle.ipv4_prefix.specs.Texts.{prefix_text}
use Rattle.metric.specs.Distance.{distance_text}
use Rattle.lines.specs.{Formats.in_format, Texts.kind_text, Objects.distance_json}
use Rattle.lines.proofs.Joined.{told}
use Rattle.lines.proofs.waiting.ToldTuple2U16MessageDisplay.fmt.Goals as goal

pub returns-clause-writes : goal.returns-clause-writes
returns-clause-writes g c plain ok =
    let t = c.args.self.now in
    let message = t.1.1 in
    has_written_of_eq _ _ _ _ _ (told t.0.format (kind_text message.kind) (λ f. codes " " ∷ prefix_text message.prefix ∷ codes " RD " ∷ in_format f (distance_text message.value) (distance_json message.value) ∷ codes " session " ∷ decimal t.1.0 ∷ [])
    (codes "\"item\":\"") (λ f. kind_text message.kind ∷ codes "\",\"prefix\":\"" ∷ prefix_text message.prefix ∷ codes "\",\"rd\":" ∷ in_format f (distance_text message.value) (distance_json message.value) ∷ codes ",\"session\":" ∷ decimal t.1.0 ∷ []) refl refl) (rw c.kind_words-kind.ensures at c.either.ensures plain ok)
