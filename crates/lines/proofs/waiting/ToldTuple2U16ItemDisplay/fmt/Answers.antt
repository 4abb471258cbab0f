use Rattle.std.proofs.Common.{[], ◌∷◌, codes, decimal, sym, ap}
use Rattle.std.proofs.Output.{has_written_of_eq}
use Rattle.lines.specs.{Texts.item_text, Objects.item_json}
use Rattle.lines.proofs.Joined.{told}
use Rattle.lines.proofs.waiting.ToldTuple2U16ItemDisplay.fmt.Goals as goal

pub returns-in-Up-clause-writes : goal.returns-in-Up-clause-writes
returns-in-Up-clause-writes g c plain ok =
    let t = c.args.self.now in
    has_written_of_eq _ _ _ _ _ (told t.0.format (codes "up cost ") (λ _. decimal c.in-Up.cost ∷ codes " session " ∷ decimal c.in-Up.session ∷ [])
    (codes "\"item\":\"up\",\"cost\":") (λ _. decimal c.in-Up.cost ∷ codes ",\"session\":" ∷ decimal c.in-Up.session ∷ []) (ap (item_text t.1.0) (sym c.in-Up.is)) (ap (item_json t.1.0) (sym c.in-Up.is))) (c.either.ensures plain ok)

pub returns-in-Cost-clause-writes : goal.returns-in-Cost-clause-writes
returns-in-Cost-clause-writes g c plain ok =
    let t = c.args.self.now in
    has_written_of_eq _ _ _ _ _ (told t.0.format (codes "cost ") (λ _. decimal c.in-Cost.cost ∷ codes " session " ∷ decimal c.in-Cost.session ∷ [])
    (codes "\"item\":\"cost\",\"cost\":") (λ _. decimal c.in-Cost.cost ∷ codes ",\"session\":" ∷ decimal c.in-Cost.session ∷ []) (ap (item_text t.1.0) (sym c.in-Cost.is)) (ap (item_json t.1.0) (sym c.in-Cost.is))) (c.either-in-Cost.ensures plain ok)
