use Rattle.std.proofs.Common.{[], ◌∷◌, Some, codes, refl}
use Rattle.std.proofs.Output.{has_written_of_eq}
use Rattle.ipv4_prefix.specs.Texts.{prefix_text}
use Rattle.script.specs.Directories.{name_text}
use Rattle.lines.proofs.Joined.{told}
use Rattle.lines.proofs.states.ToldTuple2U16PrefixDisplay.fmt.Goals as goal

pub returns-clause-writes : goal.returns-clause-writes
returns-clause-writes g c plain ok =
    let t = c.args.self.now in
    let d = t.0.directory.now in
    has_written_of_eq _ _ _ _ _ (told t.0.format (name_text d (Some t.1.0)) (λ _. codes " " ∷ prefix_text t.1.1 ∷ codes " unheard" ∷ [])
    (codes "{\"kind\":\"unheard\",\"router\":\"") (λ _. name_text d (Some t.1.0) ∷ codes "\",\"prefix\":\"" ∷ prefix_text t.1.1 ∷ codes "\"}" ∷ []) refl refl) (rw c.name-name.ensures at c.either.ensures plain ok)
