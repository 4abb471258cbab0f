use Rattle.std.proofs.Common.{◌≡◌, ℕ, ◌==◌, ◌||◌, ap, sym, ◌∙◌, arith}
use Rattle.std.proofs.lemmas.Nat.{or_of_32}
use Rattle.std.specs.FinSet as set
use Rattle.diffusing_replies.specs.Ports.{Ports, is_set, contains-ports_of}
use Rattle.diffusing_replies.proofs.Masks.{is_set-with}
use Rattle.diffusing_replies.proofs.port_set.PortSet.with.Goals as goal

pub returns : goal.returns
returns c = λ q.
    let mask = c.self.inside.mask in
    let same : (q : ℕ) → is_set mask q ≡ set.contains c.args.self q = λ q. sym (contains-ports_of mask c.self.invariant q) ∙ ap (λ (s : Ports). set.contains s q) c.self.view_is in
    contains-ports_of _ (or_of_32 mask _ c.self.invariant (omega arith)) q ∙ is_set-with mask c.args.port q (omega arith) ∙ ap (λ b. q == c.args.port || b) (same q)
