use Rattle.std.proofs.Common.{◌≡◌, ℕ, ◌-◌, ◌*◌, ◌%◌, ◌^◌, not, ◌==◌, ◌&&◌, ap, sym, ◌∙◌, arith}
use Rattle.std.proofs.lemmas.Nat.{and_le_l}
use Rattle.std.specs.FinSet as set
use Rattle.diffusing_replies.specs.Ports.{Ports, is_set, contains-ports_of}
use Rattle.diffusing_replies.proofs.Masks.{is_set-without}
use Rattle.diffusing_replies.proofs.port_set.PortSet.without.Goals as goal

pub returns : goal.returns
returns c = λ q.
    let mask = c.self.inside.mask in
    let same : (q : ℕ) → is_set mask q ≡ set.contains c.args.self q = λ q. sym (contains-ports_of mask c.self.invariant q) ∙ ap (λ (s : Ports). set.contains s q) c.self.view_is in
    contains-ports_of _ (omega (arith, c.self.invariant, and_le_l mask (4294967295 - 1 * 2 ^ c.args.port % 4294967296))) q ∙ is_set-without mask c.args.port q c.self.invariant (omega arith) ∙ ap (λ b. b && not (q == c.args.port)) (same q)
