use Rattle.std.proofs.Common.{◌≡◌, ℕ, ◌==◌, ap, sym, ◌∙◌, le-ltb}
use Rattle.std.proofs.lemmas.Nat.Bits.{shr_and_one}
use Rattle.std.specs.FinSet as set
use Rattle.diffusing_replies.specs.Ports.{Ports, is_set, contains-ports_of}
use Rattle.diffusing_replies.proofs.Masks.{is_set-above}
use Rattle.diffusing_replies.proofs.port_set.PortSet.has.Goals as goal

pub returns-then-port-lt32-clause-value : goal.returns-then-port-lt32-clause-value
returns-then-port-lt32-clause-value c =
    let mask = c.self.inside.mask in
    let same : (q : ℕ) → is_set mask q ≡ set.contains c.args.self q = λ q. sym (contains-ports_of mask c.self.invariant q) ∙ ap (λ (s : Ports). set.contains s q) c.self.view_is in
    ap (λ b. b == 1) (shr_and_one mask c.args.port) ∙ same c.args.port

pub returns-else-port-lt32-clause-value : goal.returns-else-port-lt32-clause-value
returns-else-port-lt32-clause-value c =
    let mask = c.self.inside.mask in
    let same : (q : ℕ) → is_set mask q ≡ set.contains c.args.self q = λ q. sym (contains-ports_of mask c.self.invariant q) ∙ ap (λ (s : Ports). set.contains s q) c.self.view_is in
    le-ltb c.args.port 32 c.if-port-lt32.false ∙ sym (is_set-above mask c.args.port c.self.invariant c.if-port-lt32.false) ∙ same c.args.port
