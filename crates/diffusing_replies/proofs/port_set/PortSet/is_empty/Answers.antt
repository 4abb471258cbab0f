use Rattle.std.proofs.Common.{◌≡◌, ℕ, Bool, true, false, ◌==◌, IsTrue, refl, ap, sym, ◌∙◌, eqb-true}
use Rattle.std.proofs.lemmas.Nat.Bits.{bit_at-zero}
use Rattle.std.specs.FinSet as set
use Rattle.diffusing_replies.specs.Ports.{Ports, is_set, contains-ports_of}
use Rattle.diffusing_replies.proofs.Masks.{none_set}
use Rattle.diffusing_replies.proofs.port_set.PortSet.is_empty.Goals as goal

as_true : (b : Bool) → IsTrue b → b ≡ true
as_true true h = refl
as_true false h = cc

no_bits : (mask q : ℕ) → IsTrue (mask == 0) → is_set mask q ≡ false
no_bits mask q none = rw (eqb-true mask 0 (as_true (mask == 0) none), bit_at-zero q) refl

pub returns : goal.returns
returns c =
    let mask = c.self.inside.mask in
    let same : (q : ℕ) → is_set mask q ≡ set.contains c.args.self q = λ q. sym (contains-ports_of mask c.self.invariant q) ∙ ap (λ (s : Ports). set.contains s q) c.self.view_is in
    (λ none q. sym (same q) ∙ no_bits mask q none, λ none. rw (none_set mask c.self.invariant (λ q. same q ∙ none q)) refl)
