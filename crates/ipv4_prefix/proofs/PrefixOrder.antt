-- `prefix_cmp`, the order that `Prefix` derives, is total, and only equal prefixes tie in it.
use Rattle.std.proofs.Common.{◌≡◌, ℕ, true, arith, Ordering, refl, sym, ap, ◌∙◌}
use Rattle.std.specs.{declared.cmp.Ordering.TheVariants.Less, declared.cmp.Ordering.TheVariants.Equal, Cmp.IsTotalOrder, Bool.Decides}
use Rattle.std.specs.Ordering.{nat_cmp, ordering_then, is_eq, is_lt}
use Rattle.std.proofs.lemmas.Cmp.{ranked, nat_cmp_total, on_total, then_total, tied_itself}
use Rattle.std.proofs.{lemmas.Bool.false≢true, lemmas.Bool.Decides.nat_tests}
use Rattle.ipv4_prefix.specs.contracts.prefix.PrefixPartialEq.TheImpl as DerivedEq
use Rattle.ipv4_prefix.specs.Prefix.{Prefix, prefix_cmp, prefix_eq}

pub prefix_cmp_total : IsTotalOrder prefix_cmp
prefix_cmp_total = then_total (on_total (λ p. p.addr) nat_cmp_total) (on_total (λ p. p.len) nat_cmp_total)

both_tied : (o u : Ordering) → ordering_then o u ≡ Equal → (o ≡ Equal) × (u ≡ Equal)
both_tied Equal u tied = (refl, tied)
both_tied _ u tied = absurd (cc)

nat_cmp-tied : (m n : ℕ) → nat_cmp m n ≡ Equal → m ≡ n
nat_cmp-tied m n tied = ranked m n Equal (sym tied)

-- prefixes that tie are equal
pub prefix_cmp-tied : (p q : Prefix) → prefix_cmp p q ≡ Equal → p ≡ q
prefix_cmp-tied p q tied =
    let both = both_tied (nat_cmp p.addr q.addr) (nat_cmp p.len q.len) tied in
    let addr = nat_cmp-tied p.addr q.addr both.0 in
    let len = nat_cmp-tied p.len q.len both.1 in
    λ i. record { addr = addr i; len = len i }

-- an order that passes the test for equal is `Equal`
pub equal_from_test : (o : Ordering) → is_eq o ≡ true → o ≡ Equal
equal_from_test Equal h = refl
equal_from_test _ h = absurd (false≢true h)

-- an order that passes the test for less is `Less`
pub less_from_test : (o : Ordering) → is_lt o ≡ true → o ≡ Less
less_from_test Less h = refl
less_from_test _ h = absurd (false≢true h)

-- `prefix_eq` tells whether two prefixes are equal
pub prefix_eq-Decides : (p q : Prefix) → Decides (prefix_eq p q) (p ≡ q)
prefix_eq-Decides p q = (
  λ test. prefix_cmp-tied p q (equal_from_test (prefix_cmp p q) test),
  λ same. ap is_eq (ap (prefix_cmp p) (sym same) ∙ tied_itself prefix_cmp_total p),
)

-- what `==` answers
pub prefix_partial_eq : (p q : Prefix) → (DerivedEq.ghosts).eq p q ≡ prefix_eq p q
prefix_partial_eq p q = grind (arith, nat_tests)
