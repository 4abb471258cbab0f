use Rattle.std.proofs.Common.{◌≡◌, ◌≢◌, ◌⊎◌, inl, inr, ◌<◌, ◌+◌, Some, false, ap, sym, subst, ◌∙◌, slice_get, arith}
use Rattle.std.proofs.{lemmas.Bool.cases_eq, lemmas.Option.get_or_from_slice_get, lemmas.Option.slice_get_within}
use Rattle.ipv4_prefix.specs.Prefix.{Prefix}
use Rattle.run_states.specs.Books.{matches_prefix}
use Rattle.run_states.proofs.Books.{left_unmarked}
use Rattle.run_states.proofs.router_book.set_marks.Goals as goal
use Rattle.run_states.proofs.router_book.set_marks.Goals.{then-covers, else-covers}

pub loop-number-preserved : goal.loop-number-preserved
loop-number-preserved c = λ j unmarked.
    let n = c.loop-number.number in
    let marks = c.loop-number.marks in
    elim c.if-covers.branch [
      | then-covers w ↦
          let left = left_unmarked marks n j (omega arith) (subst (λ ms. slice_get ms j ≡ Some false) w.marks-is unmarked) in
          let old = c.loop-number.invariant j left.1 in
          (old.0, λ p less there. old.1 p (let apart = left.0 in omega (arith, less, apart)) there)
      | else-covers w ↦
          let old = c.loop-number.invariant j (subst (λ ms. slice_get ms j ≡ Some false) w.marks-is unmarked) in
          let place : (p : Prefix) → (j ≡ n) ⊎ (j ≢ n) → j < n + 1 → slice_get c.args.prefixes.now j ≡ Some p → matches_prefix c.args.which.now p ≡ false
          = λ p at less there. elim at [
            | inl e ↦
                let same : c.index-prefixes-number.result ≡ p = c.index-prefixes-number.is ∙ get_or_from_slice_get c.args.prefixes.now n p c.index-prefixes-number.result (ap (slice_get c.args.prefixes.now) (sym e) ∙ there) in
                ap (matches_prefix c.args.which.now) (sym same) ∙ sym c.covers.ensures ∙ w.if-covers.false
            | inr d ↦ old.1 p (omega (arith, less, d)) there
          ] in
          (old.0, λ p less there. place p (cases_eq j n) less there)
    ]

pub returns-clause-unmarked : goal.returns-clause-unmarked
returns-clause-unmarked c = λ j p there unmarked.
    let at = slice_get_within c.args.prefixes.now j p there in
    let within = slice_get_within c.loop-number.marks j false unmarked in
    let left = c.loop-number.invariant j unmarked in
    (left.0, left.1 p (let is = c.min-places.ensures in omega (arith, at, within, is)) there)
