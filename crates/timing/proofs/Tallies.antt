-- Spells that are counted one after another.
use Rattle.std.proofs.Common.{◌≡◌, ℕ, ◌+◌, ◌<◌, zero, suc, List, [], ◌∷◌, drop, get_or, length, refl, sym, ap, subst, ◌∙◌, arith}
use Rattle.timed_reports.specs.declared.spells.Spell.{Spell}
use Rattle.timing.specs.{declared.tally.Span.Span, Tallies.tally, Tallies.with_one}
use Rattle.lines.specs.declared.times.Tally.{Tally}

-- one more is counted
one_more : (span : Span) (ss : List Spell) (i : ℕ) (d : Spell) (t : Tally) → i < length ss → tally span (drop i ss) t ≡ tally span (drop (suc i) ss) (with_one span (get_or ss i d) t)
one_more span [] i d t within = absurd (omega (arith, within))
one_more span (s ∷ ss) zero d t within = refl
one_more span (s ∷ ss) (suc i) d t within = one_more span ss i d t (omega (arith, within))

pub counted_at : (span : Span) (ss : List Spell) (i : ℕ) (s : Spell) (t u wanted : Tally) → i < length ss → s ≡ get_or ss i s → tally span (drop i ss) t ≡ wanted → u ≡ with_one span s t → tally span (drop (i + 1) ss) u ≡ wanted
counted_at span ss i s t u wanted within is so_far counted =
    let next : suc i ≡ i + 1 = omega arith in
    subst (λ n. tally span (drop n ss) u ≡ wanted) next
    (ap (tally span (drop (suc i) ss)) (counted ∙ ap (λ x. with_one span x t) is) ∙ sym (one_more span ss i s t within) ∙ so_far)
