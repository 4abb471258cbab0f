use Rattle.std.proofs.Common.{◌≡◌, ◌∙◌, false, inl, refl, sym, subst}
use Rattle.ipv4_prefix.specs.Prefix.{Prefix}
use Rattle.timed_reports.specs.Looks.{meets}
use Rattle.timed_reports.proofs.looks.look_for_computation.Goals as goal

-- it does not meet what its router takes
pub returns-then-not-meets-clause-looked : goal.returns-then-not-meets-clause-looked
returns-then-not-meets-clause-looked g c = λ d at. inl (subst (λ (p : Prefix). meets c.args.told p ≡ false) (sym (c.requires.of d at)) (sym c.meets.ensures ∙ c.if-not-meets.true), refl, refl)
