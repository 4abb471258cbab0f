-- What a call answers that does a step by another call: it passes on why that one was refused, or is done.
use Rattle.std.proofs.Common.{◌≡◌, ◌∙◌, true, false, Option, Some, None, Result, Ok, Err, IsErrAnd, MatchOption, is_ok, refl, ap, sym, subst}
use Rattle.no_packet_loops.proofs.Common.{World, Refusal, Lawful, Lawful_to_refusal, refusal, Step}
use Rattle.world.specs.Steps.{IsDoneOr}

-- a call that is refused as another call was
module _ (X Y : Type 0) (e : Refusal) where
  -- for its cause, or for want of memory
  pub passes_on : (cause : Option Refusal) (r : Result Y Refusal) → IsDoneOr {X = X} cause (Err e) → IsErrAnd r (λ x. x ≡ e) → IsDoneOr cause r
  passes_on cause (Ok y) failed none = absurd none
  passes_on None (Err x) failed same = same ∙ failed
  passes_on (Some c) (Err x) failed same = let inner : ◌≡◌ {A = Result X Refusal} (Err e) (Err c) = failed in let is : e ≡ c = cc in ap (λ y. Err y) (same ∙ is)

  -- for its cause alone
  pub passes_only : (cause : Option Refusal) (r : Result Y Refusal) → MatchOption cause (false ≡ true) (λ (c : Refusal). ◌≡◌ {A = Result X Refusal} (Err e) (Err c)) → IsErrAnd r (λ x. x ≡ e)
      → MatchOption cause (is_ok r ≡ true) (λ (c : Refusal). r ≡ Err c)
  passes_only cause (Ok y) failed none = absurd none
  passes_only None (Err x) failed same = failed
  passes_only (Some c) (Err x) failed same = let inner : ◌≡◌ {A = Result X Refusal} (Err e) (Err c) = failed in let is : e ≡ c = cc in ap (λ y. Err y) (same ∙ is)

-- a call that did a lawful step, whatever it answers
module _ (Y : Type 0) (y : Y) (w : World) (s : Step) (lawful : Lawful w s) where
  pub done_for : (cause : Option Refusal) → cause ≡ refusal w s → IsDoneOr {X = Y} cause (Ok y)
  done_for cause is = subst (λ o. IsDoneOr {X = Y} o (Ok y)) (sym (is ∙ Lawful_to_refusal w s lawful)) tt

  pub done_only : (cause : Option Refusal) → cause ≡ refusal w s → MatchOption cause (true ≡ true) (λ (c : Refusal). ◌≡◌ {A = Result Y Refusal} (Ok y) (Err c))
  done_only cause is = subst (λ o. MatchOption o (true ≡ true) (λ (c : Refusal). ◌≡◌ {A = Result Y Refusal} (Ok y) (Err c))) (sym (is ∙ Lawful_to_refusal w s lawful)) refl
