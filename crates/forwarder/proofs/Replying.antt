-- Replies to the jobs that were taken.
use Rattle.std.proofs.Common.{ap, sym, ◌∙◌, append_assoc, ◌≡◌, List, [], ◌∷◌, ◌++◌, Result, Ok, Err, IfOk, IfErr}

-- what holds of replies holds of those with one more, where that follows
pub if_more : {V E : Type 0} (before after : Result V E) (P Q : V → Type 0) (S : V → V → Type 0) → IfOk after (λ new. IfOk before (λ old. S old new)) → IfErr before (λ e. after ≡ Err e) → ((old new : V) → P old → S old new → Q new) → IfOk before P → IfOk after Q
if_more (Ok old) (Ok new) P Q S more none step was = step old new was more
if_more (Err e) (Ok new) P Q S more none step was = absurd (cc)
if_more _ _ P Q S more none step was = tt

-- an error comes with what holds anyway
pub on_err : {V E : Type 0} (r : Result V E) {P : Type 0} → P → IfErr r (λ _. P)
on_err (Ok x) p = tt
on_err (Err e) p = p

-- one job more was taken, and one more is replied to
pub taken_more : {A : Type 0} (first replied taken new answered : List A) (job : A) → taken ≡ first ++ replied → new ≡ taken ++ job ∷ [] → answered ≡ replied ++ job ∷ [] → new ≡ first ++ answered
taken_more first replied taken new answered job was took replies = took ∙ ap (λ xs. xs ++ job ∷ []) was ∙ append_assoc first replied (job ∷ []) ∙ ap (λ xs. first ++ xs) (sym replies)
