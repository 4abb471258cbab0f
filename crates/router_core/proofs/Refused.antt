-- What a call that gave up leaves.
use Rattle.std.proofs.Common.{sym, subst, ◌≡◌, Result, Ok, Err, OnOk, OnErr}

-- what is so on Err is so of a call that gave up
pub gave_up : {X E P : Type 0} (r : Result X E) → P → OnErr r P
gave_up (Ok x) holds = tt
gave_up (Err e) holds = holds

-- what is so on Ok is so of a call that gave up
pub not_ok : {X E : Type 0} (P : Type 0) (r : Result X E) {e : E} → r ≡ Err e → OnOk r P
not_ok P r failed = subst (λ q. OnOk q P) (sym failed) tt
