-- What the exit of a `?` returns.
use Rattle.std.proofs.Common.{◌≡◌, Result, Ok, Err, IfErr}
use Rattle.std.specs.Result.{IsErrAnd}

-- where an error meets a property, so does the exit that returns it
pub at_err : {T E : Type 0} (r : Result T E) (P : E → Type 0) (e : E) → IsErrAnd r (λ y. y ≡ e) → P e → IfErr r P
at_err (Ok x) P e is holds = tt
at_err (Err y) P e is holds = rw is holds
