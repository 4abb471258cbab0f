-- What a call on a link answers, by what its tests found.
use Rattle.std.proofs.Common.{◌≡◌, ℕ, zero, suc, ◌<◌, Bool, List, [], ◌∷◌, arith, Result, Ok, Err, length, sym, subst, IfSome, MatchBool, OnOk, OnErr, IfNone, Option, Some, None, slice_get}
use Rattle.std.specs.Option.{ok_or}
use Rattle.network_model.specs.{World.Link, Step.is_up_in}
use Rattle.link_fifo.specs.{declared.refusal.LinkRefusal.LinkRefusal, declared.refusal.Put.Put, declared.refusal.Put.TheVariants.Stale, Refusals.IsQueuedUnlessFull, Refusals.AnswersPut}

-- what holds anyway holds on Ok
pub OnOk-always : {T E : Type 0} (r : Result T E) {P : Type 0} → P → OnOk r P
OnOk-always (Ok x) p = p
OnOk-always (Err e) p = tt

-- what holds anyway holds on Err
pub OnErr-always : {T E : Type 0} (r : Result T E) {P : Type 0} → P → OnErr r P
OnErr-always (Ok x) p = tt
OnErr-always (Err e) p = p

-- what follows from what holds where there is nothing holds on the error that stands for nothing
pub OnErr-nothing : {T E P Q : Type 0} (o : Option T) (e : E) {r : Result T E} → r ≡ ok_or o e → IfNone o P → (P → Q) → OnErr r Q
OnErr-nothing {E = E} {Q = Q} None e is p then = subst (λ (r : Result _ E). OnErr r Q) (sym is) (then p)
OnErr-nothing {E = E} {Q = Q} (Some x) e is p then = subst (λ (r : Result _ E). OnErr r Q) (sym is) tt

-- the answer to a message at a link that is there, by whether that is up in the message's session
pub AnswersPut-known : (session : ℕ) (links : List Link) (l : ℕ) (b : Bool) (r : Result Put LinkRefusal) → l < length links → IfSome (slice_get links l) (λ k. b ≡ is_up_in session k) → MatchBool b (IsQueuedUnlessFull r) (r ≡ Ok Stale) → AnswersPut session (slice_get links l) r
AnswersPut-known session [] l b r known test answer = absurd (omega arith)
AnswersPut-known session (k ∷ ks) zero b r known test answer = subst (λ c. MatchBool c (IsQueuedUnlessFull r) (r ≡ Ok Stale)) test answer
AnswersPut-known session (k ∷ ks) (suc l) b r known test answer = AnswersPut-known session ks l b r (omega arith) test answer
