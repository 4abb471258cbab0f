-- What a neighbour was told last: the distance, once it has taken all that is sent to it.
use Rattle.std.proofs.Common.{◌≡◌, ◌≢◌, ◌⊎◌, ℕ, zero, suc, ◌<◌, ◌≤◌, Bool, true, false, List, [], ◌∷◌, ◌++◌, Some, refl, ap, sym, inl, inr, arith, ◌∙◌, eqb-true, eq-eqb, ne_eqb, ◌==◌, if◌then◌else◌}
use Rattle.network_model.proofs.Common.{cases_eq, none-some, Update, Machine, one_to, greeting, reaction, SeenHeld, infinity}
use Rattle.network_model.specs.{declared.machine.Event.Event, declared.machine.Outgoing.Outgoing}
use Rattle.machine_laws.specs.Laws.{sent_to, is_up_at, Meets, IsSound}
use Rattle.loop_freedom.specs.Network.{held_for}
use Rattle.machine_laws.proofs.{Sends.EachSend, Sends.eqb_same, Sending.sends_distance, Sending.tells_all}

-- the last value that is sent, after v
abbrev pub last_sent : ℕ → List Outgoing → ℕ
last_sent v [] = v
last_sent v (s ∷ ss) = last_sent s.value ss

-- the last value that is held for session n, after v
abbrev pub last_held : ℕ → ℕ → List SeenHeld → ℕ
last_held n v [] = v
last_held n v (h ∷ hs) = last_held n (if h.session == n then h.message.value else v) hs

-- the last value held in two lists in a row is the last of the second, after that of the first
pub last_append : (n v : ℕ) (xs ys : List SeenHeld) → last_held n v (xs ++ ys) ≡ last_held n (last_held n v xs) ys
last_append n v [] ys = refl
last_append n v (h ∷ xs) ys = last_append n (if h.session == n then h.message.value else v) xs ys

-- the last value held of what is sent in the same session is the last that is sent
pub last_present : (n v : ℕ) (ss : List Outgoing) → last_held n v (held_for n ss) ≡ last_sent v ss
last_present n v [] = refl
last_present n v (s ∷ ss) = ap (λ b. last_held n (if b then s.value else v) (held_for n ss)) (eqb_same n) ∙ last_present n s.value ss

-- what is held for another session changes nothing
pub last_past : (n k v : ℕ) (ss : List Outgoing) → (k == n) ≡ false → last_held n v (held_for k ss) ≡ v
last_past n k v [] h = refl
last_past n k v (s ∷ ss) h = ap (λ b. last_held n (if b then s.value else v) (held_for k ss)) h ∙ last_past n k v ss h

-- what holds of each message holds of each that port p gets
pub each_sent : (P : Outgoing → Type 0) (p : ℕ) (ss : List Outgoing) → EachSend P ss → EachSend P (sent_to p ss)
each_sent P p [] f = λ s k e. absurd (none-some s e)
each_sent P p (x ∷ ss) f = go (x.port == p) (each_sent P p ss (λ s k e. f s (suc k) e))
  where
    go : (b : Bool) → EachSend P (sent_to p ss) → EachSend P (if b then x ∷ sent_to p ss else sent_to p ss)
    go true g s zero e = f s zero e
    go true g s (suc k) e = g s k e
    go false g s k e = g s k e

-- where each message has the distance, and none is sent only if it was told before, the last value is the distance
last_right : (v rd : ℕ) (ss : List Outgoing) → EachSend (λ s. s.value ≡ rd) ss → (ss ≡ [] → v ≡ rd) → last_sent v ss ≡ rd
last_right v rd [] f h = h refl
last_right v rd (s ∷ ss) f h = last_right s.value rd ss (λ x k e. f x (suc k) e) (λ n. f s zero refl)

-- a port that was told the distance before an event, and is up after it, is told the distance after it
pub told_after : (m : Machine) (e : Event) (p : ℕ) → IsSound m → Meets m e → is_up_at (reaction m e).machine p ≡ true → last_sent m.rd (sent_to p (reaction m e).sends) ≡ (reaction m e).machine.rd
told_after m e p sound meets up = last_right m.rd (reaction m e).machine.rd (sent_to p (reaction m e).sends) right (go (tells_all m e sound meets))
  where
    right : EachSend (λ s. s.value ≡ (reaction m e).machine.rd) (sent_to p (reaction m e).sends)
    right = each_sent (λ s. s.value ≡ (reaction m e).machine.rd) p (reaction m e).sends (λ s k h. (sends_distance m e sound meets s k h).0)

    go : ((reaction m e).machine.rd ≡ m.rd) ⊎ ((q : ℕ) → is_up_at (reaction m e).machine q ≡ true → sent_to q (reaction m e).sends ≢ []) → sent_to p (reaction m e).sends ≡ [] → m.rd ≡ (reaction m e).machine.rd
    go (inl same) silent = sym same
    go (inr tells) silent = absurd (tells p up silent)

-- a port that comes up is told the distance, or nothing where that is infinity
pub told_up : (m : Machine) (q : ℕ) → last_sent infinity (sent_to q (greeting m q)) ≡ m.rd
told_up m q = go (m.rd == infinity) refl
  where
    go : (b : Bool) → (m.rd == infinity) ≡ b → last_sent infinity (sent_to q (if b then [] else one_to (Some q) Update m.rd)) ≡ m.rd
    go true t = sym (eqb-true m.rd infinity t)
    go false t = rw (eqb_same q) refl

-- what a port is to be told in session n: the distance where the router knows of that session, else infinity
abbrev pub expected : ℕ → ℕ → ℕ → ℕ
expected seen n rd = if seen == n then rd else infinity

-- a router that knows of the session is to tell the distance
expected_now : (seen n rd : ℕ) → seen ≡ n → expected seen n rd ≡ rd
expected_now seen n rd h = rw (eq-eqb seen n h) refl

-- a router that knows of earlier sessions alone has told nothing
pub expected_past : (seen n rd : ℕ) → seen < n → expected seen n rd ≡ infinity
expected_past seen n rd h = rw (ne_eqb seen n (λ e. omega (arith, e, h))) refl

-- what is to be told stays right where a router, at an event, tells its distance and perhaps learns of a later session
pub told_more : (n seen later rd new : ℕ) (ss : List Outgoing) → seen ≤ later → later ≤ n
    → (seen ≡ n → last_sent rd ss ≡ new) → (later ≡ n → seen < n → last_sent infinity ss ≡ new)
    → last_held n (expected seen n rd) (held_for later ss) ≡ expected later n new
told_more n seen later rd new ss below under stays comes = go (cases_eq later n) (cases_eq seen n)
  where
    go : (later ≡ n) ⊎ (later ≡ n → ⊥) → (seen ≡ n) ⊎ (seen ≡ n → ⊥) → last_held n (expected seen n rd) (held_for later ss) ≡ expected later n new
    go (inl l) (inl s) = rw (expected_now seen n rd s, expected_now later n new l, l) (last_present n rd ss ∙ stays s)
    go (inl l) (inr s) =
        let past : seen < n = omega (arith, s, below, under) in
        rw (expected_past seen n rd past, expected_now later n new l, l) (last_present n infinity ss ∙ comes l past)
    go (inr l) d =
        let past : later < n = omega (arith, l, under) in
        let before : seen < n = omega (arith, past, below) in
        rw (expected_past seen n rd before, expected_past later n new past) (last_past n later infinity ss (ne_eqb later n l))
