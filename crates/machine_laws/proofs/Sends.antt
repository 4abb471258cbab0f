-- What one port gets of the messages that a machine sends, and what holds of each of them.
use Rattle.std.proofs.Common.{◌≡◌, ◌⊎◌, ℕ, zero, suc, ◌+◌, ◌<◌, Bool, true, false, not, ◌&&◌, List, [], ◌∷◌, ◌++◌, Option, Some, None, refl, ap, sym, inl, inr, arith, subst, ◌∙◌, eq-eqb, ne_eqb, slice_get, ◌==◌, if◌then◌else◌}
use Rattle.network_model.proofs.Common.{cases_eq, and_parts, same_Some, none-some, Kind, is_port, one_to, all_from, one_if}
use Rattle.network_model.specs.{declared.machine.Neighbour.Neighbour, declared.machine.Outgoing.Outgoing}
use Rattle.machine_laws.specs.Laws.{is_kind, sent_to, count_kind, test_at}

-- the test of equality does not mind the order
pub eqb_sym : (a b : ℕ) → (a == b) ≡ (b == a)
eqb_sym a b = go (cases_eq a b)
  where
    go : (a ≡ b) ⊎ (a ≡ b → ⊥) → (a == b) ≡ (b == a)
    go (inl e) = eq-eqb a b e ∙ sym (eq-eqb b a (sym e))
    go (inr n) = ne_eqb a b n ∙ sym (ne_eqb b a (λ e. n (sym e)))

-- a number passes the test of equality with itself
pub eqb_same : (a : ℕ) → (a == a) ≡ true
eqb_same a = eq-eqb a a refl

-- a port gets of two lists in a row what it gets of the one and then of the other
pub sent_append : (p : ℕ) (xs ys : List Outgoing) → sent_to p (xs ++ ys) ≡ sent_to p xs ++ sent_to p ys
sent_append p [] ys = refl
sent_append p (s ∷ xs) ys = go (s.port == p) (sent_append p xs ys)
  where
    go : (b : Bool) → sent_to p (xs ++ ys) ≡ sent_to p xs ++ sent_to p ys → (if b then s ∷ sent_to p (xs ++ ys) else sent_to p (xs ++ ys)) ≡ (if b then s ∷ sent_to p xs else sent_to p xs) ++ sent_to p ys
    go true e = ap (λ r. s ∷ r) e
    go false e = e

-- the messages of a kind in two lists in a row are those of both
pub count_append : (k : Kind) (xs ys : List Outgoing) → count_kind k (xs ++ ys) ≡ count_kind k xs + count_kind k ys
count_append k [] ys = omega arith
count_append k (s ∷ xs) ys = omega (arith, count_append k xs ys)

-- what port p gets where all who are up, but the one left out, are told
abbrev pub told : ℕ → Option ℕ → Kind → ℕ → Bool → List Outgoing
told p but k v up = if up && not (is_port p but) then record { port = p; kind = k; value = v } ∷ [] else []

-- a message for port p, if it is sent, is all that p gets where the rest has nothing for p
head_same : (p : ℕ) (k : Kind) (v : ℕ) (b : Bool) (rest : List Outgoing) → sent_to p rest ≡ []
    → sent_to p (if b then record { port = p; kind = k; value = v } ∷ rest else rest) ≡ (if b then record { port = p; kind = k; value = v } ∷ [] else [])
head_same p k v true rest h = rw (eqb_same p) (ap (λ r. record { port = p; kind = k; value = v } ∷ r) h)
head_same p k v false rest h = h

-- a message for another port, if it is sent, leaves what port p gets
head_other : (p q : ℕ) (k : Kind) (v : ℕ) (b : Bool) (rest : List Outgoing) → (q ≡ p → ⊥)
    → sent_to p (if b then record { port = q; kind = k; value = v } ∷ rest else rest) ≡ sent_to p rest
head_other p q k v true rest ne = rw (ne_eqb q p ne)
head_other p q k v false rest ne = refl

-- a port below the first that is told gets nothing
sent_below : (p q : ℕ) (but : Option ℕ) (k : Kind) (v : ℕ) (ns : List Neighbour) → p < q → sent_to p (all_from q but k v ns) ≡ []
sent_below p q but k v [] l = refl
sent_below p q but k v (n ∷ ns) l =
    head_other p q k v (n.up && not (is_port q but)) (all_from (suc q) but k v ns) (λ e. omega (arith, e, l)) ∙ sent_below p (suc q) but k v ns (omega (arith, l))

-- of the messages to all from port q on, port q + j gets its own where the neighbour at place j is told
sent_at : (p q j : ℕ) (but : Option ℕ) (k : Kind) (v : ℕ) (ns : List Neighbour) → p ≡ q + j → sent_to p (all_from q but k v ns) ≡ told p but k v (test_at (λ n. n.up) (slice_get ns j))
sent_at p q j but k v [] e = refl
sent_at p q zero but k v (n ∷ ns) e =
    let same : q ≡ p = omega (arith, e) in
    subst (λ x. sent_to x (all_from q but k v (n ∷ ns)) ≡ told x but k v n.up) same (head_same q k v (n.up && not (is_port q but)) (all_from (suc q) but k v ns) (sent_below q (suc q) but k v ns (omega arith)))
sent_at p q (suc j) but k v (n ∷ ns) e =
    head_other p q k v (n.up && not (is_port q but)) (all_from (suc q) but k v ns) (λ s. omega (arith, s, e)) ∙ sent_at p (suc q) j but k v ns (omega (arith, e))

-- of the messages to all, port p gets its own where its neighbour is up and not left out
pub sent_all : (p : ℕ) (but : Option ℕ) (k : Kind) (v : ℕ) (ns : List Neighbour) → sent_to p (all_from 0 but k v ns) ≡ told p but k v (test_at (λ n. n.up) (slice_get ns p))
sent_all p but k v ns = sent_at p 0 p but k v ns (omega arith)

-- port p gets the one message where it is for p
pub sent_one : (p : ℕ) (o : Option ℕ) (k : Kind) (v : ℕ) → sent_to p (one_to o k v) ≡ (if is_port p o then record { port = p; kind = k; value = v } ∷ [] else [])
sent_one p None k v = refl
sent_one p (Some q) k v = go (cases_eq q p)
  where
    go : (q ≡ p) ⊎ (q ≡ p → ⊥) → sent_to p (one_to (Some q) k v) ≡ (if is_port p (Some q) then record { port = p; kind = k; value = v } ∷ [] else [])
    go (inl e) = subst (λ x. sent_to x (one_to (Some q) k v) ≡ (if is_port x (Some q) then record { port = x; kind = k; value = v } ∷ [] else [])) e (rw (eqb_same q))
    go (inr n) = rw (ne_eqb q p n, ne_eqb p q (λ e. n (sym e)))

-- how many messages of kind j one message of kind k is, where it is sent
count_if : (j k : Kind) (p v : ℕ) (b : Bool) → count_kind j (if b then record { port = p; kind = k; value = v } ∷ [] else []) ≡ (if is_kind j k then one_if b else 0)
count_if j k p v true = go (is_kind j k)
  where
    go : (c : Bool) → one_if c + 0 ≡ (if c then 1 else 0)
    go true = refl
    go false = refl
count_if j k p v false = go (is_kind j k)
  where
    go : (c : Bool) → ◌≡◌ {A = ℕ} 0 (if c then 0 else 0)
    go true = refl
    go false = refl

-- how many messages of kind j port p gets of the one
pub count_one : (j k : Kind) (p : ℕ) (o : Option ℕ) (v : ℕ) → count_kind j (sent_to p (one_to o k v)) ≡ (if is_kind j k then one_if (is_port p o) else 0)
count_one j k p o v = ap (count_kind j) (sent_one p o k v) ∙ count_if j k p v (is_port p o)

-- how many messages of kind j port p gets of those to all
pub count_all : (j k : Kind) (p : ℕ) (but : Option ℕ) (v : ℕ) (ns : List Neighbour)
    → count_kind j (sent_to p (all_from 0 but k v ns)) ≡ (if is_kind j k then one_if (test_at (λ n. n.up) (slice_get ns p) && not (is_port p but)) else 0)
count_all j k p but v ns = ap (count_kind j) (sent_all p but k v ns) ∙ count_if j k p v (test_at (λ n. n.up) (slice_get ns p) && not (is_port p but))

-- what holds of each message
abbrev pub EachSend : (Outgoing → Type 0) → List Outgoing → Type 0
EachSend P ss = (s : Outgoing) (k : ℕ) → slice_get ss k ≡ Some s → P s

-- what holds of each message of two lists holds of each in both in a row
pub each_append : (P : Outgoing → Type 0) (xs ys : List Outgoing) → EachSend P xs → EachSend P ys → EachSend P (xs ++ ys)
each_append P [] ys f g s k e = g s k e
each_append P (x ∷ xs) ys f g s zero e = f s zero e
each_append P (x ∷ xs) ys f g s (suc k) e = each_append P xs ys (λ t j d. f t (suc j) d) g s k e

-- what holds of the one message, if there is one, holds of each
pub each_one : (P : Outgoing → Type 0) (o : Option ℕ) (k : Kind) (v : ℕ) → ((q : ℕ) → o ≡ Some q → P (record { port = q; kind = k; value = v })) → EachSend P (one_to o k v)
each_one P (Some q) k v f s zero e = subst P (same_Some (record { port = q; kind = k; value = v }) s e) (f q refl)
each_one P _ k v f s _ e = absurd (none-some s e)

-- what holds of the first message, if it is there, and of each other holds of each
each_head : (P : Outgoing → Type 0) (b : Bool) (x : Outgoing) (xs : List Outgoing) → (b ≡ true → P x) → EachSend P xs → EachSend P (if b then x ∷ xs else xs)
each_head P true x xs f g s zero e = subst P (same_Some x s e) (f refl)
each_head P true x xs f g s (suc k) e = g s k e
each_head P false x xs f g s k e = g s k e

-- what holds of the message to each port that is up, from q on, holds of each
each_from : (P : Outgoing → Type 0) (q : ℕ) (but : Option ℕ) (k : Kind) (v : ℕ) (ns : List Neighbour)
    → ((p j : ℕ) → p ≡ q + j → test_at (λ n. n.up) (slice_get ns j) ≡ true → P (record { port = p; kind = k; value = v })) → EachSend P (all_from q but k v ns)
each_from P q but k v [] f s i e = absurd (none-some s e)
each_from P q but k v (n ∷ ns) f s i e =
    each_head P (n.up && not (is_port q but)) (record { port = q; kind = k; value = v }) (all_from (suc q) but k v ns)
    (λ u. f q 0 (omega arith) (and_parts n.up (not (is_port q but)) u).0)
    (each_from P (suc q) but k v ns (λ p j at. f p (suc j) (omega (arith, at)))) s i e

-- what holds of the message to each port that is up holds of each
pub each_all : (P : Outgoing → Type 0) (but : Option ℕ) (k : Kind) (v : ℕ) (ns : List Neighbour)
    → ((p : ℕ) → test_at (λ n. n.up) (slice_get ns p) ≡ true → P (record { port = p; kind = k; value = v })) → EachSend P (all_from 0 but k v ns)
each_all P but k v ns f = each_from P 0 but k v ns (λ p j e u. f p (let same : j ≡ p = omega (arith, e) in subst (λ x. test_at (λ n. n.up) (slice_get ns x) ≡ true) same u))
