-- What an end has on its way, where items are queued, messages are held, and a machine sends.
use Rattle.std.proofs.Common.{refl, ap, arith, ◌≡◌, ℕ, suc, ◌+◌, Bool, true, false, ◌==◌, if◌then◌else◌, List, [], ◌∷◌, ◌++◌, Some, slice_get, eq-eqb, ne_eqb}
use Rattle.network_model.proofs.Common.{Kind, Report, SeenHeld, SeenItem, UpNotice, DownNotice, CostNotice, Reported, one_if}
use Rattle.network_model.specs.declared.machine.Outgoing.{Outgoing}
use Rattle.machine_laws.specs.Laws.{is_kind, sent_to, count_kind}
use Rattle.loop_freedom.specs.Network.{held_for}
use Rattle.loop_freedom.specs.Facts.{messages, live, count, AtLeast}

-- the messages among two lists of items are those of the one, then of the other
pub messages-append : (xs ys : List SeenItem) → messages (xs ++ ys) ≡ messages xs ++ messages ys
messages-append [] ys = refl
messages-append (UpNotice s c ∷ xs) ys = messages-append xs ys
messages-append (DownNotice s ∷ xs) ys = messages-append xs ys
messages-append (CostNotice s c ∷ xs) ys = messages-append xs ys
messages-append (Reported m ∷ xs) ys = ap (λ ms. m ∷ ms) (messages-append xs ys)

-- the messages for a session among two lists of held ones are those of the one, then of the other
pub live-append : (n : ℕ) (xs ys : List SeenHeld) → live n (xs ++ ys) ≡ live n xs ++ live n ys
live-append n [] ys = refl
live-append n (x ∷ xs) ys = by_session (x.session == n) (live-append n xs ys)
  where
    by_session : (b : Bool) → live n (xs ++ ys) ≡ live n xs ++ live n ys → (if b then x.message ∷ live n (xs ++ ys) else live n (xs ++ ys)) ≡ (if b then x.message ∷ live n xs else live n xs) ++ live n ys
    by_session true e = ap (λ ms. x.message ∷ ms) e
    by_session false e = e

-- what is sent, as messages without their ports
abbrev pub reports_of : List Outgoing → List Report
reports_of [] = []
reports_of (s ∷ ss) = record { kind = s.kind; value = s.value } ∷ reports_of ss

-- all that is held for a session is meant for it
pub live-held_for : (k n : ℕ) (ss : List Outgoing) → k ≡ n → live n (held_for k ss) ≡ reports_of ss
live-held_for k n [] e = refl
live-held_for k n (s ∷ ss) e = rw (eq-eqb k n e) (ap (λ ms. record { kind = s.kind; value = s.value } ∷ ms) (live-held_for k n ss e))

-- nothing that is held for one session is meant for another
pub live-held_for_other : (k n : ℕ) (ss : List Outgoing) → (k ≡ n → ⊥) → live n (held_for k ss) ≡ []
live-held_for_other k n [] e = refl
live-held_for_other k n (s ∷ ss) e = rw (ne_eqb k n e) (live-held_for_other k n ss e)

-- what is sent has as many messages of a kind as the machine sent
pub count-reports_of : (k : Kind) (ss : List Outgoing) → count k (reports_of ss) ≡ count_kind k ss
count-reports_of k [] = refl
count-reports_of k (s ∷ ss) = ap (λ n. one_if (is_kind k s.kind) + n) (count-reports_of k ss)

-- where every send carries the value r, what is sent to a port is at least r
pub reports_of_at_least : (q r : ℕ) (ss : List Outgoing) → ((s : Outgoing) (k : ℕ) → slice_get ss k ≡ Some s → s.value ≡ r) → AtLeast r (reports_of (sent_to q ss))
reports_of_at_least q r [] f = tt
reports_of_at_least q r (s ∷ ss) f = by_port (s.port == q) (reports_of_at_least q r ss (λ x k e. f x (suc k) e))
  where
    by_port : (b : Bool) → AtLeast r (reports_of (sent_to q ss)) → AtLeast r (reports_of (if b then s ∷ sent_to q ss else sent_to q ss))
    by_port true h = (omega (arith, f s 0 refl), h)
    by_port false h = h

-- where no send is to port q, nothing is sent there
pub none_sent : (q : ℕ) (ss : List Outgoing) → ((s : Outgoing) (k : ℕ) → slice_get ss k ≡ Some s → s.port ≡ q → ⊥) → sent_to q ss ≡ []
none_sent q [] f = refl
none_sent q (s ∷ ss) f = rw (ne_eqb s.port q (f s 0 refl)) (none_sent q ss (λ x k e. f x (suc k) e))
