-- What is sent: the distance alone, a query last to everyone who is asked, and news to everyone who is up.
use Rattle.std.proofs.Common.{◌≡◌, ◌≢◌, ◌⊎◌, ℕ, Bool, true, false, not, List, [], ◌∷◌, ◌++◌, Option, Some, None, refl, ap, sym, inl, inr, subst, ◌∙◌, eqb-true, slice_get, ◌==◌, if◌then◌else◌}
use Rattle.network_model.proofs.Common.{both_ways, false≢true, same_Some, none-some, Update, Query, Reply, Machine, Reaction, is_port, via_successor, least, ways, records_after, with_records, one_to, all_from, news_to_others, reaction, infinity}
use Rattle.network_model.specs.{declared.machine.Event.Event, declared.machine.Event.TheVariants.Up, declared.machine.Neighbour.Neighbour, declared.machine.Outgoing.Outgoing}
use Rattle.machine_laws.specs.Laws.{sent_to, count_kind, test_at, is_up_at, is_active, Meets, IsSound, SendsDistance, GoesOnOrAsks, TellsAll}
use Rattle.machine_laws.proofs.Sends.{EachSend, each_append, each_one, each_all, sent_append, sent_one, sent_all, count_one}
use Rattle.machine_laws.proofs.{Events.up_at_up, Counting.greeting_count}
use Rattle.machine_laws.proofs.Outcomes.{Outcome, came_up, goes_on, settles, asks, is_alone, outcome, test_nowhere}

-- a message with the machine's distance, to a port that is up
abbrev IsRight : Machine → Outgoing → Type 0
IsRight m s = (s.value ≡ m.rd) × (is_up_at m s.port ≡ true)

-- what holds of each message of two lists holds of each in either
each_either : (P : Outgoing → Type 0) (b : Bool) (xs ys : List Outgoing) → EachSend P xs → EachSend P ys → EachSend P (if b then xs else ys)
each_either P true xs ys f g = f
each_either P false xs ys f g = g

-- anything holds of each message of none
each_none : (P : Outgoing → Type 0) → EachSend P []
each_none P s k e = absurd (none-some s e)

-- every outcome sends the distance after it, to ports that are up
right_of : (m : Machine) (e : Event) (r : Reaction) → IsSound m → Meets m e → Outcome m e r → EachSend (IsRight r.machine) r.sends
right_of m e r sound meets (came_up q cost) =
    let P = IsRight (with_records m (Up q cost)) in
    each_either P (m.rd == infinity) [] (one_to (Some q) Update m.rd) (each_none P)
    (each_one P (Some q) Update m.rd (λ p k. (refl, subst (λ x. is_up_at (with_records m (Up q cost)) x ≡ true) (same_Some q p k) (up_at_up m q cost meets.0))))
right_of m e r sound meets (goes_on _ c debt answer h some a) = each_one (IsRight r.machine) answer Reply m.rd (λ p k. (refl, a.answer_up p k))
right_of m e r sound meets (settles _ fd owed dec a f) =
    let v = least (ways (with_records m e)) in
    let P = IsRight r.machine in
    each_append P (one_to owed Reply v) (news_to_others owed m.rd v (records_after e m.ports)) (each_one P owed Reply v (λ p k. (refl, a.answer_up p k)))
    (each_either P (m.rd == v) [] (all_from 0 owed Update v (records_after e m.ports)) (each_none P) (each_all P owed Update v (records_after e m.ports) (λ p u. (refl, u))))
right_of m e r sound meets (asks _ fd debt answer dec a f some) =
    let v = via_successor (ways (with_records m e)) (with_records m e).successor in
    let P = IsRight r.machine in
    each_append P (one_to answer Reply v) (all_from 0 None Query v (records_after e m.ports)) (each_one P answer Reply v (λ p k. (refl, a.answer_up p k)))
    (each_all P None Query v (records_after e m.ports) (λ p u. (refl, u)))
right_of m e r sound meets (is_alone _ fd debt answer dec a f none) = each_none (IsRight r.machine)

-- every message that an event sends carries the distance after it, to a port that is up
pub sends_distance : SendsDistance
sends_distance m e sound meets = right_of m e (reaction m e) sound meets (outcome m e sound meets)

-- the law of going on or asking for one reaction
abbrev GoesOrAsks : Machine → Reaction → Type 0
GoesOrAsks m r =
    ((is_active m ≡ true) × (r.machine.rd ≡ m.rd) × ((p : ℕ) → count_kind Query (sent_to p r.sends) ≡ 0))
    ⊎ ((p : ℕ) → is_up_at r.machine p ≡ true → (before : List Outgoing) × (query : Outgoing) × (query.kind ≡ Query) × (count_kind Query before ≡ 0) × (sent_to p r.sends ≡ before ++ query ∷ []))

-- what someone who is up gets from a machine that asks: a query, and before it a reply at most
asked_last : (p : ℕ) (answer : Option ℕ) (v : ℕ) (ns : List Neighbour) → test_at (λ n. n.up) (slice_get ns p) ≡ true
    → (before : List Outgoing) × (query : Outgoing) × (query.kind ≡ Query) × (count_kind Query before ≡ 0) × (sent_to p (one_to answer Reply v ++ all_from 0 None Query v ns) ≡ before ++ query ∷ [])
asked_last p answer v ns up = (
  sent_to p (one_to answer Reply v),
  record { port = p; kind = Query; value = v },
  refl,
  count_one Query Reply p answer v,
  sent_append p (one_to answer Reply v) (all_from 0 None Query v ns) ∙ ap (λ t. sent_to p (one_to answer Reply v) ++ t) (sent_all p None Query v ns ∙ (rw up)),
)

-- every outcome in which the machine is active goes on or asks
goes_of : (m : Machine) (e : Event) (r : Reaction) → IsSound m → Outcome m e r → is_active r.machine ≡ true → GoesOrAsks m r
goes_of m e r sound (came_up q cost) act = inl (act, refl, λ p. greeting_count Query m p q refl)
goes_of m e r sound (goes_on _ c debt answer h some a) act = inl (rw h, refl, λ p. count_one Query Reply p answer m.rd)
goes_of m e r sound (asks _ fd debt answer dec a f some) act = inr (λ p up. asked_last p answer (via_successor (ways (with_records m e)) (with_records m e).successor) (records_after e m.ports) up)
goes_of m e r sound _ act = absurd (false≢true act)

-- a machine that is active after an event goes on with its distance, or asks everyone who is up
pub goes_on_or_asks : GoesOnOrAsks
goes_on_or_asks m e sound meets act = goes_of m e (reaction m e) sound (outcome m e sound meets) act

-- ---- news

-- a list with a last element is not empty
not_silent : (before : List Outgoing) (last : Outgoing) → before ++ last ∷ [] ≡ [] → ⊥
not_silent [] last e = cc
not_silent (s ∷ before) last e = cc

-- everyone who is up is sent something by a machine that asks
asked_told : (p : ℕ) (answer : Option ℕ) (v : ℕ) (ns : List Neighbour) → test_at (λ n. n.up) (slice_get ns p) ≡ true → sent_to p (one_to answer Reply v ++ all_from 0 None Query v ns) ≡ [] → ⊥
asked_told p answer v ns up silent =
    let last = asked_last p answer v ns up in
    not_silent last.0 last.1 (sym last.4 ∙ silent)

-- one message, if it is there
abbrev given : Bool → Outgoing → List Outgoing
given b s = if b then s ∷ [] else []

-- of two messages, one of which is there, some message is
one_given : (b : Bool) (s t : Outgoing) → given b s ++ given (not b) t ≡ [] → ⊥
one_given true s t e = cc
one_given false s t e = cc

-- everyone who is up is sent the reply owed to it, or else the update
settled_told : (p : ℕ) (owed : Option ℕ) (v : ℕ) (ns : List Neighbour) → test_at (λ n. n.up) (slice_get ns p) ≡ true → sent_to p (one_to owed Reply v ++ all_from 0 owed Update v ns) ≡ [] → ⊥
settled_told p owed v ns up silent =
    let reply : Outgoing = record { port = p; kind = Reply; value = v } in
    let update : Outgoing = record { port = p; kind = Update; value = v } in
    let parts : sent_to p (one_to owed Reply v ++ all_from 0 owed Update v ns) ≡ given (is_port p owed) reply ++ given (not (is_port p owed)) update =
    sent_append p (one_to owed Reply v) (all_from 0 owed Update v ns) ∙ (rw (sent_one p owed Reply v, sent_all p owed Update v ns, up)) in
    one_given (is_port p owed) reply update (sym parts ∙ silent)

-- a machine that is passive after the event has its old distance, or sends something to everyone who is up
changed_told : (owed : Option ℕ) (old v : ℕ) (ns : List Neighbour) → (v ≡ old) ⊎ ((q : ℕ) → test_at (λ n. n.up) (slice_get ns q) ≡ true → sent_to q (one_to owed Reply v ++ news_to_others owed old v ns) ≢ [])
changed_told owed old v ns = go (old == v) refl
  where
    go : (b : Bool) → (old == v) ≡ b → (v ≡ old) ⊎ ((q : ℕ) → test_at (λ n. n.up) (slice_get ns q) ≡ true → sent_to q (one_to owed Reply v ++ (if b then [] else all_from 0 owed Update v ns)) ≢ [])
    go true t = inl (sym (eqb-true old v t))
    go false t = inr (λ q up silent. settled_told q owed v ns up silent)

-- every outcome has the old distance, or sends something to everyone who is up
tells_of : (m : Machine) (e : Event) (r : Reaction) → Outcome m e r → (r.machine.rd ≡ m.rd) ⊎ ((p : ℕ) → is_up_at r.machine p ≡ true → sent_to p r.sends ≢ [])
tells_of m e r (settles _ fd owed dec a f) = changed_told owed m.rd (least (ways (with_records m e))) (records_after e m.ports)
tells_of m e r (asks _ fd debt answer dec a f some) = inr (λ p up silent. asked_told p answer (via_successor (ways (with_records m e)) (with_records m e).successor) (records_after e m.ports) up silent)
tells_of m e r (is_alone _ fd debt answer dec a f none) = inr (λ p up. absurd (both_ways _ (test_nowhere (λ n. n.up) (records_after e m.ports) p none) up))
tells_of m e r _ = inl refl

-- where the distance changes, everyone who is up is sent something
pub tells_all : TellsAll
tells_all m e sound meets = tells_of m e (reaction m e) (outcome m e sound meets)
