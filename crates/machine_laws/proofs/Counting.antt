-- Queries and replies are counted exactly: what is awaited and what is owed, at each port.
use Rattle.std.proofs.Common.{◌≡◌, ℕ, zero, suc, ◌+◌, Bool, true, false, List, [], ◌∷◌, ◌++◌, Option, Some, None, map, refl, ap, sym, arith, ◌∙◌, slice_get, ◌==◌, if◌then◌else◌}
use Rattle.network_model.proofs.Common.{option_map_or, list_any, and-true, both_ways, false_from_ne_true, Kind, Update, Query, Reply, Machine, Computation, Reaction, is_port, via_successor, ways, records_after, with_records, one_to, all_from, changed_at, news_to_others, least, awaited_after, greeting, reaction, one_if, infinity}
use Rattle.network_model.specs.{declared.machine.Event.Event, declared.machine.Neighbour.Neighbour, declared.machine.Outgoing.Outgoing}
use Rattle.machine_laws.specs.Laws.{released, is_kind, sent_to, count_kind, test_at, is_up_at, awaits, owes_port, is_message, is_down, IsSound, CountsQueries, CountsReplies}
use Rattle.machine_laws.proofs.Sends.{sent_append, count_append, count_one, count_all}
use Rattle.machine_laws.proofs.Events.{is_port-Some, replied_by, released_by}
use Rattle.machine_laws.proofs.Outcomes.{Account, Outcome, came_up, goes_on, settles, asks, is_alone, outcome, active_awaits, awaited_kept, test_nowhere, waiting, awaited_after_is}

-- two truth values that follow from each other are the same
pub same_truth : (a b : Bool) → (a ≡ true → b ≡ true) → (b ≡ true → a ≡ true) → a ≡ b
same_truth true b f g = sym (f refl)
same_truth false true f g = g refl
same_truth false false f g = refl

-- a port gets of two lists in a row the messages of a kind that it gets of both
pub count_both : (k : Kind) (p : ℕ) (xs ys : List Outgoing) → count_kind k (sent_to p (xs ++ ys)) ≡ count_kind k (sent_to p xs) + count_kind k (sent_to p ys)
count_both k p xs ys = ap (count_kind k) (sent_append p xs ys) ∙ count_append k (sent_to p xs) (sent_to p ys)

-- news of a distance are updates alone
count_changed : (k : Kind) (p : ℕ) (but : Option ℕ) (old new : ℕ) (ns : List Neighbour) → is_kind k Update ≡ false → count_kind k (sent_to p (news_to_others but old new ns)) ≡ 0
count_changed k p but old new ns other = go (old == new)
  where
    go : (b : Bool) → count_kind k (sent_to p (if b then [] else all_from 0 but Update new ns)) ≡ 0
    go true = refl
    go false = count_all k Update p but new ns ∙ (rw other)

-- a machine that is passive after the event sends no query
settled_queries : (p : ℕ) (owed : Option ℕ) (old new : ℕ) (ns : List Neighbour) → count_kind Query (sent_to p (one_to owed Reply new ++ news_to_others owed old new ns)) ≡ 0
settled_queries p owed old new ns = omega (arith, count_both Query p (one_to owed Reply new) (news_to_others owed old new ns), count_one Query Reply p owed new, count_changed Query p owed old new ns refl)

-- a machine that is passive after the event replies to the port that is owed a reply, and to no other
settled_replies : (p : ℕ) (owed : Option ℕ) (old new : ℕ) (ns : List Neighbour) → count_kind Reply (sent_to p (one_to owed Reply new ++ news_to_others owed old new ns)) ≡ one_if (is_port p owed)
settled_replies p owed old new ns = omega (arith, count_both Reply p (one_to owed Reply new) (news_to_others owed old new ns), count_one Reply Reply p owed new, count_changed Reply p owed old new ns refl)

-- a computation that begins asks each port that is up once
asked_queries : (p : ℕ) (answer : Option ℕ) (v : ℕ) (ns : List Neighbour) → count_kind Query (sent_to p (one_to answer Reply v ++ all_from 0 None Query v ns)) ≡ one_if (test_at (λ n. n.up) (slice_get ns p))
asked_queries p answer v ns =
    let up = test_at (λ n. n.up) (slice_get ns p) in
    count_both Query p (one_to answer Reply v) (all_from 0 None Query v ns) ∙ omega (arith, count_one Query Reply p answer v, count_all Query Query p None v ns, ap one_if (and-true up))

-- a computation that begins replies to the port that is answered, and to no other
asked_replies : (p : ℕ) (answer : Option ℕ) (v : ℕ) (ns : List Neighbour) → count_kind Reply (sent_to p (one_to answer Reply v ++ all_from 0 None Query v ns)) ≡ one_if (is_port p answer)
asked_replies p answer v ns = omega (arith, count_both Reply p (one_to answer Reply v) (all_from 0 None Query v ns), count_one Reply Reply p answer v, count_all Reply Query p None v ns)

-- a greeting is an update alone
pub greeting_count : (k : Kind) (m : Machine) (p q : ℕ) → is_kind k Update ≡ false → count_kind k (sent_to p (greeting m q)) ≡ 0
greeting_count k m p q other = go (m.rd == infinity)
  where
    go : (b : Bool) → count_kind k (sent_to p (if b then [] else one_to (Some q) Update m.rd)) ≡ 0
    go true = refl
    go false = count_one k Update p (Some q) m.rd ∙ (rw other)

-- where an event releases all who were awaited, a port whose link is not lost was awaited just where the event is its reply
replied_all : (m : Machine) (e : Event) (p : ℕ) → ((k : ℕ) → awaits m k ≡ true → released e ≡ Some k) → is_down p e ≡ false → (is_message Reply p e ≡ true → awaits m p ≡ true) → is_message Reply p e ≡ awaits m p
replied_all m e p over d fair = same_truth (is_message Reply p e) (awaits m p) fair (λ a. released_by p e d (over p a))

-- who is awaited when a computation begins is who is up
pub awaited_up : (p : ℕ) (ns : List Neighbour) → test_at (λ b. b) (slice_get (map (λ n. n.up) ns) p) ≡ test_at (λ n. n.up) (slice_get ns p)
awaited_up p [] = refl
awaited_up zero (n ∷ ns) = refl
awaited_up (suc p) (n ∷ ns) = awaited_up p ns

-- the port that is released is awaited no longer
pub awaited_off : (e : Event) (p : ℕ) (bs : List Bool) → released e ≡ Some p → test_at (λ b. b) (slice_get (awaited_after e bs) p) ≡ false
awaited_off e p bs h = ap (λ xs. test_at (λ b. b) (slice_get xs p)) (awaited_after_is e bs ∙ ap (λ o. option_map_or (λ j. changed_at j (λ b. false) bs) o bs) h) ∙ off p bs
  where
    off : (q : ℕ) (cs : List Bool) → test_at (λ b. b) (slice_get (changed_at q (λ b. false) cs) q) ≡ false
    off q [] = refl
    off zero (c ∷ cs) = refl
    off (suc q) (c ∷ cs) = off q cs

-- the law of queries for one reaction and one port
abbrev QueriesCount : Machine → Event → Reaction → ℕ → Type 0
QueriesCount m e r p = one_if (awaits r.machine p) + one_if (is_message Reply p e) ≡ one_if (awaits m p) + count_kind Query (sent_to p r.sends)

-- a computation that goes on counts its queries
waiting_queries : (m : Machine) (e : Event) (c : Computation) (debt answer : Option ℕ) (p : ℕ) → m.computation ≡ Some c → is_down p e ≡ false → (is_message Reply p e ≡ true → awaits m p ≡ true)
    → QueriesCount m e (waiting (with_records m e) e c.awaited debt answer) p
waiting_queries m e c debt answer p h d fair = go (is_message Reply p e) refl
  where
    none : count_kind Query (sent_to p (one_to answer Reply m.rd)) ≡ 0
    none = count_one Query Reply p answer m.rd

    go : (b : Bool) → is_message Reply p e ≡ b → QueriesCount m e (waiting (with_records m e) e c.awaited debt answer) p
    go true t = rw (awaited_off e p c.awaited (replied_by p e t), t, fair t, none) refl
    go false t =
        let same = ap (test_at (λ b. b)) (awaited_kept e p c.awaited (λ k. both_ways _ t (released_by p e d k))) in
        rw (same, t, active_awaits m c p h, none) refl

queries_of : (m : Machine) (e : Event) (r : Reaction) → IsSound m → Outcome m e r → (p : ℕ) → is_down p e ≡ false → (is_message Reply p e ≡ true → awaits m p ≡ true) → QueriesCount m e r p
queries_of m e r sound (came_up q cost) p d fair = rw (greeting_count Query m p q refl) refl
queries_of m e r sound (goes_on _ c debt answer h some a) p d fair = waiting_queries m e c debt answer p h d fair
queries_of m e r sound (settles _ fd owed dec a f) p d fair = rw (settled_queries p owed m.rd (least (ways (with_records m e))) (records_after e m.ports), replied_all m e p dec.over d fair) (omega arith)
queries_of m e r sound (asks _ fd debt answer dec a f some) p d fair =
    let v = via_successor (ways (with_records m e)) (with_records m e).successor in
    rw (asked_queries p answer v (records_after e m.ports), awaited_up p (records_after e m.ports), replied_all m e p dec.over d fair) (omega arith)
queries_of m e r sound (is_alone _ fd debt answer dec a f none) p d fair = rw (replied_all m e p dec.over d fair) (omega arith)

-- what is awaited grows by the queries sent and falls by the reply taken
pub counts_queries : CountsQueries
counts_queries m e sound meets p d fair = queries_of m e (reaction m e) sound (outcome m e sound meets) p d fair

-- the law of replies for one reaction and one port
abbrev RepliesCount : Machine → Event → Reaction → ℕ → Type 0
RepliesCount m e r p = one_if (owes_port r.machine p) + count_kind Reply (sent_to p r.sends) ≡ one_if (owes_port m p) + one_if (is_message Query p e)

-- with no one up nothing is owed, and nobody is answered
alone_account : (m : Machine) (e : Event) (debt answer : Option ℕ) (p : ℕ) → IsSound m → Account m e debt answer → list_any (λ n. n.up) (records_after e m.ports) ≡ false → (is_port p debt ≡ false) × (is_port p answer ≡ false)
alone_account m e debt answer p sound a none =
    let down : is_up_at (with_records m e) p ≡ false = test_nowhere (λ n. n.up) (records_after e m.ports) p none in (
      false_from_ne_true (is_port p debt) (λ t. both_ways (is_up_at (with_records m e) p) down (a.debt_up p (is_port-Some p debt t))),
      false_from_ne_true (is_port p answer) (λ t. both_ways (is_up_at (with_records m e) p) down (a.answer_up p (is_port-Some p answer t))),
    )

replies_of : (m : Machine) (e : Event) (r : Reaction) → IsSound m → Outcome m e r → (p : ℕ) → is_down p e ≡ false → (is_message Query p e ≡ true → owes_port m p ≡ false) → RepliesCount m e r p
replies_of m e r sound (came_up q cost) p d fair = rw (greeting_count Reply m p q refl) refl
replies_of m e r sound (goes_on _ c debt answer h some a) p d fair = rw (count_one Reply Reply p answer m.rd) (a.balance p d fair)
replies_of m e r sound (settles _ fd owed dec a f) p d fair = rw (settled_replies p owed m.rd (least (ways (with_records m e))) (records_after e m.ports)) (a.balance p d fair)
replies_of m e r sound (asks _ fd debt answer dec a f some) p d fair =
    rw (asked_replies p answer (via_successor (ways (with_records m e)) (with_records m e).successor) (records_after e m.ports)) (a.balance p d fair)
replies_of m e r sound (is_alone _ fd debt answer dec a f none) p d fair =
    let parts = alone_account m e debt answer p sound a none in
    let balance = a.balance p d fair in
    rw (parts.0, parts.1) at balance

-- what is owed grows by the query taken and falls by the replies sent
pub counts_replies : CountsReplies
counts_replies m e sound meets p d fair = replies_of m e (reaction m e) sound (outcome m e sound meets) p d fair
