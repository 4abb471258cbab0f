-- What every state of a run keeps of each link and of what its ends were told.
use Rattle.std.proofs.Common.{◌≡◌, ℕ, zero, suc, ◌<◌, ◌≤◌, Bool, true, false, List, [], ◌∷◌, ◌++◌, length, refl, ap, sym, arith, ◌∙◌}
use Rattle.network_model.proofs.Common.{LinkEnd, SeenItem, SeenHeld, State, infinity}
use Rattle.network_model.specs.declared.machine.Outgoing.{Outgoing}
use Rattle.machine_laws.specs.Laws.{is_up_at, IsSound}
use Rattle.loop_freedom.specs.Network.{Topology, SameMachines, SameInboxes, SameLinks, SameCosts, SameHeld, held_for}
use Rattle.machine_laws.proofs.Sends.{EachSend}
use Rattle.least_cost.proofs.Replay.{Port, Fits, replay, port_in, session_rises, session_down}
use Rattle.least_cost.proofs.Told.{last_held, expected}

-- a link as one end has it, and as it is
pub record Line : Type 0 where
  pub port : Port
  pub inbox : List SeenItem
  pub up : Bool
  pub session : ℕ
  pub cost : ℕ

-- what the port will be once everything that waits there is taken
abbrev pub pending : Line → Port
pending l = replay l.inbox l.port

-- what waits at the port may be taken, and leaves it as the link is: up or down, its session, and its cost while it is up
pub record LineKept (l : Line) : Type 0 where
  pub positive : 0 < l.cost
  pub fits : Fits l.inbox l.port
  pub end_up : (pending l).up ≡ l.up
  pub end_session : (pending l).session ≡ l.session
  pub end_cost : l.up ≡ true → (pending l).cost ≡ l.cost

-- the port at place e, as the router has it
abbrev pub port_at : State → LinkEnd → Port
port_at s e = port_in (s.machine e.router).ports e.port (s.seen e)

-- the link at place e, as the router there has it and as it is
abbrev pub line : State → LinkEnd → Line
line s e = record { port = port_at s e; inbox = s.inbox e; up = s.up e; session = s.session e; cost = s.cost e }

-- what is held at place e: ripe first, then unripe
abbrev pub held : State → LinkEnd → List SeenHeld
held s e = s.ripe e ++ s.unripe e

-- held for no later session than n, and with no value above infinity
pub record IsRecent (n : ℕ) (h : SeenHeld) : Type 0 where
  pub past : h.session ≤ n
  pub bounded : h.message.value ≤ infinity

-- all that is held is for no later session, with no value above infinity
abbrev pub AllRecent : ℕ → List SeenHeld → Type 0
AllRecent n [] = Unit {0}
AllRecent n (h ∷ hs) = (IsRecent n h) × (AllRecent n hs)

-- two such lists are such a list in a row
pub recent_append : (n : ℕ) (xs ys : List SeenHeld) → AllRecent n xs → AllRecent n ys → AllRecent n (xs ++ ys)
recent_append n [] ys f g = g
recent_append n (x ∷ xs) ys f g = (f.0, recent_append n xs ys f.1 g)

-- what is held for no later session than n is held for none later than k
pub recent_more : (n k : ℕ) (xs : List SeenHeld) → n ≤ k → AllRecent n xs → AllRecent k xs
recent_more n k [] l f = tt
recent_more n k (x ∷ xs) l f = (record { past = omega (arith, l, f.0.past); bounded = f.0.bounded }, recent_more n k xs l f.1)

-- what is sent with a distance of at most infinity, and held for session k, is such a list
pub recent_sent : (n k rd : ℕ) (ss : List Outgoing) → k ≤ n → rd ≤ infinity → EachSend (λ s. s.value ≡ rd) ss → AllRecent n (held_for k ss)
recent_sent n k rd [] l b f = tt
recent_sent n k rd (s ∷ ss) l b f = (record { past = l; bounded = omega (arith, f s zero refl, b) }, recent_sent n k rd ss l b (λ x j e. f x (suc j) e))

-- on a link that is up, the last value that the far end has taken, or will, is what it is to be told
abbrev pub Sees : Topology → State → LinkEnd → Type 0
Sees t s e = s.up e ≡ true → last_held (s.session e) (pending (line s (t.far e))).reported (held s e) ≡ expected (s.seen e) (s.session e) (s.machine e.router).rd

-- what every state of a run keeps
pub record Kept (t : Topology) (s : State) : Type 0 where
  pub sound : (i : ℕ) → IsSound (s.machine i)
  pub there : (e : LinkEnd) → t.valid e ≡ true → e.port < length (s.machine e.router).ports
  pub up_valid : (e : LinkEnd) → is_up_at (s.machine e.router) e.port ≡ true → t.valid e ≡ true
  pub lines : (e : LinkEnd) → t.valid e ≡ true → LineKept (line s e)
  pub ends_up : (e : LinkEnd) → t.valid e ≡ true → s.up (t.far e) ≡ s.up e
  pub ends_session : (e : LinkEnd) → t.valid e ≡ true → s.session (t.far e) ≡ s.session e
  pub recent : (e : LinkEnd) → t.valid e ≡ true → AllRecent (s.session e) (held s e)
  pub sight : (e : LinkEnd) → t.valid e ≡ true → Sees t s e

-- a port in the present session of a link that is up is up
pub current_up : (l : Line) → LineKept l → l.up ≡ true → l.port.session ≡ l.session → l.port.up ≡ true
current_up l k u s = go l.port.up refl
  where
    go : (b : Bool) → l.port.up ≡ b → l.port.up ≡ true
    go true h = h
    go false h = absurd (omega (arith, session_down l.inbox l.port k.fits h (k.end_up ∙ u), k.end_session, s))

-- no port is in a later session than its link
pub seen_past : (l : Line) → LineKept l → l.port.session ≤ l.session
seen_past l k = omega (arith, session_rises l.inbox l.port k.fits, k.end_session)

-- ---- places

-- places of the same router and port are the same
pub place_same : (a : LinkEnd) (r p : ℕ) → r ≡ a.router → p ≡ a.port → (let e : LinkEnd = record { router = r; port = p } in e ≡ a)
place_same a r p h k = rw (h, k) refl

-- places with the same far end are the same
pub far_same : (t : Topology) (e a : LinkEnd) → t.valid e ≡ true → t.valid a ≡ true → t.far e ≡ t.far a → e ≡ a
far_same t e a ve va h = sym (t.far_far e ve) ∙ ap t.far h ∙ t.far_far a va

-- ---- steps that leave parts of a state

-- where the machine and all of the link stay the same, so does the line
pub line_same : (old new : State) (e : LinkEnd) → new.machine e.router ≡ old.machine e.router → new.seen e ≡ old.seen e → new.inbox e ≡ old.inbox e → new.up e ≡ old.up e → new.session e ≡ old.session e → new.cost e ≡ old.cost e
    → line new e ≡ line old e
line_same old new e m s i u n c = rw (m, s, i, u, n, c) refl

-- where what a line shows stays the same, the far end sees what it saw
pub sees_same : (t : Topology) (old new : State) (e : LinkEnd) → new.up e ≡ old.up e → new.session e ≡ old.session e → (pending (line new (t.far e))).reported ≡ (pending (line old (t.far e))).reported
    → held new e ≡ held old e → new.seen e ≡ old.seen e → new.machine e.router ≡ old.machine e.router → Sees t old e → Sees t new e
sees_same t old new e u n p h s m sight up =
    ap (λ x. last_held x (pending (line new (t.far e))).reported (held new e)) n
    ∙ ap (λ x. last_held (old.session e) x (held new e)) p
    ∙ ap (last_held (old.session e) (pending (line old (t.far e))).reported) h
    ∙ sight (sym u ∙ up)
    ∙ (rw (s, n, m) refl)

-- a step that leaves the machines leaves the ports
pub port_same : (old new : State) → SameMachines old new → (e : LinkEnd) → port_at new e ≡ port_at old e
port_same old new m e = rw (m.machine_same e.router, m.seen_same e) refl

-- a step that leaves what is ripe and unripe leaves what is held
pub held_same : (old new : State) → SameHeld old new → (e : LinkEnd) → held new e ≡ held old e
held_same old new h e = rw (h.ripe_same e, h.unripe_same e) refl

-- what is left to show of a step that leaves the machines
pub record KeptLinks (t : Topology) (s : State) : Type 0 where
  pub lines : (e : LinkEnd) → t.valid e ≡ true → LineKept (line s e)
  pub ends_up : (e : LinkEnd) → t.valid e ≡ true → s.up (t.far e) ≡ s.up e
  pub ends_session : (e : LinkEnd) → t.valid e ≡ true → s.session (t.far e) ≡ s.session e
  pub recent : (e : LinkEnd) → t.valid e ≡ true → AllRecent (s.session e) (held s e)
  pub sight : (e : LinkEnd) → t.valid e ≡ true → Sees t s e

-- a step that leaves the machines, and keeps the links, keeps the state
pub kept_links : (t : Topology) (old new : State) → Kept t old → SameMachines old new → KeptLinks t new → Kept t new
kept_links t old new k m l = record {
  sound = λ i. rw (m.machine_same i) (k.sound i);
  there = λ e v. rw (m.machine_same e.router) (k.there e v);
  up_valid = λ e u. k.up_valid e (rw (m.machine_same e.router) at u);
  lines = l.lines;
  ends_up = l.ends_up;
  ends_session = l.ends_session;
  recent = l.recent;
  sight = l.sight;
}

-- the ends of a link agree on whether it is up after a step that leaves the links
pub ends_up_same : (t : Topology) (old new : State) → Kept t old → SameLinks old new → (e : LinkEnd) → t.valid e ≡ true → new.up (t.far e) ≡ new.up e
ends_up_same t old new k l e v = l.up_same (t.far e) ∙ k.ends_up e v ∙ sym (l.up_same e)

-- the ends of a link agree on its session after a step that leaves the sessions
pub ends_session_same : (t : Topology) (old new : State) → Kept t old → ((e : LinkEnd) → new.session e ≡ old.session e) → (e : LinkEnd) → t.valid e ≡ true → new.session (t.far e) ≡ new.session e
ends_session_same t old new k same e v = same (t.far e) ∙ k.ends_session e v ∙ sym (same e)

-- a step that leaves the machines, inboxes, links, costs and what is held keeps the state
pub kept_same : (t : Topology) (old new : State) → SameMachines old new → SameInboxes old new → SameLinks old new → SameCosts old new → ((e : LinkEnd) → held new e ≡ held old e) → Kept t old → Kept t new
kept_same t old new m i l c h k = kept_links t old new k m (record {
  lines = λ e v. rw (same e) (k.lines e v);
  ends_up = ends_up_same t old new k l;
  ends_session = ends_session_same t old new k l.session_same;
  recent = λ e v. rw (l.session_same e, h e) (k.recent e v);
  sight = λ e v. sees_same t old new e (l.up_same e) (l.session_same e) (ap (λ x. (pending x).reported) (same (t.far e))) (h e) (m.seen_same e) (m.machine_same e.router) (k.sight e v);
})
  where
    same : (e : LinkEnd) → line new e ≡ line old e
    same e = line_same old new e (m.machine_same e.router) (m.seen_same e) (i.inbox_same e) (l.up_same e) (l.session_same e) (c.cost_same e)
