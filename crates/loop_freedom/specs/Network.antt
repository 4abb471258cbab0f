-- How a network as one prefix sees it moves: its steps and runs, and the walks along which traffic goes.
use Rattle.std.specs.Prelude.{◌≡◌, ◌⊎◌, ℕ, suc, ◌<◌, Bool, true, false, ◌&&◌, ◌||◌, ◌==◌, if◌then◌else◌, List, [], ◌∷◌, ◌++◌, Option, Some, None, slice_get, length}
use Rattle.network_model.specs.{declared.machine.Neighbour.Neighbour, declared.machine.Event.Event, declared.machine.Outgoing.Outgoing, declared.route.NextHop.NextHop}
use Rattle.network_model.specs.declared.machine.Event.TheVariants.{Message, Up, Down, Cost}
use Rattle.network_model.specs.Machine.{reaction, opening_machine, port_successor, event_at_home}
use Rattle.metric.specs.Distance.{infinity}
use Rattle.network_model.specs.View.{LinkEnd, SeenItem, UpNotice, DownNotice, CostNotice, Reported, SeenHeld, State, at_port}
use Rattle.machine_laws.specs.Laws.{sent_to, is_up_at}

-- which link ends there are, and which end is across each link
pub record Topology : Type 0 where
  pub far : LinkEnd → LinkEnd
  pub valid : LinkEnd → Bool
  pub far_valid : (e : LinkEnd) → valid e ≡ true → valid (far e) ≡ true
  pub far_far : (e : LinkEnd) → valid e ≡ true → far (far e) ≡ e

-- the event that an item is to the machine, at port q
abbrev pub event_of : ℕ → SeenItem → Event
event_of q (UpNotice s c) = Up q c
event_of q (DownNotice s) = Down q
event_of q (CostNotice s c) = Cost q c
event_of q (Reported m) = Message q m.kind m.value

-- the session seen at a port after an item is taken there
abbrev pub seen_after : SeenItem → ℕ → ℕ
seen_after (UpNotice s c) old = s
seen_after _ old = old

-- the items without the messages
abbrev pub notices : List SeenItem → List SeenItem
notices [] = []
notices (UpNotice s c ∷ is) = UpNotice s c ∷ notices is
notices (DownNotice s ∷ is) = DownNotice s ∷ notices is
notices (CostNotice s c ∷ is) = CostNotice s c ∷ notices is
notices (Reported m ∷ is) = notices is

-- what is sent, as held for one session
abbrev pub held_for : ℕ → List Outgoing → List SeenHeld
held_for n [] = []
held_for n (s ∷ ss) = record { session = n; message = record { kind = s.kind; value = s.value } } ∷ held_for n ss

-- the next hop that a port makes that is the successor: the port, with the session seen there
abbrev pub next_hop_of : (ℕ → ℕ) → Option ℕ → Option NextHop
next_hop_of seen None = None
next_hop_of seen (Some q) = Some (record { port = q; session = seen q })

-- ---- what a step leaves alone

-- each link is up or down as before, in the same session
pub record SameLinks (old new : State) : Type 0 where
  pub up_same : (e : LinkEnd) → new.up e ≡ old.up e
  pub session_same : (e : LinkEnd) → new.session e ≡ old.session e

-- each machine is as before, and so is the session seen at each port
pub record SameMachines (old new : State) : Type 0 where
  pub machine_same : (i : ℕ) → new.machine i ≡ old.machine i
  pub seen_same : (e : LinkEnd) → new.seen e ≡ old.seen e

-- each router's published successor and published feasible distance are as before
pub record SamePublished (old new : State) : Type 0 where
  pub published_same : (i : ℕ) → new.published i ≡ old.published i
  pub published_fd_same : (i : ℕ) → new.published_fd i ≡ old.published_fd i

-- the items that each end has yet to take are as before
pub record SameInboxes (old new : State) : Type 0 where
  pub inbox_same : (e : LinkEnd) → new.inbox e ≡ old.inbox e

-- what each router holds for each port is as before, ripe and unripe
pub record SameHeld (old new : State) : Type 0 where
  pub ripe_same : (e : LinkEnd) → new.ripe e ≡ old.ripe e
  pub unripe_same : (e : LinkEnd) → new.unripe e ≡ old.unripe e

-- the cost from each end is as before
pub record SameCosts (old new : State) : Type 0 where
  pub cost_same : (e : LinkEnd) → new.cost e ≡ old.cost e

-- ---- steps

-- the router at end a takes its oldest item there: its machine reacts, and what it sends is held, unripe
pub record Take (t : Topology) (old new : State) : Type 0 where
  pub a : LinkEnd
  pub item : SeenItem
  pub valid_place : t.valid a ≡ true
  pub inbox_at : old.inbox a ≡ item ∷ new.inbox a
  pub inbox_elsewhere : (e : LinkEnd) → (e ≡ a → ⊥) → new.inbox e ≡ old.inbox e
  pub machine_at : new.machine a.router ≡ (reaction (old.machine a.router) (event_of a.port item)).machine
  pub machine_elsewhere : (i : ℕ) → (i ≡ a.router → ⊥) → new.machine i ≡ old.machine i
  pub seen_at : new.seen a ≡ seen_after item (old.seen a)
  pub seen_elsewhere : (e : LinkEnd) → (e ≡ a → ⊥) → new.seen e ≡ old.seen e
  pub unripe_at : (e : LinkEnd) → e.router ≡ a.router → new.unripe e ≡ old.unripe e ++ held_for (new.seen e) (sent_to e.port (reaction (old.machine a.router) (event_of a.port item)).sends)
  pub unripe_elsewhere : (e : LinkEnd) → (e.router ≡ a.router → ⊥) → new.unripe e ≡ old.unripe e
  pub ripe_same : (e : LinkEnd) → new.ripe e ≡ old.ripe e
  pub links : SameLinks old new
  pub costs : SameCosts old new
  pub publications : SamePublished old new

-- router i takes a notice of its attachment, which is its cost, or none where it is gone: its machine reacts, and what it sends is held, unripe
pub record TakeAtHome (t : Topology) (old new : State) : Type 0 where
  pub i : ℕ
  pub notice : Option ℕ
  pub positive : (c : ℕ) → notice ≡ Some c → 0 < c
  pub machine_at : new.machine i ≡ (reaction (old.machine i) (event_at_home notice)).machine
  pub machine_elsewhere : (j : ℕ) → (j ≡ i → ⊥) → new.machine j ≡ old.machine j
  pub unripe_at : (e : LinkEnd) → e.router ≡ i → new.unripe e ≡ old.unripe e ++ held_for (old.seen e) (sent_to e.port (reaction (old.machine i) (event_at_home notice)).sends)
  pub unripe_elsewhere : (e : LinkEnd) → (e.router ≡ i → ⊥) → new.unripe e ≡ old.unripe e
  pub seen_same : (e : LinkEnd) → new.seen e ≡ old.seen e
  pub ripe_same : (e : LinkEnd) → new.ripe e ≡ old.ripe e
  pub inboxes : SameInboxes old new
  pub links : SameLinks old new
  pub costs : SameCosts old new
  pub publications : SamePublished old new

-- router j publishes its successor, where that is a port, and its feasible distance, and all that it holds is ripe
pub record Publish (t : Topology) (old new : State) : Type 0 where
  pub j : ℕ
  pub published_at : new.published j ≡ next_hop_of (λ q. old.seen (at_port j q)) (port_successor (old.machine j))
  pub published_fd_at : new.published_fd j ≡ (old.machine j).fd
  pub published_elsewhere : (i : ℕ) → (i ≡ j → ⊥) → new.published i ≡ old.published i
  pub published_fd_elsewhere : (i : ℕ) → (i ≡ j → ⊥) → new.published_fd i ≡ old.published_fd i
  pub ripe_at : (e : LinkEnd) → e.router ≡ j → new.ripe e ≡ old.ripe e ++ old.unripe e
  pub unripe_at : (e : LinkEnd) → e.router ≡ j → new.unripe e ≡ []
  pub ripe_elsewhere : (e : LinkEnd) → (e.router ≡ j → ⊥) → new.ripe e ≡ old.ripe e
  pub unripe_elsewhere : (e : LinkEnd) → (e.router ≡ j → ⊥) → new.unripe e ≡ old.unripe e
  pub machines : SameMachines old new
  pub inboxes : SameInboxes old new
  pub links : SameLinks old new
  pub costs : SameCosts old new

-- what a released message adds across the link: itself, where the link is up in the message's session, else nothing
abbrev pub arriving : State → LinkEnd → SeenHeld → List SeenItem
arriving s a h = if s.up a && (h.session == s.session a) then Reported h.message ∷ [] else []

-- the oldest ripe message for end a leaves its router
pub record Release (t : Topology) (old new : State) : Type 0 where
  pub a : LinkEnd
  pub first : SeenHeld
  pub valid_place : t.valid a ≡ true
  pub ripe_at : old.ripe a ≡ first ∷ new.ripe a
  pub ripe_elsewhere : (e : LinkEnd) → (e ≡ a → ⊥) → new.ripe e ≡ old.ripe e
  pub inbox_at : new.inbox (t.far a) ≡ old.inbox (t.far a) ++ arriving old a first
  pub inbox_elsewhere : (e : LinkEnd) → (e ≡ t.far a → ⊥) → new.inbox e ≡ old.inbox e
  pub unripe_same : (e : LinkEnd) → new.unripe e ≡ old.unripe e
  pub machines : SameMachines old new
  pub links : SameLinks old new
  pub costs : SameCosts old new
  pub publications : SamePublished old new

-- e is one of the two ends of the link at a
abbrev pub IsEnd : Topology → LinkEnd → LinkEnd → Type 0
IsEnd t a e = (e ≡ a) ⊎ (e ≡ t.far a)

-- the link at a comes up, in the next session, and both ends are told
pub record LinkUp (t : Topology) (old new : State) : Type 0 where
  pub a : LinkEnd
  pub valid_place : t.valid a ≡ true
  pub was_down : old.up a ≡ false
  pub up_at : (e : LinkEnd) → IsEnd t a e → new.up e ≡ true
  pub session_at : (e : LinkEnd) → IsEnd t a e → new.session e ≡ suc (old.session e)
  pub inbox_at : (e : LinkEnd) → IsEnd t a e → new.inbox e ≡ old.inbox e ++ UpNotice (new.session e) (new.cost e) ∷ []
  pub up_elsewhere : (e : LinkEnd) → (IsEnd t a e → ⊥) → new.up e ≡ old.up e
  pub session_elsewhere : (e : LinkEnd) → (IsEnd t a e → ⊥) → new.session e ≡ old.session e
  pub inbox_elsewhere : (e : LinkEnd) → (IsEnd t a e → ⊥) → new.inbox e ≡ old.inbox e
  pub machines : SameMachines old new
  pub holdings : SameHeld old new
  pub costs : SameCosts old new
  pub publications : SamePublished old new

-- the link at a goes down: the messages on it are lost, and both ends are told
pub record LinkDown (t : Topology) (old new : State) : Type 0 where
  pub a : LinkEnd
  pub valid_place : t.valid a ≡ true
  pub was_up : old.up a ≡ true
  pub up_at : (e : LinkEnd) → IsEnd t a e → new.up e ≡ false
  pub inbox_at : (e : LinkEnd) → IsEnd t a e → new.inbox e ≡ notices (old.inbox e) ++ DownNotice (old.session e) ∷ []
  pub up_elsewhere : (e : LinkEnd) → (IsEnd t a e → ⊥) → new.up e ≡ old.up e
  pub inbox_elsewhere : (e : LinkEnd) → (IsEnd t a e → ⊥) → new.inbox e ≡ old.inbox e
  pub session_same : (e : LinkEnd) → new.session e ≡ old.session e
  pub machines : SameMachines old new
  pub holdings : SameHeld old new
  pub costs : SameCosts old new
  pub publications : SamePublished old new

-- the cost from end a, of a link that is up, is set, and that end is told
pub record SetCost (t : Topology) (old new : State) : Type 0 where
  pub a : LinkEnd
  pub valid_place : t.valid a ≡ true
  pub was_up : old.up a ≡ true
  pub positive : 0 < new.cost a
  pub cost_elsewhere : (e : LinkEnd) → (e ≡ a → ⊥) → new.cost e ≡ old.cost e
  pub inbox_at : new.inbox a ≡ old.inbox a ++ CostNotice (old.session a) (new.cost a) ∷ []
  pub inbox_elsewhere : (e : LinkEnd) → (e ≡ a → ⊥) → new.inbox e ≡ old.inbox e
  pub machines : SameMachines old new
  pub holdings : SameHeld old new
  pub links : SameLinks old new
  pub publications : SamePublished old new

-- nothing of this destination changed
pub record Skip (t : Topology) (old new : State) : Type 0 where
  pub machines : SameMachines old new
  pub inboxes : SameInboxes old new
  pub holdings : SameHeld old new
  pub links : SameLinks old new
  pub costs : SameCosts old new
  pub publications : SamePublished old new

-- one step of a network, as one destination sees it
pub data Step (t : Topology) (old new : State) : Type 0 where
  Takes : Take t old new → Step t old new
  TakesAtHome : TakeAtHome t old new → Step t old new
  Publishes : Publish t old new → Step t old new
  Releases : Release t old new → Step t old new
  LinkComes : LinkUp t old new → Step t old new
  LinkGoes : LinkDown t old new → Step t old new
  CostChanges : SetCost t old new → Step t old new
  Skips : Skip t old new → Step t old new

-- ---- runs

-- steps, one after another, lead from the first state to the last
pub data Run (t : Topology) (first : State) : State → Type 0 where
  Start : Run t first first
  Then : {middle last : State} → Run t first middle → Step t middle last → Run t first last

-- the ports of a router before its first link comes up: down, with a positive cost, and nothing reported
pub record OpeningPorts (ns : List Neighbour) : Type 0 where
  pub ports_down : (p : ℕ) (n : Neighbour) → slice_get ns p ≡ Some n → n.up ≡ false
  pub ports_cost : (p : ℕ) (n : Neighbour) → slice_get ns p ≡ Some n → 0 < n.cost
  pub ports_report : (p : ℕ) (n : Neighbour) → slice_get ns p ≡ Some n → n.reported ≡ infinity

-- the state before the first step: all links are down, nothing is queued or held, and no successor is published
pub record Opening (t : Topology) (s : State) : Type 0 where
  pub attachment : ℕ → Option ℕ
  pub attachment_range : (i : ℕ) (c : ℕ) → attachment i ≡ Some c → (0 < c) × (c < infinity)
  pub ports : ℕ → List Neighbour
  pub opening_ports : (i : ℕ) → OpeningPorts (ports i)
  pub ports_there : (e : LinkEnd) → t.valid e ≡ true → e.port < length (ports e.router)
  pub machines : (i : ℕ) → s.machine i ≡ opening_machine (attachment i) (ports i)
  pub seen_none : (e : LinkEnd) → s.seen e ≡ 0
  pub all_down : (e : LinkEnd) → s.up e ≡ false
  pub session_none : (e : LinkEnd) → s.session e ≡ 0
  pub cost_positive : (e : LinkEnd) → t.valid e ≡ true → 0 < s.cost e
  pub inbox_empty : (e : LinkEnd) → s.inbox e ≡ []
  pub ripe_empty : (e : LinkEnd) → s.ripe e ≡ []
  pub unripe_empty : (e : LinkEnd) → s.unripe e ≡ []
  pub nothing_published : (i : ℕ) → s.published i ≡ None
  pub opening_fd : (i : ℕ) → s.published_fd i ≡ (s.machine i).fd

-- ---- edges and walks

-- the router published e as its next hop, in the present session of the link there, which is up
pub record PublishedEdge (s : State) (e : LinkEnd) : Type 0 where
  pub linked : s.up e ≡ true
  pub chosen : s.published e.router ≡ Some (record { port = e.port; session = s.session e })

-- the router's machine has its successor at e, and the router knows of the link's present session; the link is up
pub record ControlEdge (s : State) (e : LinkEnd) : Type 0 where
  pub linked : s.up e ≡ true
  pub port_up : is_up_at (s.machine e.router) e.port ≡ true
  pub present : s.seen e ≡ s.session e
  pub chosen : (s.machine e.router).successor ≡ Some e.port

-- a walk from router i: each link end leads, by an edge, to the router at which the next one begins
abbrev pub IsEdgeWalk : Topology → (LinkEnd → Type 0) → ℕ → List LinkEnd → Type 0
IsEdgeWalk t edge i [] = Unit {0}
IsEdgeWalk t edge i (e ∷ es) = (e.router ≡ i) × (t.valid e ≡ true) × (edge e) × (IsEdgeWalk t edge (t.far e).router es)

-- the routers that a walk meets, after the first
abbrev pub met : Topology → List LinkEnd → List ℕ
met t [] = []
met t (e ∷ es) = (t.far e).router ∷ met t es

-- whether router i is in the list
abbrev pub is_met : ℕ → List ℕ → Bool
is_met i [] = false
is_met i (j ∷ js) = (i == j) || is_met i js

-- whether some router is in the list twice
abbrev pub meets_twice : List ℕ → Bool
meets_twice [] = false
meets_twice (i ∷ is) = is_met i is || meets_twice is

-- no walk along such edges meets a router twice
abbrev pub IsLoopFree : Topology → (LinkEnd → Type 0) → Type 0
IsLoopFree t edge = (i : ℕ) (es : List LinkEnd) → IsEdgeWalk t edge i es → meets_twice (i ∷ met t es) ≡ false

-- the property holds of every state that steps lead to from an opening
abbrev pub HoldsInEveryState : (Topology → State → Type 0) → Type 0
HoldsInEveryState P = (t : Topology) (first last : State) → Opening t first → Run t first last → P t last

-- no walk along published successors meets a router twice
abbrev pub PublishedLoopFree : Topology → State → Type 0
PublishedLoopFree t s = IsLoopFree t (PublishedEdge s)

-- no walk meets a router twice where each router may use what it published or what it has chosen since
abbrev pub MixedLoopFree : Topology → State → Type 0
MixedLoopFree t s = IsLoopFree t (λ e. PublishedEdge s e ⊎ ControlEdge s e)

-- some run leads to a state in which a router sends traffic out over a link
abbrev pub SomeRouteIsPublished : Type 0
SomeRouteIsPublished = (t : Topology) × (first : State) × (last : State) × (e : LinkEnd) × (t.valid e ≡ true) × (Opening t first) × (Run t first last) × (PublishedEdge last e)
