-- When routers in processes of their own are at rest, and where their rows lead then.
use Rattle.std.specs.Prelude.{◌≡◌, ◌⊎◌, ℕ, ◌+◌, ◌<◌, ◌≤◌, true, false, List, [], ◌∷◌, Option, Some, None, slice_get}
use Rattle.std.specs.{Option.option_map_or, FinMap.find as row_of}
use Rattle.ipv4_prefix.specs.Prefix.{Prefix, prefix_cmp}
use Rattle.network_model.specs.{declared.route.Entry.Entry, declared.route.Entry.TheVariants.Local, declared.route.Entry.TheVariants.Via, declared.route.Entry.TheVariants.Unreachable, Forwarding.is_quiet_router, Network.most_routers, View.LinkEnd, World.machine_of}
use Rattle.loop_freedom.specs.Network.{Topology}
use Rattle.single_router.specs.Inputs.{attachment_of}
use Rattle.daemon_laws.specs.{Processes.Processes, Packets.is_in_session, Happenings.HoldsAlways}

-- ---- links that are up

-- a link is up in a session: the routers at both ends are in it
pub record IsUpIn (t : Topology) (w : Processes) (e : LinkEnd) (session : ℕ) : Type 0 where
  pub valid : t.valid e ≡ true
  pub near : is_in_session w e session ≡ true
  pub far : is_in_session w (t.far e) session ≡ true

-- the cost of a link from one of its ends, as the router there was told last
abbrev pub cost_from : Processes → LinkEnd → ℕ
cost_from w e = option_map_or (λ p. p.cost) (slice_get (w.routers e.router).ports e.port) 0

-- links that are up, each begun at the router where the one before ended, lead from one router to the other
abbrev pub IsSessionWay : Topology → Processes → ℕ → List LinkEnd → ℕ → Type 0
IsSessionWay t w i [] k = i ≡ k
IsSessionWay t w i (e ∷ es) k = (session : ℕ) × (e.router ≡ i) × IsUpIn t w e session × IsSessionWay t w (t.far e).router es k

-- the costs from the ends that a way leaves, added up; the empty way costs 0
abbrev pub way_cost : Processes → List LinkEnd → ℕ
way_cost w [] = 0
way_cost w (e ∷ es) = cost_from w e + way_cost w es

-- a way from the router to one that is attached to the prefix, which costs so much, the cost of the attachment included
pub record IsWayHome (t : Topology) (w : Processes) (p : Prefix) (i : ℕ) (es : List LinkEnd) (k cost : ℕ) : Type 0 where
  pub way : IsSessionWay t w i es k
  pub attachment : ℕ
  pub attached : attachment_of (w.routers k) p ≡ Some attachment
  pub cost_is : way_cost w es + attachment ≡ cost

-- such a way than which none to any attached router costs less
pub record IsLeastWay (t : Topology) (w : Processes) (p : Prefix) (i : ℕ) (es : List LinkEnd) (k cost : ℕ) : Type 0 where
  pub way : IsWayHome t w p i es k cost
  pub least : (others : List LinkEnd) (o other_cost : ℕ) → IsWayHome t w p i others o other_cost → cost ≤ other_cost

-- ---- rows

-- the entry of the row that a router published for a prefix
abbrev pub entry_in_force : Processes → ℕ → Prefix → Option Entry
entry_in_force w i p = row_of prefix_cmp p ((w.routers i).table).published

-- published Via rows lead along these ends, over links that are up in the sessions of the rows, to router o, whose row is Local
abbrev pub IsSessionChain : Topology → Processes → Prefix → ℕ → List LinkEnd → ℕ → Type 0
IsSessionChain t w p i [] o = (i ≡ o) × (entry_in_force w i p ≡ Some Local)
IsSessionChain t w p i (e ∷ es) o =
    (session : ℕ) × (e.router ≡ i) × IsUpIn t w e session × (entry_in_force w i p ≡ Some (Via e.port session)) × IsSessionChain t w p (t.far e).router es o

-- the row of the router is Local, at a router that is attached, or begins a chain of Via rows to such a row; the cost of the
-- chain, that of the attachment included, is the reported distance, and least
pub record ProcessHasRoute (t : Topology) (w : Processes) (p : Prefix) (i : ℕ) : Type 0 where
  pub home : ℕ
  pub chain : List LinkEnd
  pub leads : IsSessionChain t w p i chain home
  pub least : IsLeastWay t w p i chain home (machine_of (w.routers i) p).rd

-- where links that are up lead from the router to one that is attached, it is routed; else its row is Unreachable, or it has none
pub record ProcessHasBestRow (t : Topology) (w : Processes) (p : Prefix) (i : ℕ) : Type 0 where
  pub connected : (es : List LinkEnd) (o cost : ℕ) → IsWayHome t w p i es o cost → ProcessHasRoute t w p i
  pub cut_off : ((es : List LinkEnd) (o cost : ℕ) → IsWayHome t w p i es o cost → ⊥) → (entry_in_force w i p ≡ Some Unreachable) ⊎ (entry_in_force w i p ≡ None)

-- ---- at rest

-- nothing was lost of a session that a link is up in. What was lost of one that has ended does not matter
abbrev pub NothingLost : Topology → Processes → Type 0
NothingLost t w = (e : LinkEnd) (session : ℕ) → IsUpIn t w e session → w.lost e session ≡ false

-- a session that both ends of a link may still come into begins whole: nothing counts as lost in it, although it may have been used before
abbrev pub SessionsBeginWhole : Topology → Processes → Type 0
SessionsBeginWhole t w = (e : LinkEnd) (session : ℕ) → t.valid e ≡ true → w.last e < session → w.last (t.far e) < session → w.lost e session ≡ false

-- the first n routers are quiet, all links are theirs, nothing is on its way over a link that is up, or was lost in its session, and
-- the two ends of each link agree
pub record AreAtRest (t : Topology) (n : ℕ) (w : Processes) : Type 0 where
  pub quiet : (i : ℕ) → i < n → is_quiet_router (w.routers i) ≡ true
  pub placed : (e : LinkEnd) → t.valid e ≡ true → e.router < n
  pub nothing_comes : (e : LinkEnd) (session : ℕ) → IsUpIn t w e session → w.coming e ≡ []
  pub nothing_lost : NothingLost t w
  -- where one end is in a session, a link is there, and so is the other end
  pub agree : (e : LinkEnd) (session : ℕ) → is_in_session w e session ≡ true → IsUpIn t w e session

-- where as many routers as a network may have are at rest, each has its best row for each prefix
abbrev pub RestIsBest : Topology → Processes → Type 0
RestIsBest t w = (n : ℕ) → n ≤ most_routers → AreAtRest t n w → (p : Prefix) (i : ℕ) → i < n → ProcessHasBestRow t w p i

-- so it is at every moment, whatever has happened
abbrev pub RestIsAlwaysBest : Type 0
RestIsAlwaysBest = HoldsAlways RestIsBest
