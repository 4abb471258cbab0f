-- A packet that is on its way between routers in processes of their own, while whatever may happen does, rows are written into tables, and ports get other neighbours.
use Rattle.std.specs.Prelude.{◌≡◌, ◌≢◌, ℕ, suc, ◌<◌, ◌≤◌, Bool, true, false, ◌&&◌, ◌||◌, ◌==◌, nat_lt, if◌then◌else◌, List, [], ◌∷◌, ◌++◌, Option, Some, IsSome, option_and_then, ⊤}
use Rattle.std.specs.FinMap.{find as row_of}
use Rattle.ipv4_prefix.specs.Prefix.{Prefix, prefix_cmp}
use Rattle.network_model.specs.{declared.route.Entry.Entry, World.machine_of, View.at_port}
use Rattle.loop_freedom.specs.Network.{Topology}
use Rattle.moving_packets.specs.Moving.{IsBetter}
use Rattle.daemon_laws.specs.{Processes.Processes, Packets.IsForwardedByRows, Packets.IsHalfWritten, Packets.rows_in_mixture, Packets.session_leads, Facts.fds_next, Moments.fds_reached}
use Rattle.daemon_laws.specs.Happenings.{Happening, Publishes, PublishesSome, Forgets, BeginsAnew, CanHappen, after_happening, MayRewire, is_new_link, rewired, AreReached}

-- the links and the processes at a moment, and the feasible distance with which each router published last
pub record Moment : Type 0 where
  pub topology : Topology
  pub processes : Processes
  pub fd_published : Prefix → ℕ → ℕ

-- once this has happened
abbrev pub moment_next : Moment → Happening → Moment
moment_next m h = record { topology = m.topology; processes = after_happening m.topology m.processes h; fd_published = λ p. fds_next p m.processes h (m.fd_published p) }

-- once ports have got other neighbours, so that the links are these. No router has published or chosen anything by that
abbrev pub moment_rewired : Moment → Topology → Moment
moment_rewired m t = record { topology = t; processes = rewired m.topology t m.processes; fd_published = m.fd_published }

-- the moment of these processes, as they are reached
abbrev pub now : (t : Topology) (w : Processes) → AreReached t w → Moment
now t w M = record { topology = t; processes = w; fd_published = fds_reached t w M }

-- what holds at every moment, whatever has happened since the routers began, and whichever neighbours ports have got
abbrev pub HoldsAtEveryMoment : (Moment → Type 0) → Type 0
HoldsAtEveryMoment P = (t : Topology) (w : Processes) (M : AreReached t w) → P (now t w M)

-- what happens while a packet is on its way: it goes on to a router, or something else happens, or ports get other neighbours
pub data DaemonEvent : Type 0 where
  Goes : (router : ℕ) → DaemonEvent
  Does : (happening : Happening) → DaemonEvent
  Rewires : (topology : Topology) → DaemonEvent

-- the moment after these events
abbrev pub moment_after : Moment → List DaemonEvent → Moment
moment_after m [] = m
moment_after m (Goes k ∷ es) = moment_after m es
moment_after m (Does h ∷ es) = moment_after (moment_next m h) es
moment_after m (Rewires t ∷ es) = moment_after (moment_rewired m t) es

-- how entries lead on, over the links of a topology and in the processes of a moment
abbrev pub LeadsOn : Type 0
LeadsOn = Topology → Processes → ℕ → Entry → Option ℕ

-- the feasible distance of router i for the prefix
abbrev pub moment_fd : Moment → Prefix → ℕ → ℕ
moment_fd m p i = (machine_of ((m.processes).routers i) p).fd

-- the rows that router i has published (false), or chosen (true)
abbrev pub rows_shown : Bool → Moment → ℕ → List (Prefix × Entry)
rows_shown c m i = rows_in_mixture (λ j. c) m.processes i

-- and the feasible distance that goes with them
abbrev pub fd_shown : Bool → Moment → Prefix → ℕ → ℕ
fd_shown c m p i = if c then moment_fd m p i else m.fd_published p i

-- what a packet meets at router i, whose process may be writing rows one by one, in any order: a table that is half written. Where nothing is, that has the
-- published rows. Of each prefix its row is the published one or, where is_new says so, the one that has been chosen since
pub record Met (m : Moment) (i : ℕ) : Type 0 where
  pub table : List (Prefix × Entry)
  pub written : IsHalfWritten (rows_shown false m i) (rows_shown true m i) table
  pub is_new : Prefix → Bool

-- a packet for the address, matched by this prefix in what it meets at router i, goes to router k, by a row of the kind that is_new says
pub record Forwards (leads : LeadsOn) (m : Moment) (i : ℕ) (t : Met m i) (addr : ℕ) (p : Prefix) (k : ℕ) : Type 0 where
  pub by : IsForwardedByRows (leads m.topology m.processes) (λ j. t.table) addr p i k
  pub is_row : row_of prefix_cmp p (rows_shown (t.is_new p) m i) ≡ Some by.entry

-- a packet is at router k, where it came by a row of prefix p whose feasible distance was f. It goes on along rows of what it meets at each moment, whatever
-- happens meanwhile, and stays near: whenever it leaves a router, the table that it meets has a row of the prefix by which it came, and the feasible distance that
-- goes with that is near that of the row by which it came, which is to say not above it, or below it; and so is the published one at the end
abbrev pub StaysNearAtDaemons : (ℕ → ℕ → Type 0) → LeadsOn → Moment → ℕ → Prefix → ℕ → ℕ → List DaemonEvent → Type 0
StaysNearAtDaemons near leads m addr p f k [] = near (m.fd_published p k) f
StaysNearAtDaemons near leads m addr p f k (Goes l ∷ es) =
    (t : Met m k) × IsSome (row_of prefix_cmp p t.table) × near (fd_shown (t.is_new p) m p k) f × (q : Prefix) × Forwards leads m k t addr q l × StaysNearAtDaemons near leads m addr q (fd_shown (t.is_new q) m q k) l es
StaysNearAtDaemons near leads m addr p f k (Does h ∷ es) = CanHappen m.processes h × StaysNearAtDaemons near leads (moment_next m h) addr p f k es
StaysNearAtDaemons near leads m addr p f k (Rewires t ∷ es) = MayRewire m.topology t m.processes × StaysNearAtDaemons near leads (moment_rewired m t) addr p f k es

-- whether it is higher once this has happened
abbrev pub happening_raises : Moment → Happening → Prefix → ℕ → Bool
happening_raises m h p i = nat_lt (moment_fd m p i) (moment_fd (moment_next m h) p i)

-- whether the published one is
abbrev pub published_rises : Moment → Happening → Prefix → ℕ → Bool
published_rises m h p i = nat_lt (m.fd_published p i) ((moment_next m h).fd_published p i)

-- whether router k forgets a prefix, or its process begins anew
abbrev pub loses_all : ℕ → Happening → Bool
loses_all k (Forgets i p) = k == i
loses_all k (BeginsAnew i costs attachments) = k == i
loses_all k _ = false

-- the same of a packet that is where no rise of a feasible distance, for the prefix by which it came, is both begun and published, or met by the packet, while
-- it is there, and none is published by a router that forgets or begins anew: risen says whether one has begun. A port that gets another neighbour is no rise,
-- and ends none that has begun
abbrev pub IsCalmAtDaemons : LeadsOn → Moment → ℕ → Prefix → Bool → ℕ → List DaemonEvent → Type 0
IsCalmAtDaemons leads m addr p risen k [] = ⊤
IsCalmAtDaemons leads m addr p risen k (Goes l ∷ es) =
    (t : Met m k) × ((risen && nat_lt (m.fd_published p k) (fd_shown (t.is_new p) m p k)) ≡ false) × (q : Prefix) × Forwards leads m k t addr q l × IsCalmAtDaemons leads m addr q false l es
IsCalmAtDaemons leads m addr p risen k (Does h ∷ es) = CanHappen m.processes h × (((risen || loses_all k h) && published_rises m h p k) ≡ false)
    × IsCalmAtDaemons leads (moment_next m h) addr p (risen || happening_raises m h p k) k es
IsCalmAtDaemons leads m addr p risen k (Rewires t ∷ es) = MayRewire m.topology t m.processes × IsCalmAtDaemons leads (moment_rewired m t) addr p risen k es

-- such a packet stays near, even below
abbrev pub CalmStaysNearAtDaemons : LeadsOn → Moment → Type 0
CalmStaysNearAtDaemons leads m = (addr i k : ℕ) (t : Met m i) (p : Prefix) (es : List DaemonEvent) → Forwards leads m i t addr p k → IsCalmAtDaemons leads m addr p false k es
    → StaysNearAtDaemons (λ x f. x < f) leads m addr p (fd_shown (t.is_new p) m p i) k es

-- a packet that left a router is never far, and comes back to it after these events
abbrev pub ComesBackAtDaemons : LeadsOn → (m : Moment) (i : ℕ) → Met m i → ℕ → ℕ → Prefix → List DaemonEvent → Type 0
ComesBackAtDaemons leads m i t addr k p es = Forwards leads m i t addr p k × StaysNearAtDaemons (λ x f. x ≤ f) leads m addr p (fd_shown (t.is_new p) m p i) k (es ++ Goes i ∷ [])

-- then that has a better way since, in those that it has published and in those that it has chosen
abbrev pub ComesBackForBetterAtDaemons : LeadsOn → Moment → Type 0
ComesBackForBetterAtDaemons leads m = (addr i k : ℕ) (t : Met m i) (p : Prefix) (d : Bool) (es : List DaemonEvent) → ComesBackAtDaemons leads m i t addr k p es
    → IsBetter addr p (fd_shown (t.is_new p) m p i) (fd_shown d (moment_after m es) p i) (λ q. row_of prefix_cmp q t.table) (λ q. row_of prefix_cmp q (rows_shown d (moment_after m es) i))

-- whether the rows that router i has published may change by this: it publishes, forgets a prefix, or its process begins anew
abbrev pub happening_publishes : ℕ → Happening → Bool
happening_publishes i (Publishes j) = i == j
happening_publishes i (PublishesSome j n) = i == j
happening_publishes i (Forgets j p) = i == j
happening_publishes i (BeginsAnew j costs attachments) = i == j
happening_publishes i _ = false

-- how often a packet comes to router i
abbrev pub visits_meanwhile : ℕ → List DaemonEvent → ℕ
visits_meanwhile i [] = 0
visits_meanwhile i (Goes k ∷ es) = if i == k then suc (visits_meanwhile i es) else visits_meanwhile i es
visits_meanwhile i (Does h ∷ es) = visits_meanwhile i es
visits_meanwhile i (Rewires t ∷ es) = visits_meanwhile i es

-- how often that publishes meanwhile, or forgets or begins anew. A port that gets another neighbour publishes nothing
abbrev pub publications_meanwhile : ℕ → List DaemonEvent → ℕ
publications_meanwhile i [] = 0
publications_meanwhile i (Goes k ∷ es) = publications_meanwhile i es
publications_meanwhile i (Does h ∷ es) = if happening_publishes i h then suc (publications_meanwhile i es) else publications_meanwhile i es
publications_meanwhile i (Rewires t ∷ es) = publications_meanwhile i es

-- so that has published since
abbrev pub ComesBackOncePublishedAtDaemons : LeadsOn → Moment → Type 0
ComesBackOncePublishedAtDaemons leads m = (addr i k : ℕ) (t : Met m i) (p : Prefix) (es : List DaemonEvent) → ComesBackAtDaemons leads m i t addr k p es → 0 < publications_meanwhile i es

-- a packet that stays near comes back to a router at most as often as that publishes meanwhile
abbrev pub ComesBackSeldomAtDaemons : LeadsOn → Moment → Type 0
ComesBackSeldomAtDaemons leads m = (addr i k : ℕ) (t : Met m i) (p : Prefix) (es : List DaemonEvent) → Forwards leads m i t addr p k → StaysNearAtDaemons (λ x f. x ≤ f) leads m addr p (fd_shown (t.is_new p) m p i) k es
    → visits_meanwhile i es ≤ publications_meanwhile i es

-- ---- that there is something to say

-- these happenings, as events
abbrev pub doing : List Happening → List DaemonEvent
doing [] = []
doing (h ∷ hs) = Does h ∷ doing hs

-- some packet leaves a router, stays near while a port of that gets another neighbour, and comes back by a row that is yet to be published
pub record SomeComesBack : Type 0 where
  pub before : Topology
  pub processes : Processes
  pub reached : AreReached before processes
  pub topology : Topology
  pub happenings : List Happening
  pub addr : ℕ
  pub router : ℕ
  pub to : ℕ
  pub port : ℕ
  pub prefix : Prefix
  pub was_linked : before.valid (at_port router port) ≡ true
  pub is_linked : topology.valid (at_port router port) ≡ true
  pub new : is_new_link before topology (at_port router port) ≡ true
  pub met : Met (now before processes reached) router
  pub goes : Forwards session_leads (now before processes reached) router met addr prefix to
  pub near : StaysNearAtDaemons (λ x f. x < f) session_leads (now before processes reached) addr prefix (fd_shown (met.is_new prefix) (now before processes reached) prefix router) to (Rewires topology ∷ doing happenings ++ Goes router ∷ [])
  pub unpublished : option_and_then (session_leads topology (moment_after (now before processes reached) (Rewires topology ∷ doing happenings)).processes to)
      (row_of prefix_cmp prefix (rows_shown false (moment_after (now before processes reached) (Rewires topology ∷ doing happenings)) to)) ≢ Some router
