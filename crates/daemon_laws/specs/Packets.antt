-- Where packets go between routers in processes of their own, and what is claimed of their ways.
use Rattle.std.specs.Prelude.{◌≡◌, ◌⊎◌, ℕ, Bool, true, false, ◌&&◌, ◌==◌, if◌then◌else◌, List, [], ◌∷◌, Option, Some, None, IsSome, slice_get, option_and_then, ⊤}
use Rattle.std.specs.{FinMap.find as row_of, FinMap.is_sorted, Option.option_map_or}
use Rattle.ipv4_prefix.specs.{Prefix.Prefix, Prefix.prefix_cmp, LongestMatch.longest_match}
use Rattle.network_model.specs.{declared.route.Entry.Entry, declared.route.Entry.TheVariants.Unreachable, View.LinkEnd, View.at_port}
use Rattle.loop_freedom.specs.Network.{Topology, meets_twice}
use Rattle.all_packets.specs.Packets.{IsWayBy}
use Rattle.daemon_laws.specs.Processes.{Processes}

-- whether the router at an end of a link is in this session: its port there is up in it
abbrev pub is_in_session : Processes → LinkEnd → ℕ → Bool
is_in_session w e session = option_map_or (λ p. p.up && (p.session == session)) (slice_get (w.routers e.router).ports e.port) false

-- the router that an entry of router i leads to: the one across the link, while that one is in the entry's session
abbrev pub session_leads : Topology → Processes → ℕ → Entry → Option ℕ
session_leads t w i Entry.Local = None
session_leads t w i Entry.Unreachable = None
session_leads t w i (Entry.Via q session) =
    if t.valid (at_port i q) && is_in_session w (t.far (at_port i q)) session then Some (t.far (at_port i q)).router else None

-- whether a router lets in what comes by a port where packets carry no session: while it is in the session of the message
-- that it took there last
abbrev pub lets_in : Processes → LinkEnd → Bool
lets_in w e = is_in_session w e (w.heard e)

-- the router that an entry of router i leads to where packets carry no session: the one across the link, while that one lets in
-- what comes; the session of the entry is not asked
abbrev pub unmarked_leads : Topology → Processes → ℕ → Entry → Option ℕ
unmarked_leads t w i Entry.Local = None
unmarked_leads t w i Entry.Unreachable = None
unmarked_leads t w i (Entry.Via q session) =
    if t.valid (at_port i q) && lets_in w (t.far (at_port i q)) then Some (t.far (at_port i q)).router else None

-- the rows that each router published
abbrev pub rows_in_force : Processes → ℕ → List (Prefix × Entry)
rows_in_force w i = ((w.routers i).table).published

-- the rows by which each router forwards in a mixture: those that it has chosen, where by_control says so, else those that it published
abbrev pub rows_in_mixture : (ℕ → Bool) → Processes → ℕ → List (Prefix × Entry)
rows_in_mixture by_control w i = if by_control i then ((w.routers i).table).control else ((w.routers i).table).published

-- a packet for the address, matched by this prefix among a router's rows, goes from one router to the other, where entries lead so
pub record IsForwardedByRows (entry_goes : ℕ → Entry → Option ℕ) (rows : ℕ → List (Prefix × Entry)) (addr : ℕ) (p : Prefix) (i k : ℕ) : Type 0 where
  pub entry : Entry
  pub matched : longest_match addr (rows i) ≡ Some (p, entry)
  pub leads : entry_goes i entry ≡ Some k

-- a packet's way by these rows, at routers that match its address by one prefix, but perhaps the last
abbrev pub IsPacketWalkByRows : (ℕ → Entry → Option ℕ) → (ℕ → List (Prefix × Entry)) → ℕ → Prefix → List ℕ → Type 0
IsPacketWalkByRows entry_goes rows addr p [] = ⊤
IsPacketWalkByRows entry_goes rows addr p (i ∷ []) = ⊤
IsPacketWalkByRows entry_goes rows addr p (i ∷ k ∷ ks) = IsForwardedByRows entry_goes rows addr p i k × IsPacketWalkByRows entry_goes rows addr p (k ∷ ks)

-- by these rows no packet meets a router twice along routers that match its address by one prefix
abbrev pub NeverCircles : (ℕ → Entry → Option ℕ) → (ℕ → List (Prefix × Entry)) → Type 0
NeverCircles entry_goes rows = (addr : ℕ) (p : Prefix) (walk : List ℕ) → IsPacketWalkByRows entry_goes rows addr p walk → meets_twice walk ≡ false

-- no packet circles by the rows that routers published
abbrev pub NoPacketLoopsAtDaemons : Topology → Processes → Type 0
NoPacketLoopsAtDaemons t w = NeverCircles (session_leads t w) (rows_in_force w)

-- nor where some routers forward by the rows that they have chosen since
abbrev pub NoMixtureLoopsAtDaemons : Topology → Processes → Type 0
NoMixtureLoopsAtDaemons t w = (by_control : ℕ → Bool) → NeverCircles (session_leads t w) (rows_in_mixture by_control w)

-- where packets carry no session, none circles by published rows
abbrev pub NoUnmarkedLoops : Topology → Processes → Type 0
NoUnmarkedLoops t w = NeverCircles (unmarked_leads t w) (rows_in_force w)

-- nor in a mixture
abbrev pub NoUnmarkedMixtureLoops : Topology → Processes → Type 0
NoUnmarkedMixtureLoops t w = (by_control : ℕ → Bool) → NeverCircles (unmarked_leads t w) (rows_in_mixture by_control w)

-- ---- whichever prefixes match

-- a packet for the address goes from one router to the other, by the row that matches it longest among those that the router
-- published or those that it has chosen
abbrev pub MayGoOnBy : (ℕ → Entry → Option ℕ) → Processes → ℕ → ℕ → ℕ → Type 0
MayGoOnBy entry_goes w addr i k = (by_control : Bool) × (option_and_then (λ (r : Prefix × Entry). entry_goes i r.1) (longest_match addr (rows_in_mixture (λ j. by_control) w i)) ≡ Some k)

-- no packet meets a router twice, whichever prefixes match it, and whichever routers publish while it moves
abbrev pub NoPacketCirclesAtDaemons : Topology → Processes → Type 0
NoPacketCirclesAtDaemons t w = (addr : ℕ) (way : List ℕ) → IsWayBy (MayGoOnBy (session_leads t w) w addr) way → meets_twice way ≡ false

-- nor where packets carry no session
abbrev pub NoUnmarkedCircles : Topology → Processes → Type 0
NoUnmarkedCircles t w = (addr : ℕ) (way : List ℕ) → IsWayBy (MayGoOnBy (unmarked_leads t w) w addr) way → meets_twice way ≡ false

-- ---- while rows are written one by one

-- a table into which rows are being written: each of its rows was published, or has been chosen since, or leads nowhere; and it has a row
-- for each prefix for which one was published
pub record IsHalfWritten (published chosen table : List (Prefix × Entry)) : Type 0 where
  pub in_order : is_sorted prefix_cmp table ≡ true
  pub is_known : (p : Prefix) (e : Entry) → row_of prefix_cmp p table ≡ Some e
      → (row_of prefix_cmp p published ≡ Some e) ⊎ (row_of prefix_cmp p chosen ≡ Some e) ⊎ (e ≡ Unreachable)
  pub has_all : (p : Prefix) → IsSome (row_of prefix_cmp p published) → IsSome (row_of prefix_cmp p table)

-- a router lets nothing in: none of its ports is up
abbrev pub IsShut : Processes → ℕ → Type 0
IsShut w i = (q session : ℕ) → is_in_session w (at_port i q) session ≡ false

-- a packet for the address goes from one router to the other, by the row that matches it longest in such a table, or in any table of a
-- router that lets nothing in
pub record GoesHalfWritten (entry_goes : ℕ → Entry → Option ℕ) (w : Processes) (addr i k : ℕ) : Type 0 where
  pub table : List (Prefix × Entry)
  pub written : IsHalfWritten ((w.routers i).table).published ((w.routers i).table).control table ⊎ IsShut w i
  pub goes : option_and_then (λ (r : Prefix × Entry). entry_goes i r.1) (longest_match addr table) ≡ Some k

-- no packet meets a router twice while routers write rows into their tables, one by one and in any order, nor while a process that has begun
-- anew, and lets nothing in yet, takes out those of the process before
abbrev pub NoWrittenCircles : Topology → Processes → Type 0
NoWrittenCircles t w = (addr : ℕ) (way : List ℕ) → IsWayBy (GoesHalfWritten (session_leads t w) w addr) way → meets_twice way ≡ false

-- nor where packets carry no session
abbrev pub NoUnmarkedWrittenCircles : Topology → Processes → Type 0
NoUnmarkedWrittenCircles t w = (addr : ℕ) (way : List ℕ) → IsWayBy (GoesHalfWritten (unmarked_leads t w) w addr) way → meets_twice way ≡ false
