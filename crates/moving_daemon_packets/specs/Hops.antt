-- How far a packet goes between routers in processes of their own, once these are left alone.
use Rattle.std.specs.Prelude.{ℕ, suc, ◌≤◌, List, [], ◌∷◌, ⊤}
use Rattle.loop_freedom.specs.Network.{Topology}
use Rattle.coming_to_rest.specs.Rest.{IsFinite}
use Rattle.daemon_laws.specs.{Processes.Processes, Packets.GoesHalfWritten, Happenings.after_happening}
use Rattle.daemons_come_to_rest.specs.Rest.{HappensAlone}
use Rattle.moving_daemon_packets.specs.Moving.{DaemonEvent, Goes, Does, Rewires, LeadsOn}

-- a packet goes on along rows of half-written tables at each moment, or of any table of a router that lets nothing in, and nothing happens but what happens
-- alone among the first n routers
abbrev pub IsMoving : LeadsOn → Topology → ℕ → Processes → ℕ → ℕ → List DaemonEvent → Type 0
IsMoving leads t n w addr i [] = ⊤
IsMoving leads t n w addr i (Goes k ∷ es) = GoesHalfWritten (leads t w) w addr i k × IsMoving leads t n w addr k es
IsMoving leads t n w addr i (Does h ∷ es) = HappensAlone n w h × IsMoving leads t n (after_happening t w h) addr i es
IsMoving leads t n w addr i (Rewires t' ∷ es) = ⊥

-- how many hops it makes
abbrev pub hops : List DaemonEvent → ℕ
hops [] = 0
hops (Goes k ∷ es) = suc (hops es)
hops (Does h ∷ es) = hops es
hops (Rewires t ∷ es) = hops es

-- where the topology has finitely many link ends, some number is exceeded by the hops of no packet, whatever happens alone, and in whatever order
abbrev pub HopsEnd : LeadsOn → Topology → Processes → Type 0
HopsEnd leads t w = (F : IsFinite t) → (most : ℕ) × ((addr i : ℕ) (es : List DaemonEvent) → IsMoving leads t F.routers w addr i es → hops es ≤ most)
