-- The feasible distances with which routers published last, at every moment that they come to, and the four facts there.
use Rattle.std.specs.Prelude.{ℕ}
use Rattle.ipv4_prefix.specs.Prefix.{Prefix}
use Rattle.loop_freedom.specs.Network.{Topology}
use Rattle.daemon_laws.specs.{Processes.Processes, Facts.fds_next, Facts.first_fds, Facts.HasLinkFacts}
use Rattle.daemon_laws.specs.Happenings.{AreReached, Begun, Happened, Rewired}

-- the present ones where routers begin. A port that gets another neighbour changes none
abbrev pub fds_reached : (t : Topology) (w : Processes) → AreReached t w → Prefix → ℕ → ℕ
fds_reached _ _ (Begun t w B) p = first_fds p w
fds_reached _ _ (Happened t w h M can) p = fds_next p w h (fds_reached t w M p)
fds_reached _ _ (Rewired t t' w M R) p = fds_reached t w M p

-- the facts hold then, for every prefix
abbrev pub LinkFactsHoldThere : Type 0
LinkFactsHoldThere = (t : Topology) (w : Processes) (M : AreReached t w) (p : Prefix) → HasLinkFacts t p (fds_reached t w M p) w
