-- How a daemon may number its sessions.
use Rattle.std.specs.Prelude.{◌≡◌, ◌≢◌, ◌⊎◌, ℕ, ◌≤◌, max, true, Some, slice_get, ⊤}
use Rattle.network_model.specs.View.{LinkEnd}
use Rattle.loop_freedom.specs.Network.{Topology}
use Rattle.daemon_laws.specs.Processes.{Carried, Processes}
use Rattle.daemon_laws.specs.Happenings.{Happening, Tells, Takes, Loses, Publishes, PublishesSome, Forgets, Releases, Offers, BeginsAnew, own_session, latest_coming, link_stays, AreReached, Begun, Happened, Rewired}

-- the later of the last sessions that the processes at both ends of a link were in
abbrev pub known_session : Topology → Processes → LinkEnd → ℕ
known_session t w e = max (own_session w e) (own_session w (t.far e))

-- no message goes from the link of this end, because it is taken, refused or lost, if it is of a session later than that. So what was on its way
-- from a process that ends is lost before it ends, or comes to an end that has come into its session
abbrev pub IsClean : LinkEnd → Topology → Processes → Happening → Type 0
IsClean e t w (Tells i input) = ⊤
IsClean e t w (Takes d) = (d ≡ e) ⊎ (d ≡ t.far e) → (c : Carried) → slice_get (w.coming d) 0 ≡ Some c → c.session ≤ w.last d → c.session ≤ known_session t w e
IsClean e t w (Loses d) = (d ≡ e) ⊎ (d ≡ t.far e) → (c : Carried) → slice_get (w.coming d) 0 ≡ Some c → c.session ≤ known_session t w e
IsClean e t w (Publishes i) = ⊤
IsClean e t w (PublishesSome i n) = ⊤
IsClean e t w (Forgets i p) = ⊤
IsClean e t w (Releases i) = ⊤
IsClean e t w (Offers i offer) = ⊤
IsClean e t w (BeginsAnew i costs attachments) = ⊤

-- so it was each time since the link was there
abbrev pub Cleanly : LinkEnd → (t : Topology) (w : Processes) → AreReached t w → Type 0
Cleanly e _ _ (Begun t w B) = ⊤
Cleanly e _ _ (Happened t w h M can) = IsClean e t w h × Cleanly e t w M
Cleanly e _ _ (Rewired t t' w M R) = link_stays t t' e ≡ true → Cleanly e t w M

-- where nothing is on its way over the link of a session later than the two processes know, what they know is enough: an end has to exceed no more
abbrev pub BothKnow : Topology → Processes → LinkEnd → Type 0
BothKnow t w e = latest_coming t w e ≤ known_session t w e → w.last e ≤ known_session t w e

-- so the greater of what the processes at both ends of a link between two routers know, plus one, may be a session at both
abbrev pub NumbersSuffice : Type 0
NumbersSuffice = (t : Topology) (w : Processes) (M : AreReached t w) (e : LinkEnd) → t.valid e ≡ true → e.router ≢ (t.far e).router → Cleanly e t w M → BothKnow t w e
