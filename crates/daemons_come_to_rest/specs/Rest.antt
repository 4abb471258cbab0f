-- What it means that routers in processes of their own come to rest: once no process tells its router anything of its own, and
-- none begins anew, whatever they still do ends, in whatever order.
use Rattle.std.specs.Prelude.{◌≡◌, ℕ, ◌<◌, ◌≤◌, true, List, [], ◌∷◌, length, Some, slice_get, ⊤}
use Rattle.network_model.specs.{declared.item.Held.Held, Step.ripe_front, Step.is_due}
use Rattle.router_core.specs.Alone.{may_forget, rows_due}
use Rattle.loop_freedom.specs.Network.{Topology}
use Rattle.coming_to_rest.specs.Rest.{IsFinite}
use Rattle.daemon_laws.specs.Processes.{Carried, Processes}
use Rattle.daemon_laws.specs.Happenings.{Happening, Tells, Takes, Loses, Publishes, PublishesSome, Forgets, Releases, BeginsAnew, after_happening, HoldsAlways, Offers}

-- what still happens among the first n routers: an end takes the oldest message on its way there, which waits no longer, since the
-- end has been in its session, or in a later one; that message is lost, whether it waits or not; a router publishes where
-- something is due, or puts some of its rows that are due in force, but not all; it forgets a prefix; or it releases a ripe message
abbrev pub HappensAlone : ℕ → Processes → Happening → Type 0
HappensAlone n w (Tells i input) = ⊥
HappensAlone n w (Takes e) = (c : Carried) × (slice_get (w.coming e) 0 ≡ Some c) × (c.session ≤ w.last e)
HappensAlone n w (Loses e) = (c : Carried) × (slice_get (w.coming e) 0 ≡ Some c)
HappensAlone n w (Publishes i) = (i < n) × (is_due (w.routers i) ≡ true)
HappensAlone n w (PublishesSome i k) = (i < n) × (0 < k) × (k < length (rows_due (w.routers i)))
HappensAlone n w (Forgets i p) = (i < n) × (may_forget p (w.routers i) ≡ true)
HappensAlone n w (Releases i) = (h : Held) × (i < n) × (ripe_front (w.routers i) ≡ Some h)
HappensAlone n w (Offers i offer) = ⊥
HappensAlone n w (BeginsAnew i costs attachments) = ⊥

-- every list of such happenings ends, whatever their order
pub data ProcessesComeToRest (t : Topology) (n : ℕ) : Processes → Type 0 where
  rests : (w : Processes) → ((h : Happening) → HappensAlone n w h → ProcessesComeToRest t n (after_happening t w h)) → ProcessesComeToRest t n w

-- each of these happens so, where it does
abbrev pub AllAlone : Topology → ℕ → Processes → List Happening → Type 0
AllAlone t n w [] = ⊤
AllAlone t n w (h ∷ hs) = HappensAlone n w h × AllAlone t n (after_happening t w h) hs

-- there is a number that no list of such happenings exceeds
abbrev pub HasMostHappenings : Topology → ℕ → Processes → Type 0
HasMostHappenings t n w = (most : ℕ) × ((hs : List Happening) → AllAlone t n w hs → length hs ≤ most)

-- so it is at every moment, whatever has happened, where the topology has finitely many link ends
abbrev pub ProcessesAlwaysComeToRest : Type 0
ProcessesAlwaysComeToRest = HoldsAlways (λ t w. (F : IsFinite t) → ProcessesComeToRest t F.routers w)

-- and each moment has a bound
abbrev pub AlwaysHasBound : Type 0
AlwaysHasBound = HoldsAlways (λ t w. (F : IsFinite t) → HasMostHappenings t F.routers w)
