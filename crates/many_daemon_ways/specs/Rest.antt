-- Where the next hops of routers in processes of their own lead, once these are at rest.
use Rattle.std.specs.Prelude.{◌≡◌, ℕ, ◌<◌, ◌≤◌, List, [], ◌∷◌, Some, slice_get}
use Rattle.ipv4_prefix.specs.Prefix.{Prefix}
use Rattle.network_model.specs.{declared.network.Offer.TheVariants.Equal, declared.route.Entry.TheVariants.Via, NextHops.hops_at, NextHops.most_offered, Network.most_routers, Step.offered_hops, View.LinkEnd, World.machine_of}
use Rattle.loop_freedom.specs.Network.{Topology}
use Rattle.single_router.specs.Inputs.{attachment_of}
use Rattle.many_ways.specs.Network.{Among}
use Rattle.daemon_laws.specs.{Processes.Processes, Rest.IsUpIn, Rest.IsLeastWay, Rest.AreAtRest, Rest.entry_in_force}

-- the router at this end of a link has published it as a next hop, in this session
abbrev pub IsHopInForce : Processes → Prefix → LinkEnd → ℕ → Type 0
IsHopInForce w p e session = Among (record { port = e.port; session = session }) (hops_at p ((w.routers e.router).hops).published)

-- published next hops, whichever each router takes, lead along these ends, over links that are up in their sessions, from router i to
-- router o, which is attached, and at the distance of its attachment
abbrev pub IsHopChainAtDaemons : Topology → Processes → Prefix → ℕ → List LinkEnd → ℕ → Type 0
IsHopChainAtDaemons t w p i [] o = (i ≡ o) × (attachment_of (w.routers o) p ≡ Some (machine_of (w.routers o) p).rd)
IsHopChainAtDaemons t w p i (e ∷ es) o = (session : ℕ) × (e.router ≡ i) × IsUpIn t w e session × IsHopInForce w p e session × IsHopChainAtDaemons t w p (t.far e).router es o

-- each of the first n routers offers next hops of equal cost
abbrev pub OfferEqual : ℕ → Processes → Type 0
OfferEqual n w = (i : ℕ) → i < n → (most : ℕ) × (((w.routers i).hops).offer ≡ Equal most)

-- where as many routers as a network may have are at rest, and offer next hops of equal cost, each such chain is a least way, and costs the
-- reported distance
abbrev pub EqualHopsAreLeastAtDaemons : Topology → Processes → Type 0
EqualHopsAreLeastAtDaemons t w = (n : ℕ) → n ≤ most_routers → AreAtRest t n w → OfferEqual n w
    → (p : Prefix) (i : ℕ) (es : List LinkEnd) (o : ℕ) → i < n → IsHopChainAtDaemons t w p i es o → IsLeastWay t w p i es o (machine_of (w.routers i) p).rd

-- where routers are at rest each published next hop, of equal cost or not, leads over a link that is up to a router that is nearer
abbrev pub HopsComeNearerAtDaemons : Topology → Processes → Type 0
HopsComeNearerAtDaemons t w = (n : ℕ) → n ≤ most_routers → AreAtRest t n w → (p : Prefix) (e : LinkEnd) (session : ℕ) → e.router < n
    → IsHopInForce w p e session → IsUpIn t w e session × ((machine_of (w.routers (t.far e).router) p).rd < (machine_of (w.routers e.router) p).rd)

-- the first that a router at rest published beside a Via row is that of the row itself, if the router offers any
abbrev pub FirstIsTheRowAtDaemons : Topology → Processes → Type 0
FirstIsTheRowAtDaemons t w = (n : ℕ) → n ≤ most_routers → AreAtRest t n w → (p : Prefix) (i : ℕ) → i < n → 0 < most_offered ((w.routers i).hops).offer
    → (q session : ℕ) → entry_in_force w i p ≡ Some (Via q session) → slice_get (hops_at p ((w.routers i).hops).published) 0 ≡ Some (record { port = q; session = session })

-- each router at rest published what it offers
abbrev pub HopsAreInForceAtDaemons : Topology → Processes → Type 0
HopsAreInForceAtDaemons t w = (n : ℕ) → AreAtRest t n w → (p : Prefix) (i : ℕ) → i < n → hops_at p ((w.routers i).hops).published ≡ hops_at p (offered_hops (w.routers i))
