-- What holds of the packets of every network, after every list of lawful steps.
use Rattle.std.specs.Prelude.{◌≡◌, ℕ, ◌<◌, Bool, if◌then◌else◌, List, [], ◌∷◌, Option, Some, IsSome, slice_get, option_and_then, length, false, ⊤}
use Rattle.std.specs.{Option.option_map_or, FinMap.find as row_of}
use Rattle.ipv4_prefix.specs.{Prefix.Prefix, Prefix.prefix_cmp, LongestMatch.longest_match}
use Rattle.network_model.specs.{declared.route.Entry.Entry, World.World, World.Network, World.opening, declared.step.Step.Step, Network.IsNetwork, Run.Runs, Run.History, Run.history, View.fd_in}
use Rattle.network_model.specs.Forwarding.{entry_leads, IsForwarded, IsPacketWalk, trace}
use Rattle.loop_freedom.specs.Network.{meets_twice}

-- what holds of every world that lawful steps lead to from the opening of a network
abbrev pub HoldsInEveryWorld : (World → Type 0) → Type 0
HoldsInEveryWorld P = (n : Network) (ss : List Step) (w : World) → IsNetwork n → Runs (opening n) ss w → P w

-- no packet meets a router twice along routers that match its address by one prefix
abbrev pub NoPacketLoops : World → Type 0
NoPacketLoops w = (addr : ℕ) (p : Prefix) (walk : List ℕ) → IsPacketWalk w addr p walk → meets_twice walk ≡ false

-- ---- mixtures: some routers forward by the rows that they have chosen, the others by those that they published

-- the rows by which a router forwards in a mixture: those that it has chosen, where by_control says so, else those that it published
abbrev pub mixture_rows : (ℕ → Bool) → World → ℕ → List (Prefix × Entry)
mixture_rows by_control w i = option_map_or (λ r. if by_control i then (r.table).control else (r.table).published) (slice_get w.routers i) []

-- a packet for the address, matched by this prefix in a mixture, goes from one router to the other
pub record IsForwardedBy (by_control : ℕ → Bool) (w : World) (addr : ℕ) (p : Prefix) (i k : ℕ) : Type 0 where
  pub entry : Entry
  pub matched : longest_match addr (mixture_rows by_control w i) ≡ Some (p, entry)
  pub leads : entry_leads w i entry ≡ Some k

-- a way of a packet in a mixture, at routers that match its address by one prefix, but perhaps the last
abbrev pub IsMixtureWalk : (ℕ → Bool) → World → ℕ → Prefix → List ℕ → Type 0
IsMixtureWalk by_control w addr p [] = ⊤
IsMixtureWalk by_control w addr p (i ∷ []) = ⊤
IsMixtureWalk by_control w addr p (i ∷ k ∷ ks) = IsForwardedBy by_control w addr p i k × IsMixtureWalk by_control w addr p (k ∷ ks)

-- in no mixture does a packet meet a router twice along routers that match its address by one prefix
abbrev pub NoMixtureLoops : World → Type 0
NoMixtureLoops w = (by_control : ℕ → Bool) (addr : ℕ) (p : Prefix) (walk : List ℕ) → IsMixtureWalk by_control w addr p walk → meets_twice walk ≡ false

-- ---- distances

-- the entry of the row that a router published for a prefix
abbrev pub published_entry : World → ℕ → Prefix → Option Entry
published_entry w i p = option_and_then (λ r. row_of prefix_cmp p (r.table).published) (slice_get w.routers i)

-- the entry of the row that a router has chosen for a prefix
abbrev pub control_entry : World → ℕ → Prefix → Option Entry
control_entry w i p = option_and_then (λ r. row_of prefix_cmp p (r.table).control) (slice_get w.routers i)

-- along each row that leads to a router, its feasible distances, present and published, are below that of the row
pub record DistancesFall (h : History) : Type 0 where
  pub by_published : (p : Prefix) (i k : ℕ) (e : Entry) → published_entry h.world i p ≡ Some e → entry_leads h.world i e ≡ Some k
      → (fd_in (h.world).routers p k < fd_in h.published p i) × (fd_in h.published p k < fd_in h.published p i)
  pub by_control : (p : Prefix) (i k : ℕ) (e : Entry) → control_entry h.world i p ≡ Some e → entry_leads h.world i e ≡ Some k
      → (fd_in (h.world).routers p k < fd_in (h.world).routers p i) × (fd_in h.published p k < fd_in (h.world).routers p i)

-- along published and chosen rows the feasible distances fall, after every run
abbrev pub DistancesAlwaysFall : Type 0
DistancesAlwaysFall = (n : Network) (ss : List Step) (w : World) → IsNetwork n → Runs (opening n) ss w → DistancesFall (history n ss)

-- ---- traces

-- no trace meets a router twice; one from a router of the network ends: delivered, lost, or where another prefix matches
pub record TracesEnd (w : World) : Type 0 where
  pub none_twice : (i addr : ℕ) → meets_twice (trace w i addr).path ≡ false
  pub ends : (i addr : ℕ) → i < length w.routers → IsSome (trace w i addr).end

-- ---- that there is something to say

-- some run leads to a world in which a packet goes from one router to another
abbrev pub SomePacketGoes : Type 0
SomePacketGoes = (n : Network) × (ss : List Step) × (w : World) × (addr : ℕ) × (p : Prefix) × (i : ℕ) × (k : ℕ) × IsNetwork n × Runs (opening n) ss w × IsForwarded w addr p i k
