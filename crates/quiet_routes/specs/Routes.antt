-- What holds of a world that is quiet: published rows lead along cheapest ways to an attached router.
use Rattle.std.specs.Prelude.{◌≡◌, ◌⊎◌, ℕ, ◌<◌, true, List, [], ◌∷◌, Some, None, slice_get, option_and_then}
use Rattle.std.specs.{Option.option_map_or, FinMap.find as row_of}
use Rattle.ipv4_prefix.specs.Prefix.{Prefix, prefix_cmp}
use Rattle.network_model.specs.{Machine.Machine, Machine.opening_machine, declared.route.Entry.TheVariants.Local, declared.route.Entry.TheVariants.Via, declared.route.Entry.TheVariants.Unreachable, declared.network.Place.Place, declared.step.Step.Step, Network.IsNetwork, Run.Runs, Forwarding.IsWalkHome, Forwarding.IsLeastWalk, Forwarding.is_quiet}
use Rattle.network_model.specs.World.{Link, World, Network, other, side, place_at, attachment_at, machine_of, opening}
use Rattle.no_packet_loops.specs.Packets.{published_entry, control_entry}

-- ---- rows and chains of rows

-- a router's machine for a prefix
abbrev pub machine_at : World → ℕ → Prefix → Machine
machine_at w i p = option_map_or (λ r. machine_of r p) (slice_get w.routers i) (opening_machine None [])

-- the router's published row for the prefix is Via, out of this place, over a link that is up in the session of the row
pub record SendsBy (w : World) (p : Prefix) (i : ℕ) (x : Place) : Type 0 where
  pub port : ℕ
  pub link : Link
  pub is_place : place_at w i port ≡ Some x
  pub is_link : slice_get w.links x.link ≡ Some link
  pub is_up : link.up ≡ true
  pub row : published_entry w i p ≡ Some (Via port link.session)

-- published Via rows lead along these places from router i to router o, whose row is Local; with no place, i is o
abbrev pub IsChain : World → Prefix → ℕ → List Place → ℕ → Type 0
IsChain w p i [] o = (i ≡ o) × (published_entry w i p ≡ Some Local)
IsChain w p i (x ∷ xs) o = (h : SendsBy w p i x) × IsChain w p (side (other x.end) h.link).router xs o

-- the row of the router is Local, at a router that is attached, or begins a chain of Via rows to such a row; the cost of the
-- chain, that of the attachment included, is the reported distance, and least
pub record HasRoute (w : World) (p : Prefix) (i : ℕ) : Type 0 where
  pub home : ℕ
  pub chain : List Place
  pub leads : IsChain w p i chain home
  pub least : IsLeastWalk w p i chain home (machine_at w i p).rd

-- the router has no machine for the prefix, and has neither published nor chosen a row for it
pub record IsUnheard (w : World) (p : Prefix) (i : ℕ) : Type 0 where
  pub no_machine : option_and_then (λ r. row_of prefix_cmp p r.machines) (slice_get w.routers i) ≡ None
  pub not_published : published_entry w i p ≡ None
  pub not_chosen : control_entry w i p ≡ None

-- where links that are up lead from the router to one that is attached, it is routed; else its row is Unreachable, or the prefix unheard
pub record HasBestRow (w : World) (p : Prefix) (i : ℕ) : Type 0 where
  pub connected : (ps : List Place) (o cost : ℕ) → IsWalkHome w p i ps o cost → HasRoute w p i
  pub cut_off : ((ps : List Place) (o cost : ℕ) → IsWalkHome w p i ps o cost → ⊥) → (published_entry w i p ≡ Some Unreachable) ⊎ IsUnheard w p i

-- in every quiet world to which a run leads, each router has its best row for each prefix
abbrev pub QuietRoutes : Type 0
QuietRoutes = (n : Network) (ss : List Step) (w : World) → IsNetwork n → Runs (opening n) ss w → is_quiet w ≡ true
    → (p : Prefix) (i : ℕ) → i < n.routers → HasBestRow w p i

-- ---- runs to worlds that are quiet

-- a lawful run from the opening of the network to a world that is quiet
pub record QuietWorldRun (n : Network) (w : World) : Type 0 where
  pub steps : List Step
  pub runs : Runs (opening n) steps w
  pub quiet : is_quiet w ≡ true

-- three quiet runs: one where router 0 is attached, router 1 has a route to it, and router 2 has not heard of the prefix; one
-- where router 0 is no longer attached, and router 2 is; and one where router 1 has lost its route with its link
pub record SomeQuietRuns : Type 0 where
  pub network : Network
  pub valid : IsNetwork network
  pub prefix : Prefix
  pub routed : World
  pub routed_run : QuietWorldRun network routed
  pub attached : attachment_at routed 0 prefix ≡ Some 1
  pub is_local : published_entry routed 0 prefix ≡ Some Local
  pub sends_on : published_entry routed 1 prefix ≡ Some (Via 0 1)
  pub distance : (machine_at routed 1 prefix).rd ≡ 8
  pub is_there : 2 < network.routers
  pub unheard : IsUnheard routed prefix 2
  pub moved : World
  pub moved_run : QuietWorldRun network moved
  pub detached : attachment_at moved 0 prefix ≡ None
  pub gone : published_entry moved 0 prefix ≡ Some Unreachable
  pub attached_later : attachment_at moved 2 prefix ≡ Some 4
  pub local_later : published_entry moved 2 prefix ≡ Some Local
  pub lost : World
  pub lost_run : QuietWorldRun network lost
  pub has_no_way : published_entry lost 1 prefix ≡ Some Unreachable
