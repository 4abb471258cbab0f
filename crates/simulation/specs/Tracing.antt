-- A packet that is followed along the images in force, as far as there is room for the routers that it passes.
use Rattle.std.specs.Prelude.{◌≡◌, ◌≢◌, ℕ, ◌≤◌, ◌<◌, false, List, ◌∷◌, take, drop, length, Option, Some}
use Rattle.network_model.specs.{declared.trace.Ending.Ending, declared.trace.Ending.TheVariants.Crossed}
use Rattle.network_model.specs.Forwarding.{Onward as PacketOnward, Trace, Ends, Goes}
use Rattle.loop_freedom.specs.Network.{meets_twice}
use Rattle.all_packets.specs.{Packets.IsWay, Through.through_from}
use Rattle.simulation.specs.{Simulation.Simulation, Headline.IsWayByImages, declared.tracing.Onward.Onward}

-- what a packet does at a router, as code has it
abbrev pub onward_of : Onward → PacketOnward
onward_of (Onward.Ends end) = Ends end
onward_of (Onward.Goes prefix router) = Goes prefix router

-- the routers that were passed, and the end
abbrev pub passed : List ℕ → Option Ending → Trace
passed path end = record { path = path; end = end }

-- the trace of a packet for the address from router i, of at most as many routers as there is room for, is written over the first of what was there. It passes so many routers, and ends so, or not where the room is used up before
pub record IsTraced (s : Simulation) (addr i : ℕ) (old new : List ℕ) (count : ℕ) (end : Option Ending) : Type 0 where
  pub trace : passed (take count new) end ≡ through_from (length old) s.world addr i
  pub room : count ≤ length old
  pub rest : drop count new ≡ drop count old
  -- it is a way along the images in force, and meets no router twice
  pub way : IsWayByImages s addr (take count new)
  pub no_loop : meets_twice (take count new) ≡ false

-- the packet was followed to its end, delivered or lost
pub record HasEnded (end : Option Ending) : Type 0 where
  pub ending : Ending
  pub is : end ≡ Some ending
  pub real : ending ≢ Crossed

-- a way of a packet is one along the images in force, it meets no router twice, and passes no more routers than there are
pub record HasImageWays (s : Simulation) : Type 0 where
  pub in_force : (addr : ℕ) (way : List ℕ) → IsWay s.world addr way → IsWayByImages s addr way
  pub none_twice : (addr : ℕ) (way : List ℕ) → IsWay s.world addr way → meets_twice way ≡ false
  pub short : (addr i : ℕ) (ks : List ℕ) → i < length s.world.routers → IsWay s.world addr (i ∷ ks) → length (i ∷ ks) ≤ length s.world.routers
