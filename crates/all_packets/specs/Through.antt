-- A packet that is followed to its end, whichever prefixes match it on its way.
use Rattle.std.specs.Prelude.{◌≡◌, ◌≢◌, ℕ, zero, suc, ◌<◌, ◌++◌, false, List, [], ◌∷◌, None, Some, length}
use Rattle.network_model.specs.{declared.trace.Ending.Ending, declared.trace.Ending.TheVariants.Crossed, declared.trace.Ending.TheVariants.Delivered, declared.step.Step.Step, World.World, World.Network, World.opening, Network.IsNetwork, Run.Runs}
use Rattle.network_model.specs.Forwarding.{Trace, onward, trace, traced_by}
use Rattle.loop_freedom.specs.Network.{meets_twice}
use Rattle.all_packets.specs.Packets.{IsWay}

-- the trace through router i, of at most n routers: each of them may match the packet by any prefix, as the first of a trace does
abbrev pub through_from : ℕ → World → ℕ → ℕ → Trace
through_from zero w addr i = record { path = []; end = None }
through_from (suc n) w addr i = traced_by (λ p k. through_from n w addr k) i (onward w addr None i)

-- the trace through of a packet for an address from router i
abbrev pub through : World → ℕ → ℕ → Trace
through w i addr = through_from (length w.routers) w addr i

-- how such a trace ends: delivered, or lost
pub record IsRealEnd (t : Trace) : Type 0 where
  pub ending : Ending
  pub is : t.end ≡ Some ending
  pub not_crossed : ending ≢ Crossed

-- a trace through is a way of the packet, so it meets no router twice; from a router of the network it goes to a real end; and it passes first what the trace passes
pub record ThroughEnds (w : World) : Type 0 where
  pub ways : (i addr : ℕ) → IsWay w addr (through w i addr).path
  pub none_twice : (i addr : ℕ) → meets_twice (through w i addr).path ≡ false
  pub ends : (i addr : ℕ) → i < length w.routers → IsRealEnd (through w i addr)
  pub extends : (i addr : ℕ) → (more : List ℕ) × ((through w i addr).path ≡ (trace w i addr).path ++ more)

-- some run leads to a world in which a trace ends where another prefix matches, and the trace through goes on to another router, and is delivered
abbrev pub SomeTraceGoesOn : Type 0
SomeTraceGoesOn = (n : Network) × (ss : List Step) × (w : World) × (addr : ℕ) × (i : ℕ) × (path : List ℕ) × (next : ℕ) × (more : List ℕ) × IsNetwork n × Runs (opening n) ss w
    × (trace w i addr ≡ record { path = path; end = Some Crossed }) × (through w i addr ≡ record { path = path ++ next ∷ more; end = Some Delivered })
