-- How a network is let settle.
use Rattle.std.specs.Prelude.{◌≡◌, ◌⊎◌, ℕ, true}
use Rattle.network_model.specs.{declared.step.Refusal.Refusal, declared.step.Refusal.TheVariants.NoMemory, Forwarding.is_quiet, Turns.is_settled}
use Rattle.fabric.specs.{Fabric.Fabric, Headline.HasBestRows}
use Rattle.guarded.specs.Served.{IsServed, IsTurnRefused, none_asked, IsFabricStopped}
use Rattle.simulation.specs.{Simulation.Simulation, Headline.HasBestRows as HasBestRowsThere, Settling.HasTurned, Settling.IsStopped}

-- ---- where steps are kept

-- steps, each of which some router had to do next, lead to a network that is settled, and so quiet: each router's row for each prefix is the best
pub record Settles (f g : Fabric) : Type 0 where
  pub served : IsServed f none_asked g
  pub settled : is_settled g.world ≡ true
  pub quiet : is_quiet g.world ≡ true
  pub least_cost : HasBestRows g

-- such steps were done, and on the way one was refused, or there was no memory for the threads; or the journal has no place for the next step, or there is no memory for it
pub record StopsSettling (f g : Fabric) (e : Refusal) : Type 0 where
  pub served : IsServed f none_asked g
  pub cause : IsTurnRefused f none_asked e ⊎ (e ≡ NoMemory) ⊎ IsFabricStopped g e

-- ---- where they are counted

-- the same of a simulation
pub record SettlesThere (s t : Simulation) : Type 0 where
  pub done : ℕ
  pub turned : HasTurned s t done
  pub settled : is_settled t.world ≡ true
  pub quiet : is_quiet t.world ≡ true
  pub least_cost : HasBestRowsThere t

-- such steps were done, and the next could not be counted, or there was no memory for it
pub record StopsThere (s t : Simulation) (e : Refusal) : Type 0 where
  pub done : ℕ
  pub turned : HasTurned s t done
  pub stopped : IsStopped t e
