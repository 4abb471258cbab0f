-- What a state shows.
use Rattle.std.specs.Prelude.{◌≡◌, ◌<◌, ℕ, Some}
use Rattle.std.specs.{FinMap.find as row_of, Ordering.nat_cmp}
use Rattle.std.specs.FinSet as set
use Rattle.ipv4_prefix.specs.Prefix.{Prefix, prefix_cmp}
use Rattle.network_model.specs.{Machine.Machine as ModelMachine, Network.most_ports, World.Router}
use Rattle.dual_machine.specs.State.{MachineState as Machine, awaits_at}
use Rattle.lines.specs.States.{IsMachineState}
use Rattle.run_states.specs.declared.shown.MachineShown.{MachineShown}

-- the ports are those whose replies the computation under way awaits
abbrev pub Awaits : ModelMachine → set.FinSet nat_cmp → Type 0
Awaits m ports = (q : ℕ) → q < most_ports → set.contains ports q ≡ awaits_at m.computation q

-- what is shown of a router's machine for a prefix
pub record ShowsMachine (r : Router) (p : Prefix) (m : MachineShown) : Type 0 where
  pub machine : Machine
  pub is_machine : row_of prefix_cmp p r.machines ≡ Some machine.machine
  pub at : IsMachineState machine m.at
  pub awaits : Awaits machine.machine m.awaited
  pub chosen : m.chosen ≡ row_of prefix_cmp p (r.table).control
  pub published : m.published ≡ row_of prefix_cmp p (r.table).published

-- two machines of which the same is shown: a router has no ports but those below the most that one may have
pub record AreSame (m n : MachineShown) : Type 0 where
  pub at : m.at ≡ n.at
  pub awaits : (q : ℕ) → q < most_ports → set.contains m.awaited q ≡ set.contains n.awaited q
  pub chosen : m.chosen ≡ n.chosen
  pub published : m.published ≡ n.published
