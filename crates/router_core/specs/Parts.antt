-- A router's machines as the network sees them, and what every router keeps.
use Rattle.std.specs.Prelude.{◌≡◌, ℕ, ◌≤◌, true, false, Bool, List, map, length}
use Rattle.std.specs.{List.AllByRecursion, FinMap.is_sorted}
use Rattle.ipv4_prefix.specs.Prefix.{Prefix, prefix_cmp}
use Rattle.network_model.specs.{declared.machine.Neighbour.Neighbour, declared.network.Port.Port, declared.machine.Event.Event, declared.machine.Event.TheVariants.Up, declared.machine.Event.TheVariants.Down, Machine.Machine, Machine.changed_at, Step.chosen_rows, Network.most_ports, declared.network.Offer.TheVariants.One}
use Rattle.network_model.specs.World.{Table, Gate, Router, opening_hops}
use Rattle.dual_machine.specs.State.{MachineState}

-- the machines without their origin states
abbrev pub machines_of : List (Prefix × MachineState) → List (Prefix × Machine)
machines_of ms = map (λ m. (m.0, (m.1).machine)) ms

-- whether each neighbour, or each port, is up
abbrev pub ups : List Neighbour → List Bool
ups ns = map (λ n. n.up) ns

-- which ports of a router are up
abbrev pub port_ups : List Port → List Bool
port_ups ports = map (λ p. p.up) ports

-- the machine has these ports, up and down as they are
abbrev pub HasPorts : List Port → Prefix × Machine → Type 0
HasPorts ports m = ups (m.1).ports ≡ port_ups ports

-- what every router keeps: at most 32 ports, machines in the order of their prefixes, each over the router's ports, the control rows that they choose, and no
-- next hops beside them
pub record IsRouter (r : Router) : Type 0 where
  pub few : length r.ports ≤ most_ports
  pub sorted : is_sorted prefix_cmp r.machines ≡ true
  pub same_ports : AllByRecursion (HasPorts r.ports) r.machines
  pub rows : (r.table).control ≡ chosen_rows r.ports r.machines
  pub hops : r.hops ≡ opening_hops One

-- a router of its parts, each row of which has one next hop
abbrev pub router_of : List Port → List (Prefix × MachineState) → Table → Gate → ℕ → Router
router_of ports machines table gate generation = record { ports = ports; machines = machines_of machines; table = table; hops = opening_hops One; gate = gate; generation = generation }

-- what an event makes of whether each port is up
abbrev pub ups_after : Event → List Bool → List Bool
ups_after (Up q cost) bs = changed_at q (λ _. true) bs
ups_after (Down q) bs = changed_at q (λ _. false) bs
ups_after _ bs = bs
