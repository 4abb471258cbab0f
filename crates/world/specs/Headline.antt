-- What holds of every world to which a run of a network leads: no packet circles, and at quiet rows lead along least-cost walks.
use Rattle.std.specs.Prelude.{◌≡◌, ℕ, ◌<◌, true, List}
use Rattle.ipv4_prefix.specs.Prefix.{Prefix}
use Rattle.network_model.specs.{declared.step.Step.Step, World.Network, World.World, World.opening, Network.IsNetwork, Run.Runs, Forwarding.is_quiet}
use Rattle.all_packets.specs.Packets.{NoPacketCircles}
use Rattle.quiet_routes.specs.Routes.{HasBestRow}
use Rattle.convergence.specs.Converges.{Converges}

-- some list of lawful steps leads from the opening of a network without faults to this world
pub record IsReached (n : Network) (w : World) : Type 0 where
  pub valid : IsNetwork n
  pub steps : List Step
  pub runs : Runs (opening n) steps w

-- no packet meets a router twice along the published rows, whichever prefixes match it on its way; where all is quiet, each router's row for each prefix is the best; and once links and attachments stay as they are, the network comes to rest there
pub record HasWorldHeadline (n : Network) (w : World) : Type 0 where
  pub no_loop : NoPacketCircles w
  pub least_cost : is_quiet w ≡ true → (p : Prefix) (i : ℕ) → i < n.routers → HasBestRow w p i
  pub converges : Converges n w
