-- What goes on while a network comes to rest: a machine is in a computation. That a router is cut off from a prefix is defined in `reachability`.
use Rattle.std.specs.Prelude.{ℕ, ◌≡◌, true, Some, slice_get}
use Rattle.ipv4_prefix.specs.Prefix.{Prefix}
use Rattle.network_model.specs.World.{Router, World, machine_of}
use Rattle.machine_laws.specs.Laws.{is_active}

-- the machine of router i for the prefix is in a computation
pub record IsComputing (p : Prefix) (i : ℕ) (w : World) : Type 0 where
  pub router : Router
  pub at : slice_get w.routers i ≡ Some router
  pub active : is_active (machine_of router p) ≡ true
