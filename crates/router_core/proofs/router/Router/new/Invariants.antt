use Rattle.std.proofs.Common.{◌≡◌, drop}
use Rattle.network_model.specs.World.{rows_of}
use Rattle.router_core.specs.Parts.{machines_of}
use Rattle.router_core.proofs.Opening.{opening_machines, local_rows}
use Rattle.router_core.proofs.router.Router.new.Given as goal

abbrev pub invariant-loop-i : goal.invariant-loop-i
invariant-loop-i g l = record {
  machines : machines_of l.machines.items ≡ opening_machines l.ports.items (rows_of (drop l.i l.attachments));
  control : l.table.table.control ≡ local_rows (rows_of (drop l.i l.attachments));
}
