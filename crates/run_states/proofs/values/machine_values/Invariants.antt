use Rattle.std.proofs.Common.{◌≡◌, map, take}
use Rattle.serde_json.specs.View.{view}
use Rattle.run_states.specs.Values.{machines_data}
use Rattle.run_states.proofs.values.machine_values.Given as goal

abbrev pub invariant-loop-router : goal.invariant-loop-router
invariant-loop-router l = map view (l.values).items ≡ machines_data l.world (take l.router-index l.changes)
