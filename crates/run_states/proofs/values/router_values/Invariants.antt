use Rattle.std.proofs.Common.{◌≡◌, map, take}
use Rattle.serde_json.specs.View.{view}
use Rattle.run_states.specs.Values.{routers_data}
use Rattle.run_states.proofs.values.router_values.Given as goal

abbrev pub invariant-loop-router : goal.invariant-loop-router
invariant-loop-router l = map view (l.values).items ≡ routers_data (take l.router-index l.changes)
