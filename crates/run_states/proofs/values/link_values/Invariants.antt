use Rattle.std.proofs.Common.{◌≡◌, map, take}
use Rattle.serde_json.specs.View.{view}
use Rattle.run_states.specs.Values.{links_data}
use Rattle.run_states.proofs.values.link_values.Given as goal

abbrev pub invariant-loop-link : goal.invariant-loop-link
invariant-loop-link l = map view (l.values).items ≡ links_data (take l.link-index l.changes)
