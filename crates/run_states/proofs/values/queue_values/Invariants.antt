use Rattle.std.proofs.Common.{◌≡◌, map, take}
use Rattle.serde_json.specs.View.{view}
use Rattle.run_states.specs.Values.{queues_data}
use Rattle.run_states.proofs.values.queue_values.Given as goal

abbrev pub invariant-loop-link : goal.invariant-loop-link
invariant-loop-link l = map view (l.values).items ≡ queues_data l.prefixes (take l.link-index l.changes)
