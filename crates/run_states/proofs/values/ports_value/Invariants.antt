use Rattle.std.proofs.Common.{◌≡◌, map, filter}
use Rattle.std.specs.FinSet as set
use Rattle.std.specs.List.{range_with_len}
use Rattle.serde_json.specs.View.{view}
use Rattle.run_states.specs.Values.{port_data}
use Rattle.run_states.proofs.values.ports_value.Given as goal

abbrev pub invariant-loop-port : goal.invariant-loop-port
invariant-loop-port l = map view (l.links).items ≡ map (port_data l.world l.router) (filter (set.contains l.ports) (range_with_len 0 l.port))
