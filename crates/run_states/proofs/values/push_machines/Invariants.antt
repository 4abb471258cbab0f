use Rattle.std.proofs.Common.{◌≡◌, ◌++◌, map, take}
use Rattle.serde_json.specs.View.{view}
use Rattle.run_states.specs.Values.{machine_data}
use Rattle.run_states.proofs.values.push_machines.Given as goal

abbrev pub invariant-loop-prefix : goal.invariant-loop-prefix
invariant-loop-prefix l = map view (l.values).items ≡ map view (l.initial.values).items ++ map (λ m. machine_data l.world l.router m.0 m.1) (take l.prefix-index l.machines)
