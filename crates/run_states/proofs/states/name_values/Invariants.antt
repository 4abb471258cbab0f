use Rattle.std.proofs.Common.{◌≡◌, Some, map}
use Rattle.std.specs.List.{range_with_len}
use Rattle.serde_json.specs.View.{view}
use Rattle.script.specs.Directories.{name_text}
use Rattle.run_states.specs.Values.{word}
use Rattle.run_states.proofs.states.name_values.Given as goal

abbrev pub invariant-loop-router : goal.invariant-loop-router
invariant-loop-router l = map view (l.values).items ≡ map (λ i. word (name_text l.directory (Some i))) (range_with_len 0 l.router)
