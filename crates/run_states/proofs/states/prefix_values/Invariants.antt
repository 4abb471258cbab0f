use Rattle.std.proofs.Common.{◌≡◌, map, take}
use Rattle.ipv4_prefix.specs.Texts.{prefix_text}
use Rattle.serde_json.specs.View.{view}
use Rattle.run_states.specs.Values.{word}
use Rattle.run_states.proofs.states.prefix_values.Given as goal

abbrev pub invariant-loop-prefix : goal.invariant-loop-prefix
invariant-loop-prefix l = map view (l.values).items ≡ map (λ p. word (prefix_text p)) (take l.prefix-index l.prefixes)
