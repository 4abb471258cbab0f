use Rattle.std.proofs.Common.{◌≡◌, [], ◌∷◌, map, take}
use Rattle.serde_json.specs.View.{view}
use Rattle.run_states.specs.Values.{count_value, list}
use Rattle.run_states.proofs.states.end_values.Given as goal

abbrev pub invariant-loop-link : goal.invariant-loop-link
invariant-loop-link l = map view (l.values).items ≡ map (λ k. list (count_value k.a ∷ count_value k.b ∷ [])) (take l.link-index l.links)
