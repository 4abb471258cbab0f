use Rattle.std.proofs.Common.{◌≡◌, map, take}
use Rattle.serde_json.specs.View.{view}
use Rattle.run_states.specs.Values.{item_data}
use Rattle.run_states.proofs.values.items_value.Given as goal

abbrev pub invariant-loop-item : goal.invariant-loop-item
invariant-loop-item l = map view (l.values).items ≡ map (item_data l.prefixes) (take l.item-index l.items)
