use Rattle.std.proofs.Common.{◌≡◌, map, take, is_some}
use Rattle.std.specs.{FinMap.find as row_of, List.list_any}
use Rattle.ipv4_prefix.specs.Prefix.{Prefix, prefix_cmp, prefix_eq}
use Rattle.route_table.specs.PrefixMap.{map_rows}
use Rattle.run_states.proofs.recorder.prefixes_of.Given as goal

abbrev pub invariant-loop-attachment : goal.invariant-loop-attachment
invariant-loop-attachment l = (p : Prefix) → is_some (row_of prefix_cmp p (map_rows l.given)) ≡ list_any (λ a. prefix_eq p a.0) (take l.attachment-index l.attachment-items)

abbrev pub invariant-loop-row : goal.invariant-loop-row
invariant-loop-row l = (l.prefixes).items ≡ map (λ r. r.0) (take l.row-index l.row-items)
