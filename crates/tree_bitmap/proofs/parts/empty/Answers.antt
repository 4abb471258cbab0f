use Rattle.std.proofs.Common.{◌*◌}
use Rattle.ipv4_prefix.proofs.TableRows.{table_rows-empty}
use Rattle.tree_bitmap.specs.Tree.{tree_entry}
use Rattle.tree_bitmap.proofs.parts.empty.Goals as goal

pub returns : goal.returns
returns g c = λ i. record { generation = 0; rows = table_rows-empty (tree_entry c.in_ok-new.field-0) (λ q. c.in_ok-new.ensures.empty (q.addr * 16) q.len) i }
