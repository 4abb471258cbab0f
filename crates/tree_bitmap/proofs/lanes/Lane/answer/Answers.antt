use Rattle.std.proofs.Common.{◌∙◌, sym, Some, None}
use Rattle.node_pool.specs.Pool.{cell}
use Rattle.ipv4_prefix.proofs.TableRows.{longest_in_table}
use Rattle.tree_bitmap.specs.Tree.{tree_entry}
use Rattle.tree_bitmap.proofs.PrefixRows.{longest_on_path, none_on_path}
use Rattle.tree_bitmap.proofs.lanes.Lane.answer.Goals as goal

pub returns-in_err-len : goal.returns-in_err-len
returns-in_err-len g c =
    let tree = c.args.tree.now in
    let none = none_on_path (cell tree.pool.nodes) (cell tree.pool.results) c.args.self.now.addr c.in_err-len.ensures in
    c.from_residual.ensures ∙ sym (longest_in_table (tree_entry tree) c.args.self.now.addr None none)

pub returns : goal.returns
returns g c =
    let tree = c.args.tree.now in
    let found = longest_on_path (cell tree.pool.nodes) (cell tree.pool.results) c.args.self.now.addr c.in_ok-len.len c.in_ok-len.entry c.covering.result
    c.covering.ensures.valid c.covering.ensures.len c.covering.ensures.covers c.in_ok-len.ensures in
    sym (longest_in_table (tree_entry tree) c.args.self.now.addr (Some (c.covering.result, c.in_ok-len.entry)) found)
