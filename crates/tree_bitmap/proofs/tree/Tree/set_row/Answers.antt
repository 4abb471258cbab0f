use Rattle.std.proofs.Common.{Some, ◌*◌, ◌∙◌, ap}
use Rattle.std.proofs.lemmas.Result.{on_ok_weaker, on_err_weaker}
use Rattle.ipv4_prefix.proofs.TableRows.{table_rows-put, table_rows-same}
use Rattle.tree_bitmap.specs.Tree.{rows, tree_entry}
use Rattle.tree_bitmap.proofs.PrefixRows.{sets_entry_at}
use Rattle.tree_bitmap.proofs.tree.Tree.set_row.Goals as goal

pub returns-clause-ok : goal.returns-clause-ok
returns-clause-ok g c =
    on_ok_weaker c.set.result
    (λ sets. table_rows-put (tree_entry c.args.self.now) c.args.prefix c.args.entry (tree_entry c.set.new.self) c.addr.ensures.valid
    (sets_entry_at (rows c.args.self.now) (rows c.set.new.self) c.args.prefix (Some c.args.entry) c.path_of.result c.len.result c.addr.ensures.valid
    (c.path_of.ensures ∙ ap (λ a. a * 16) c.addr.ensures.value) c.len.ensures.value sets))
    c.set.ensures.ok

pub returns-clause-err : goal.returns-clause-err
returns-clause-err g c =
    on_err_weaker c.set.result
    (λ same. table_rows-same (tree_entry c.set.new.self) (tree_entry c.args.self.now) (λ q valid. same (q.addr * 16) q.len))
    c.set.ensures.err
