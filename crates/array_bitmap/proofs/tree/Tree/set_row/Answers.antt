use Rattle.std.proofs.Common.{Some, ◌*◌, ◌∙◌, ap, cond, option_map, sym}
use Rattle.std.proofs.lemmas.Result.{on_ok_weaker, on_err_weaker}
use Rattle.ipv4_prefix.specs.Prefix.{prefix_eq}
use Rattle.ipv4_prefix.proofs.TableRows.{table_rows-put, table_rows-same, row_of-table}
use Rattle.array_bitmap.specs.{Words.word_entry, Tree.word_at, Tree.entry_in, Image.cells_of}
use Rattle.array_bitmap.proofs.PrefixRows.{sets_entry}
use Rattle.array_bitmap.proofs.tree.Tree.set_row.Goals as goal

pub returns-clause-ok : goal.returns-clause-ok
returns-clause-ok g c =
    on_ok_weaker c.set.result
    (λ sets. table_rows-put (entry_in (cells_of c.args.self.now)) c.args.prefix c.args.entry (entry_in (cells_of c.set.new.self)) c.len-2.ensures.valid
    (λ q valid.
    sets_entry (word_at (cells_of c.args.self.now)) (word_at (cells_of c.set.new.self)) c.args.prefix (Some c.word_of-word.result) c.path_of.result c.from.result c.len-2.ensures.valid
    (c.path_of.ensures.value ∙ ap (λ a. a * 4) c.addr.ensures.value) (c.from.ensures ∙ c.len-2.ensures.value) sets q valid
    ∙ ap (λ x. cond (prefix_eq q c.args.prefix) (Some x) (entry_in (cells_of c.args.self.now) q)) c.word_of-word.ensures.back))
    c.set.ensures.ok

pub returns-clause-err : goal.returns-clause-err
returns-clause-err g c =
    on_err_weaker c.set.result
    (λ same. table_rows-same (entry_in (cells_of c.set.new.self)) (entry_in (cells_of c.args.self.now)) (λ q valid. ap (option_map word_entry) (same (q.addr * 4) q.len)))
    c.set.ensures.err

pub returns-clause-full : goal.returns-clause-full
returns-clause-full g c =
    let t = cells_of c.args.self.now in
    on_err_weaker c.set.result
    (λ none. row_of-table (entry_in t) c.args.prefix c.len-2.ensures.valid
    ∙ ap (option_map word_entry)
    (ap (λ p. word_at (cells_of c.args.self.now) p c.args.prefix.len) (sym (c.path_of.ensures.value ∙ ap (λ a. a * 4) c.addr.ensures.value))
    ∙ ap (word_at (cells_of c.args.self.now) c.path_of.result) (sym (c.from.ensures ∙ c.len-2.ensures.value)) ∙ none))
    c.set.ensures.full
