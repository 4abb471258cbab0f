use Rattle.std.proofs.Common.{None, ◌*◌, ◌∙◌, ap, is_some, sym}
use Rattle.ipv4_prefix.proofs.TableRows.{row_of-table}
use Rattle.array_bitmap.specs.{Tree.word_at, Tree.entry_in, Image.cells_of}
use Rattle.array_bitmap.proofs.PrefixRows.{sets_entry, table_rows-without, is_some-map}
use Rattle.array_bitmap.proofs.tree.Tree.remove_row.Goals as goal

pub returns-clause-rows : goal.returns-clause-rows
returns-clause-rows g c =
    table_rows-without (entry_in (cells_of c.args.self.now)) c.args.prefix (entry_in (cells_of c.remove.new.self))
    (sets_entry (word_at (cells_of c.args.self.now)) (word_at (cells_of c.remove.new.self)) c.args.prefix None c.path_of.result c.from.result c.len.ensures.valid
    (c.path_of.ensures.value ∙ ap (λ a. a * 4) c.addr.ensures.value) (c.from.ensures ∙ c.len.ensures.value) c.remove.ensures.gone)

pub returns-clause-found : goal.returns-clause-found
returns-clause-found g c =
    let t = cells_of c.args.self.now in
    c.remove.ensures.found
    ∙ ap (λ p. is_some (word_at (cells_of c.args.self.now) p c.from.result)) (c.path_of.ensures.value ∙ ap (λ a. a * 4) c.addr.ensures.value)
    ∙ ap (λ l. is_some (word_at (cells_of c.args.self.now) (c.args.prefix.addr * 4) l)) (c.from.ensures ∙ c.len.ensures.value)
    ∙ sym (is_some-map (word_at t (c.args.prefix.addr * 4) c.args.prefix.len)) ∙ sym (ap is_some (row_of-table (entry_in t) c.args.prefix c.len.ensures.valid))
