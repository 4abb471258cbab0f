use Rattle.std.proofs.Common.{◌∙◌, sym, ap, Some, None}
use Rattle.ipv4_prefix.proofs.TableRows.{longest_in_table}
use Rattle.array_bitmap.specs.{Tree.entry_in, Image.cells_of}
use Rattle.array_bitmap.proofs.PrefixRows.{longest_on_path, none_on_path}
use Rattle.array_bitmap.proofs.tree.Tree.answer.Goals as goal

pub returns-then-word-eq-NOTHING : goal.returns-then-word-eq-NOTHING
returns-then-word-eq-NOTHING g c =
    let t = cells_of c.args.self.now in
    sym (longest_in_table (entry_in t) c.args.addr None (none_on_path t c.args.addr c.args.word c.if-word-eq-NOTHING.true c.requires.longest))

pub returns : goal.returns
returns g c =
    let t = cells_of c.args.self.now in
    ap (λ e. Some (c.covering.result, e)) c.entry_of.ensures
    ∙ sym (longest_in_table (entry_in t) c.args.addr (Some (c.covering.result, _))
    (longest_on_path t c.args.addr c.args.word c.covering.result c.if-word-eq-NOTHING.false c.covering.ensures.valid (c.covering.ensures.len ∙ c.len_of.ensures.value) c.covering.ensures.covers c.requires.longest))
