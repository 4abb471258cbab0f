use Rattle.std.proofs.Common.{◌∙◌, sym, slice_index_or}
use Rattle.std.proofs.lemmas.List.Elements.{All-contains_itself}
use Rattle.ipv4_prefix.proofs.LongestMatches.{longest_match-none}
use Rattle.bitmaps.proofs.RowsSet.{longest_where_some}
use Rattle.array_bitmap.proofs.image.Image.lookup.Goals as goal

pub returns-clause-longest : goal.returns-clause-longest
returns-clause-longest g c = longest_where_some c.args.addr c.args.self.now.rows c.answer.result c.answer.ensures

pub returns-clause-none : goal.returns-clause-none
returns-clause-none g c = λ none k d h.
    let rows = c.args.self.now.rows in
    longest_match-none c.args.addr rows (sym c.answer.ensures ∙ none) (slice_index_or rows k d) (All-contains_itself rows k d h)
