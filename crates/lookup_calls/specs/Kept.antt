-- The table for which an image stands, as it is kept.
use Rattle.std.specs.Prelude.{◌≡◌, true, ⊤}
use Rattle.std.specs.FinMap.{is_sorted}
use Rattle.ipv4_prefix.specs.Prefix.{prefix_cmp}
use Rattle.row_words.specs.Rows.{WordTable}
use Rattle.lookup_calls.specs.{Tables.wordless_table, declared.kept.Form.Form, declared.kept.Form.TheVariants.Plain, declared.kept.Form.TheVariants.Words}

-- the rows and words of an image of either form
abbrev pub form_table : Form → WordTable
form_table (Plain image) = wordless_table image
form_table (Words table) = table

-- the rows of an image without words are in order, which an image with words is made of
abbrev pub IsInOrder : Form → Type 0
IsInOrder (Plain image) = is_sorted prefix_cmp image.rows ≡ true
IsInOrder (Words table) = ⊤
