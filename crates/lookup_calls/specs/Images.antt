-- Images that are made of rows, and rows set in them.
use Rattle.std.specs.Prelude.{ℕ, List, []}
use Rattle.ipv4_prefix.specs.Prefix.{Prefix}
use Rattle.row_words.specs.{Rows.WordTable, Rows.with_marked, declared.cells.Marked.Marked}
use Rattle.lookup_calls.specs.{Tables.wordless_rows, declared.patch.NewRows.NewRows, declared.patch.NewRows.TheVariants.Plain, declared.patch.NewRows.TheVariants.Words}

-- the image of rows that are set in order, of generation 0
abbrev pub new_image : List (Prefix × Marked) → WordTable
new_image rows = record { generation = 0; rows = with_marked rows [] }

-- an image with rows set over its own, in order, and another generation
abbrev pub patched_table : ℕ → List (Prefix × Marked) → WordTable → WordTable
patched_table generation rows image = record { generation = generation; rows = with_marked rows image.rows }

-- the rows of a patch
abbrev pub new_rows : NewRows → List (Prefix × Marked)
new_rows (Plain rows) = wordless_rows rows.items
new_rows (Words rows) = rows.items
