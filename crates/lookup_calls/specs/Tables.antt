-- Rows of C and their words, as rows of a table.
use Rattle.std.specs.Prelude.{ℕ, ◌-◌, ◌^◌, List, [], ◌∷◌, map}
use Rattle.ipv4_prefix.specs.Prefix.{Prefix}
use Rattle.network_model.specs.{Publication.Image, declared.route.Entry.Entry}
use Rattle.c_interface.specs.{Rows.row_entry, declared.row.Row.Row}
use Rattle.row_words.specs.{Rows.WordTable, declared.cells.Marked.Marked}

-- the word of a row that is given without one. A look-up answers it, too, if no row covers the address
abbrev pub no_word : ℕ
no_word = 2 ^ 32 - 1

-- an entry without a word of its own
abbrev pub wordless : Entry → Marked
wordless entry = record { entry = entry; word = no_word }

-- such rows
abbrev pub wordless_rows : List (Prefix × Entry) → List (Prefix × Marked)
wordless_rows rows = map (λ r. (r.0, wordless r.1)) rows

-- the table of an image, none of whose rows has a word of its own
abbrev pub wordless_table : Image → WordTable
wordless_table image = record { generation = image.generation; rows = wordless_rows image.rows }

-- a row of C with a word
abbrev pub worded_row : Row → ℕ → Prefix × Marked
worded_row r word = ((row_entry r).0, record { entry = (row_entry r).1; word = word })

-- rows of C without words
abbrev pub plain_rows : List Row → List (Prefix × Marked)
plain_rows rows = map (λ r. worded_row r no_word) rows

-- rows of C, each with the word at its place in the other list
abbrev pub worded_rows : List Row → List ℕ → List (Prefix × Marked)
worded_rows [] words = []
worded_rows (r ∷ rs) [] = []
worded_rows (r ∷ rs) (w ∷ ws) = worded_row r w ∷ worded_rows rs ws
