-- Prefixes of C, the rows without theirs, and the rows from one on.
use Rattle.std.specs.Prelude.{◌≡◌, ℕ, ◌⊎◌, ◌==◌, if◌then◌else◌, List, [], ◌∷◌, map, length, take, drop, Option, None, Some}
use Rattle.ipv4_prefix.specs.Prefix.{Prefix}
use Rattle.row_words.specs.{Rows.WordTable, Rows.without_marked, declared.cells.Marked.Marked}
use Rattle.array_bitmap.specs.Cursor.{rows_onward}
use Rattle.c_interface.specs.{Faults.fault_number, Faults.first_of, Rows.prefix_fault, Rows.entry_row, declared.fault.CallFault.CallFault, declared.fault.CallFault.TheVariants.Empty, declared.fault.CallFault.TheVariants.Shared, declared.row.Row.Row}
use Rattle.lookup_calls.specs.declared.prefixes.Block.{Block}

-- the prefix, where it is one
abbrev pub block_of : Block → Prefix
block_of b = record { addr = b.addr; len = b.len }

-- the first of the tests that it fails, if any
abbrev pub block_fault : Block → Option CallFault
block_fault b = prefix_fault b.addr b.len

-- the fault of the first prefix that has one
abbrev pub first_block_fault : List Block → Option CallFault
first_block_fault [] = None
first_block_fault (b ∷ bs) = first_of (block_fault b) (first_block_fault bs)

-- ---- rows taken out

-- the rows without those of these prefixes
abbrev pub without_blocks : List Block → List (Prefix × Marked) → List (Prefix × Marked)
without_blocks [] rows = rows
without_blocks (b ∷ bs) rows = without_blocks bs (without_marked (block_of b) rows)

-- the image without the rows of these prefixes, of another generation
abbrev pub withdrawn : ℕ → List Block → WordTable → WordTable
withdrawn generation blocks image = record { generation = generation; rows = without_blocks blocks image.rows }

-- what the call answers that takes rows out, by the fault of the prefixes and by the image, if there is one: it takes no memory
abbrev pub IsRemoveStatus : Option CallFault → Option WordTable → ℕ → Type 0
IsRemoveStatus (Some f) image status = status ≡ fault_number f
IsRemoveStatus None None status = status ≡ fault_number Empty
IsRemoveStatus None (Some image) status = (status ≡ fault_number Shared) ⊎ (status ≡ 0)

-- ---- rows listed

-- where a cursor stands: at a prefix, or, with the length 33, at the end
abbrev pub cursor_prefix : Block → Option Prefix
cursor_prefix b = if b.len == 33 then None else Some (block_of b)

-- why it stands nowhere
abbrev pub cursor_fault : Block → Option CallFault
cursor_fault b = if b.len == 33 then None else block_fault b

-- what is written of a row: itself, as C has it, or its word
abbrev pub listed_row : Prefix × Marked → Row
listed_row r = entry_row r.0 r.1.entry

-- the word of a row that is listed
abbrev pub listed_word : Prefix × Marked → ℕ
listed_word r = r.1.word

-- the rows from a prefix on, as many as there is room for, are written over the first that were there; the others begin at `onward`
pub record IsFilledIn {X : Type 0} (listed : Prefix × Marked → X) (rows : List (Prefix × Marked)) (from : Option Prefix) (old new : List X) (count : ℕ) (onward : Option Prefix) : Type 0 where
  pub many : count ≡ length (take (length old) (rows_onward from rows))
  pub first : take count new ≡ map listed (take (length old) (rows_onward from rows))
  pub rest : drop count new ≡ drop count old
  pub others : rows_onward onward rows ≡ drop (length old) (rows_onward from rows)

-- what the call answers that lists rows, by the fault of the cursor and by the image, if there is one
abbrev pub rows_status : Option CallFault → Option WordTable → ℕ
rows_status (Some f) image = fault_number f
rows_status None None = fault_number Empty
rows_status None (Some image) = 0
