-- Rows with a word beside each entry, and the numbers of cells that stand for them in an image.
use Rattle.std.specs.Prelude.{ℕ, ◌≡◌, ◌+◌, ◌*◌, ◌-◌, ◌/◌, ◌%◌, ◌^◌, ◌<◌, ◌≤◌, not, true, List, [], ◌∷◌, length, map, filter, Option, Some, None, slice_index_or}
use Rattle.std.specs.{List.AllByRecursion, FinMap.put, FinMap.is_sorted}
use Rattle.ipv4_prefix.specs.{Prefix.Prefix, Prefix.prefix_cmp, Prefix.prefix_eq, LongestMatch.longest_match}
use Rattle.network_model.specs.{Publication.Image, declared.route.Entry.Entry, declared.route.Entry.TheVariants.Local, declared.route.Entry.TheVariants.Via, declared.route.Entry.TheVariants.Unreachable}
use Rattle.row_words.specs.declared.cells.Marked.{Marked}

-- ---- what callers see

-- a generation, and rows with their entries and words
pub record WordTable : Type 0 where
  pub generation : ℕ
  pub rows : List (Prefix × Marked)

-- the row that answers an address, with its word: the one with the longest prefix that covers it
abbrev pub marked_answer : WordTable → ℕ → Option (Prefix × Marked)
marked_answer table addr = longest_match addr table.rows

-- the word that answers an address: that of this row, or the word for no row
abbrev pub word_or_none : Option (Prefix × Marked) → ℕ
word_or_none None = 2 ^ 32 - 1
word_or_none (Some row) = row.1.word

-- the caller's word of the longest match, or 2^32 - 1 if no row covers the address
abbrev pub caller_word : WordTable → ℕ → ℕ
caller_word table addr = word_or_none (marked_answer table addr)

-- rows without their words
abbrev pub entries_of : List (Prefix × Marked) → List (Prefix × Entry)
entries_of rows = map (λ r. (r.0, r.1.entry)) rows

-- the image that a table is to those who look at no word
abbrev pub plain_image : WordTable → Image
plain_image table = record { generation = table.generation; rows = entries_of table.rows }

-- rows set over others, in order
abbrev pub with_marked : List (Prefix × Marked) → List (Prefix × Marked) → List (Prefix × Marked)
with_marked [] rows = rows
with_marked (r ∷ rs) rows = with_marked rs (put prefix_cmp r.0 r.1 rows)

-- the rows without that of a prefix
abbrev pub without_marked : Prefix → List (Prefix × Marked) → List (Prefix × Marked)
without_marked prefix rows = filter (λ row. not (prefix_eq row.0 prefix)) rows

-- ---- how it is kept

-- the entry by which a row of the image says the number of its cell
abbrev pub slot_entry : ℕ → Entry
slot_entry slot = Via (slot / 2 ^ 16) (slot % 2 ^ 16)

-- the number that an entry says
abbrev pub slot_of : Entry → ℕ
slot_of Local = 0
slot_of (Via port session) = session + 2 ^ 16 * port
slot_of Unreachable = 0

-- what cell 0 has
abbrev pub no_mark : Marked
no_mark = record { entry = Unreachable; word = 2 ^ 32 - 1 }

-- the cell of a row of the image
abbrev pub mark_in : List Marked → Entry → Marked
mark_in cells entry = slice_index_or cells (slot_of entry) no_mark

-- the word of the cell that an answer word names: its number is the word's last 24 bits
abbrev pub slot_word : List Marked → ℕ → ℕ
slot_word cells answer = (slice_index_or cells (answer % 2 ^ 24) no_mark).word

-- the rows for which those of the image stand
abbrev pub marked : List Marked → List (Prefix × Entry) → List (Prefix × Marked)
marked cells rows = map (λ r. (r.0, mark_in cells r.1)) rows

-- rows with the numbers of new cells, from a number on
abbrev pub with_slots : ℕ → List (Prefix × Marked) → List (Prefix × Entry)
with_slots slot [] = []
with_slots slot (r ∷ rs) = (r.0, slot_entry slot) ∷ with_slots (slot + 1) rs

-- an entry says the number of a cell, of which there are n, and not 0
pub record IsSlot (n : ℕ) (entry : Entry) : Type 0 where
  pub real : 0 < slot_of entry
  pub within : slot_of entry < n
  pub is : entry ≡ slot_entry (slot_of entry)

-- so do those of all rows
abbrev pub AreSlots : ℕ → List (Prefix × Entry) → Type 0
AreSlots n rows = AllByRecursion (λ r. IsSlot n r.1) rows

-- the rows of an image, and the cells, as they are kept
pub record AreKept (rows : List (Prefix × Entry)) (cells : List Marked) : Type 0 where
  pub slots : AreSlots (length cells) rows
  pub some : 0 < length cells
  pub few : length cells ≤ 2 ^ 24
  pub none : slice_index_or cells 0 no_mark ≡ no_mark
  pub sorted : is_sorted prefix_cmp rows ≡ true
