-- Which of the rows of C has a fault, and the rows and words of answers.
use Rattle.std.specs.Prelude.{ℕ, ◌-◌, ◌*◌, ◌/◌, ◌^◌, ◌==◌, if◌then◌else◌, List, [], ◌∷◌, length, map, Option, None, Some}
use Rattle.std.specs.Option.{option_map}
use Rattle.ipv4_prefix.specs.Prefix.{Prefix}
use Rattle.array_bitmap.specs.Words.{len_of, kind_of, word_port, session_of}
use Rattle.network_model.specs.{Publication.Image, Publication.image_answer, declared.route.Entry.Entry}
use Rattle.row_words.specs.Rows.{WordTable, marked_answer, caller_word}
use Rattle.c_interface.specs.{Faults.first_of, Rows.row_fault, Rows.answer_row, declared.fault.CallFault.CallFault, declared.fault.CallFault.TheVariants.BadCount, declared.row.Row.Row}

-- the fault of the first row that has one
abbrev pub first_row_fault : List Row → Option CallFault
first_row_fault [] = None
first_row_fault (r ∷ rs) = first_of (row_fault r) (first_row_fault rs)

-- why a list of words does not fit another list of so many
abbrev pub count_fault : ℕ → ℕ → Option CallFault
count_fault many words = if many == words then None else Some BadCount

-- the fault of rows with a word each: that of the first row that has one, or else that there are not as many words
abbrev pub words_fault : List Row → List ℕ → Option CallFault
words_fault rows words = first_of (first_row_fault rows) (count_fault (length rows) (length words))

-- the row that answers an address, without its word
abbrev pub entry_answer : WordTable → ℕ → Option (Prefix × Entry)
entry_answer table addr = option_map (λ r. (r.0, r.1.entry)) (marked_answer table addr)

-- the rows that a table answers for addresses
abbrev pub answer_rows : WordTable → List ℕ → List Row
answer_rows table addrs = map (λ addr. answer_row (entry_answer table addr)) addrs

-- the words that it answers
abbrev pub answer_words : WordTable → List ℕ → List ℕ
answer_words table addrs = map (caller_word table) addrs

-- the rows that an image without words answers
abbrev pub image_rows : Image → List ℕ → List Row
image_rows image addrs = map (λ addr. answer_row (image_answer image addr)) addrs

-- the row of an answer word for an address: the parts of the word, and as many of the address's first bits as it says
abbrev pub word_row : ℕ → ℕ → Row
word_row addr w = record { addr = addr / 2 ^ (32 - len_of w) * 2 ^ (32 - len_of w); len = len_of w; kind = kind_of w; port = word_port w; session = session_of w }
