-- Answer words of 32 bits: session (bits 0 to 15), port (16 to 23), kind (24 and 25), length (26 to 31). The kinds are 0 for the router itself, 1 for a neighbour and 2 for nowhere; one word of kind 3 says that there is no row.
use Rattle.std.specs.Prelude.{ℕ, ◌≡◌, ◌+◌, ◌*◌, ◌/◌, ◌%◌, ◌^◌, ◌-◌, ◌<◌, ◌≤◌, ◌==◌, cond, Option, Some, None}
use Rattle.ipv4_prefix.specs.Prefix.{Prefix}
use Rattle.network_model.specs.{declared.route.Entry.Entry, declared.route.Entry.TheVariants.Local, declared.route.Entry.TheVariants.Via, declared.route.Entry.TheVariants.Unreachable}

-- the word for no row
abbrev pub nothing : ℕ
nothing = 3 * 2 ^ 24

-- the parts of a word
abbrev pub session_of : ℕ → ℕ
session_of w = w % 2 ^ 16

-- the port that the word of a row names
abbrev pub word_port : ℕ → ℕ
word_port w = w / 2 ^ 16 % 2 ^ 8

-- its kind
abbrev pub kind_of : ℕ → ℕ
kind_of w = w / 2 ^ 24 % 4

-- the length of the row's prefix
abbrev pub len_of : ℕ → ℕ
len_of w = w / 2 ^ 26

-- the word of a row, by the length of its prefix and its entry
abbrev pub row_word : ℕ → Entry → ℕ
row_word len Local = 2 ^ 26 * len
row_word len (Via port session) = session + 2 ^ 16 * port + 2 ^ 24 + 2 ^ 26 * len
row_word len Unreachable = 2 * 2 ^ 24 + 2 ^ 26 * len

-- the entry of a row's word
abbrev pub word_entry : ℕ → Entry
word_entry w = cond (kind_of w == 0) Local (cond (kind_of w == 1) (Via (word_port w) (session_of w)) Unreachable)

-- a word, if it is that of a row
abbrev pub shown : ℕ → Option ℕ
shown w = cond (w == nothing) None (Some w)

-- the length of a word's row, and the word, if it is that of a row
abbrev pub found : ℕ → Option (ℕ × ℕ)
found w = cond (w == nothing) None (Some (len_of w, w))

-- the word of an answer: that of the row that was found, or the word for no row
abbrev pub answer_word : Option (Prefix × Entry) → ℕ
answer_word None = nothing
answer_word (Some row) = row_word row.0.len row.1

-- what a word answers for an address: the prefix of the word's length that covers the address, and the word's entry
abbrev pub word_answer : ℕ → ℕ → Option (Prefix × Entry)
word_answer addr w = cond (w == nothing) None (Some (record { addr = addr / 2 ^ (32 - len_of w) * 2 ^ (32 - len_of w); len = len_of w }, word_entry w))

-- the word of an answer for an address says the whole answer, to those who know the address
pub record IsReadBack (addr : ℕ) (answer : Option (Prefix × Entry)) : Type 0 where
  pub short : len_of (answer_word answer) ≤ 32
  pub back : word_answer addr (answer_word answer) ≡ answer

-- a word is that of a row whose prefix has the length, and has nothing besides its length and its entry
pub record IsRowWord (len w : ℕ) : Type 0 where
  pub of_length : len_of w ≡ len
  pub of_row : kind_of w < 3
  pub whole : row_word len (word_entry w) ≡ w
