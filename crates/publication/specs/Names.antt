-- The books of a fabric's writers. A book has, in the proofs alone, the list of publications of its writer.
use Rattle.std.specs.Prelude.{ℕ, List, slice_index_or}
use Rattle.logbook.specs.Pages.{Book}

-- a book of no writer, so that each number of a router has one
abbrev pub no_book : Book
no_book = record { number = 0; log_name = 0; cells_name = 0 }

-- the book of a router's writer
abbrev pub book_of : List Book → ℕ → Book
book_of books router = slice_index_or books router no_book
