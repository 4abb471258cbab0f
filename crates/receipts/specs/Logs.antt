-- A list that one writer makes longer, and what is known of it.
use Rattle.std.specs.Prelude.{◌≡◌, ℕ, ◌==◌, true, List, [], ◌∷◌, ◌++◌, length, MatchBool}
use mathlib.Core.List.{IsPrefix}
use Rattle.logbook.specs.Pages.{Cell, Step, View, Book, Named}

-- which list it is, and its elements at some moment
pub record Log (E : Type 0) : Type 0 where
  pub book : Book
  pub elements : List E

-- both are of one list, which had the earlier elements when it had the later ones
pub record GrowsTo {E : Type 0} (earlier later : Log E) : Type 0 where
  pub book : later.book ≡ earlier.book
  pub elements : IsPrefix earlier.elements later.elements

-- one element more
abbrev pub with_element : {E : Type 0} → Log E → E → Log E
with_element l e = record { book = l.book; elements = l.elements ++ e ∷ [] }

-- the first word of the book is the number of elements. A book has two words, of which this one leaves the second at 0
abbrev pub IsBookOf : {E : Type 0} → List Cell → List E → Type 0
IsBookOf cells log = cells ≡ (length log, true) ∷ (0, true) ∷ []

-- the first word of a book
abbrev pub head_of : Book → Named
head_of b = record { tracked = true; key = 0; book = b }

-- the element was added to all that had been seen; or there were more
abbrev pub Adds : {E : Type 0} → Step E → View E ℕ → ℕ → View E ℕ → Type 0
Adds s v found w = MatchBool (found == s.old) (w.0 ≡ v.0 ++ s.ask ∷ []) (length w.0 ≡ found)
