use Rattle.std.proofs.Common.{[], ◌∷◌}
use Rattle.fabric_tests.proofs.publications.a_reader_never_sees_an_older_generation.Given as goal

-- the book that was just made, and the image's rows
abbrev pub ghosts-race : goal.ghosts-race
ghosts-race g a = record { books = a.unnamed ∷ []; openings = a.image.rows ∷ [] }
