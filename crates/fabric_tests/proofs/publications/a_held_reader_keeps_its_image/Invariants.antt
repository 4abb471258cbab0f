use Rattle.std.proofs.Common.{[], ◌∷◌}
use Rattle.fabric_tests.proofs.publications.a_held_reader_keeps_its_image.Given as goal

-- the book that was just made, and the image's rows
abbrev pub ghosts-publish_while_held : goal.ghosts-publish_while_held
ghosts-publish_while_held g a = record { books = a.unnamed ∷ []; openings = a.image.rows ∷ [] }
