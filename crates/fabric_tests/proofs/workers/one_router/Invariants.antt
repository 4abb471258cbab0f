use Rattle.std.proofs.Common.{[], ◌∷◌}
use Rattle.fabric_tests.proofs.workers.one_router.Given as goal

-- the book that was just made, and the image's rows
abbrev pub ghosts-opened : goal.ghosts-opened
ghosts-opened g a = record { books = a.unnamed ∷ []; openings = a.image.rows ∷ [] }
