use Rattle.std.proofs.Common.{[], ◌∷◌}
use Rattle.fabric_tests.proofs.refusals.is_refused_to_one_router.Given as goal

-- the book that was just made, and the image's rows
abbrev pub ghosts-with_readers : goal.ghosts-with_readers
ghosts-with_readers g a = record { books = a.unnamed ∷ []; openings = a.image.rows ∷ [] }
