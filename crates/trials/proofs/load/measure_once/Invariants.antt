use Rattle.std.proofs.Common.{[], ◌∷◌}
use Rattle.trials.proofs.load.measure_once.Given as goal

-- one book, for the only router, and the table that it opens with
abbrev pub ghosts-measure : goal.ghosts-measure
ghosts-measure g a = record { books = a.unnamed ∷ []; openings = a.image.rows ∷ [] }
