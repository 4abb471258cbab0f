use Rattle.fabric.specs.Writers.{opening_tables}
use Rattle.play.proofs.opening.with_fabric.Given as goal

-- the books that were just made, and the tables with which the network opens
abbrev pub ghosts-with_named : goal.ghosts-with_named
ghosts-with_named g a = record { books = a.unnamed.items; openings = opening_tables a.network }
