use Rattle.fabric.specs.Writers.{opening_tables}
use Rattle.fabric_tests.proofs.fabrics.within.Given as goal

-- the books that were just made, and the tables with which the network opens
abbrev pub ghosts-opened : goal.ghosts-opened
ghosts-opened g a = record { books = a.unnamed.items; openings = opening_tables a.network }
