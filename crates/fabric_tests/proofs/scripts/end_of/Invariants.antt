use Rattle.fabric.specs.Writers.{opening_tables}
use Rattle.fabric_tests.proofs.scripts.end_of.Given as goal

-- the books that were just made, and the tables with which the network opens
abbrev pub ghosts-open_and_run : goal.ghosts-open_and_run
ghosts-open_and_run g a = record { books = a.unnamed.items; openings = opening_tables a.network }
