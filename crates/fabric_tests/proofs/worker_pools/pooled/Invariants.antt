use Rattle.std.proofs.Common.{map}
use Rattle.fabric_tests.proofs.worker_pools.pooled.Given as goal

-- the books that were just made, and the images' rows
abbrev pub ghosts-opened : goal.ghosts-opened
ghosts-opened g a = record { books = a.unnamed.items; openings = map (λ i. i.rows) a.images.items }
