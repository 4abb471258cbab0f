use Rattle.std.proofs.Common.{map}
use Rattle.fabric_tests.proofs.publications.readers_see_three_patches_one_after_another.Given as goal

-- the books that were just made, and the images' rows
abbrev pub ghosts-at_second : goal.ghosts-at_second
ghosts-at_second g a = record { books = a.unnamed.items; openings = map (λ i. i.rows) a.images.items }
