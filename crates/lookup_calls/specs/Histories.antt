-- The images that a writer publishes, one after another.
use Rattle.std.specs.Prelude.{ℕ, List, [], ◌∷◌, Option, None, Some}
use Rattle.receipts.specs.Logs.{Log}
use Rattle.ipv4_prefix.specs.Prefix.{Prefix}
use Rattle.row_words.specs.{Rows.WordTable, declared.cells.Marked.Marked}
use Rattle.lookup_calls.specs.{Images.new_rows, Images.patched_table, Prefixes.withdrawn, declared.change.Change.Change, declared.prefixes.Block.Block}

-- which writer it is, and the images that it had published at some moment, the first that it was made of
abbrev pub Published : Type 0
Published = Log WordTable

-- the last of the images, of which the first is given
abbrev pub last_or : WordTable → List WordTable → WordTable
last_or i [] = i
last_or i (j ∷ js) = last_or j js

-- the image that was published last
abbrev pub last_image : List WordTable → Option WordTable
last_image [] = None
last_image (i ∷ is) = Some (last_or i is)

-- the image in which rows were set, in order, and then those of prefixes taken out, of another generation
abbrev pub changed : ℕ → List (Prefix × Marked) → List Block → WordTable → WordTable
changed generation rows blocks image = withdrawn generation blocks (patched_table generation rows image)

-- an image that may be wanting a change
abbrev pub with_missed : Option Change → WordTable → WordTable
with_missed None image = image
with_missed (Some c) image = withdrawn c.patch.generation c.blocks.items (patched_table c.patch.generation (new_rows c.patch.rows) image)
