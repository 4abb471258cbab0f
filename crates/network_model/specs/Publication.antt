-- Patches, the lists of patches that a writer published, and the tables and images that they stand for.
use Rattle.std.specs.Prelude.{ℕ, List, [], ◌∷◌, Option}
use Rattle.std.specs.FinMap.{put}
use Rattle.ipv4_prefix.specs.{Prefix.Prefix, Prefix.prefix_cmp, LongestMatch.longest_match}
use Rattle.network_model.specs.{declared.route.Answer.Answer, declared.route.Entry.Entry}

-- rows to set, with the generation that they make
pub record Patch : Type 0 where
  pub generation : ℕ
  pub rows : List (Prefix × Entry)

-- a table with these rows set, in order
abbrev pub with_rows : {X : Type 0} → List (Prefix × X) → List (Prefix × X) → List (Prefix × X)
with_rows [] table = table
with_rows (r ∷ rs) table = with_rows rs (put prefix_cmp r.0 r.1 table)

-- the table that a list of patches makes of an opening table
abbrev pub published_table : List (Prefix × Entry) → List Patch → List (Prefix × Entry)
published_table table [] = table
published_table table (p ∷ ps) = published_table (with_rows p.rows table) ps

-- the generation that a list of patches makes: that of its last patch; given the one before it
abbrev pub published_generation : ℕ → List Patch → ℕ
published_generation before [] = before
published_generation before (p ∷ ps) = published_generation p.generation ps

-- an image: a generation, and the rows by which it answers
pub record Image : Type 0 where
  pub generation : ℕ
  pub rows : List (Prefix × Entry)

-- what an image answers for an address
abbrev pub image_answer : Image → ℕ → Option (Prefix × Entry)
image_answer image addr = longest_match addr image.rows

-- and with its generation
abbrev pub answer_of : Image → ℕ → Answer
answer_of image addr = record { generation = image.generation; matched = image_answer image addr }

-- the image of a list of patches over an opening table, whose generation is 0
abbrev pub published_image : List (Prefix × Entry) → List Patch → Image
published_image table ps = record { generation = published_generation 0 ps; rows = published_table table ps }
