-- The last of a list of images.
use Rattle.std.proofs.Common.{◌≡◌, List, [], ◌∷◌, ◌++◌, Some, refl, ap}
use Rattle.row_words.specs.Rows.{WordTable}
use Rattle.lookup_calls.specs.Histories.{last_or, last_image}

last_or_more : (i j : WordTable) (is : List WordTable) → last_or i (is ++ j ∷ []) ≡ j
last_or_more i j [] = refl
last_or_more i j (k ∷ is) = last_or_more k j is

-- the image that is added is the last
pub last_more : (is : List WordTable) (j : WordTable) → last_image (is ++ j ∷ []) ≡ Some j
last_more [] j = refl
last_more (i ∷ is) j = ap Some (last_or_more i j is)
