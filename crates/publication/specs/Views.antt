-- The rule of the two copies of an image. A reader's view is the list of the copy that it saw last; none before the first.
use Rattle.std.specs.Prelude.{◌≡◌, ℕ, List, Option, Some, IfSome}
use mathlib.Core.Option.{some}
use lib.ListN.{get_elem?}
use Rattle.ipv4_prefix.specs.Prefix.{Prefix}
use Rattle.network_model.specs.{Publication.Image, declared.route.Entry.Entry}
use Rattle.publication.specs.{declared.known.Known.Known, Lists.Begins, Lists.image_of}

-- the image that is shown is that of its list, which every view begins
abbrev pub Keeps : List (List (Prefix × Entry)) → Image → Known → List (Option Known) → Type 0
Keeps openings image shown views = (image ≡ image_of openings shown) × ((seat : ℕ) (v : Option Known) → get_elem? views seat ≡ some v → IfSome v (λ k. Begins k shown))

-- the view began the list that was shown, and is the list that is shown now, with its image
abbrev pub Sees : List (List (Prefix × Entry)) → Option Known → Known → Image → Known → Option Known → Type 0
Sees openings v before image after w = IfSome v (λ k. Begins k before) × (w ≡ Some after) × (image ≡ image_of openings after)
