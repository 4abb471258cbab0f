-- Published lists, the images that they stand for, and what waits for the next publication.
use Rattle.std.specs.Prelude.{◌≡◌, ℕ, Bool, true, List, [], ◌∷◌, ◌++◌, map, Option, Some, None, ◌<◌, length, get_or, slice_index_or}
use Rattle.std.specs.List.{list_any}
use mathlib.Core.List.{IsPrefix}
use Rattle.ipv4_prefix.specs.Prefix.{Prefix, prefix_eq}
use Rattle.network_model.specs.Publication.{Patch, Image, published_generation, published_image}
use Rattle.network_model.specs.declared.route.Entry.{Entry}
use Rattle.image_patch.specs.{Patches.patched, declared.Patch.Patch as PatchFields}
use Rattle.publication.specs.declared.known.Known.{Known}

-- the rows that a patch sets, and the generation that it makes
abbrev pub patch_of : {A : Type 0} → PatchFields A → Patch
patch_of p = record { generation = p.generation; rows = p.rows.items }

-- what is published together: patches that waited, and the one behind them
abbrev pub bundle_of : {A : Type 0} → List (PatchFields A) → PatchFields A → List Patch
bundle_of waiting p = map patch_of waiting ++ patch_of p ∷ []

-- the patches of publications, in order
abbrev pub patches_of : List (List Patch) → List Patch
patches_of [] = []
patches_of (ps ∷ rest) = ps ++ patches_of rest

-- a list with one more publication, of these patches
abbrev pub with_publication : Known → List Patch → Known
with_publication known ps = record { router = known.router; publications = known.publications ++ ps ∷ [] }

-- a router's list before the first publication
abbrev pub no_patches : ℕ → Known
no_patches router = record { router = router; publications = [] }

-- two lists are of one router, and its writer had the one, after some of the publications that made the other or before the first of them
pub record Begins (earlier later : Known) : Type 0 where
  pub router : later.router ≡ earlier.router
  pub publications : IsPrefix earlier.publications later.publications

-- the opening table of a router, by the opening tables of all
abbrev pub opening_of : List (List (Prefix × Entry)) → ℕ → List (Prefix × Entry)
opening_of openings router = slice_index_or openings router []

-- the image of a list: its router's opening table with the rows of its patches set in order
abbrev pub image_of : List (List (Prefix × Entry)) → Known → Image
image_of openings known = published_image (opening_of openings known.router) (patches_of known.publications)

-- the generation of a list: that of its last patch, 0 where it has none
abbrev pub generation_of : Known → ℕ
generation_of known = published_generation 0 (patches_of known.publications)

-- the prefixes that patches name
abbrev pub patched_prefixes : List Patch → List Prefix
patched_prefixes [] = []
patched_prefixes (p ∷ ps) = map (λ (r : Prefix × Entry). r.0) p.rows ++ patched_prefixes ps

-- whether one of the patches names the prefix
abbrev pub is_named : List Patch → Prefix → Bool
is_named ps prefix = list_any (λ p. prefix_eq p prefix) (patched_prefixes ps)

-- the patch names each prefix that one of these names
abbrev pub Covers : Patch → List Patch → Type 0
Covers p ps = (prefix : Prefix) → is_named ps prefix ≡ true → is_named (p ∷ []) prefix ≡ true

-- what a writer has published, and the patches that wait for its next publication
pub record Writing : Type 0 where
  pub published : Known
  pub waiting : List Patch

-- a writer that has published nothing
abbrev pub new_writing : ℕ → Writing
new_writing router = record { published = no_patches router; waiting = [] }

-- the fact holds of each element, with its place
abbrev pub EachAt : {A : Type 0} → (ℕ → A → Type 0) → List A → Type 0
EachAt {A} P xs = (k : ℕ) (d : A) → k < length xs → P k (get_or xs k d)

-- an image that a patch may be wanting
abbrev pub followed : {A : Type 0} → Option (PatchFields A) → Image → Image
followed None image = image
followed (Some p) image = patched p.generation p.rows.items image
