-- Writers that are out: one leaves with a patch to publish, and comes back with it published or not.
use Rattle.std.specs.Prelude.{◌≡◌, ◌+◌, Bool, true, false, List, [], ◌∷◌, ◌++◌, length}
use Rattle.network_model.specs.Publication.{Patch}
use Rattle.publication.specs.declared.known.Known.{Known}
use Rattle.publication.specs.Lists.{Covers, Writing, generation_of, with_publication}

-- what a writer had published when it left, the patch that it took with it, whether it has published that, and what it has published and what waits with it now
pub record Outing : Type 0 where
  pub before : Known
  pub patch : Patch
  pub is_published : Bool
  pub writing : Writing

-- a writer that leaves with this patch
abbrev pub new_outing : Writing → Patch → Outing
new_outing w patch = record { before = w.published; patch = patch; is_published = false; writing = w }

-- the list has as many publications as its generation says, and the patch has the next number
pub record IsNextPatch (before : Known) (patch : Patch) : Type 0 where
  pub count : length before.publications ≡ generation_of before
  pub number : patch.generation ≡ generation_of before + 1

-- as long as the patch is not published, the list is the one of before, and the patch names all that waits; from then on it is that list with one publication more: what waited, which the patch names, and then the patch
abbrev pub HasPublished : Bool → Outing → Type 0
HasPublished false o = ((o.writing).published ≡ o.before) × Covers o.patch (o.writing).waiting
HasPublished true o = (waited : List Patch) × Covers o.patch waited × ((o.writing).published ≡ with_publication o.before (waited ++ o.patch ∷ [])) × ((o.writing).waiting ≡ [])

-- what every writer that is out keeps
pub record IsOuting (o : Outing) : Type 0 where
  pub next : IsNextPatch o.before o.patch
  pub published : HasPublished o.is_published o

-- what stays of a writer that is out: what it had published, and the patch that it is to publish
pub record Stub : Type 0 where
  pub before : Known
  pub patch : Patch
