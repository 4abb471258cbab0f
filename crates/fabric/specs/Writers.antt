-- The writers that publish the images of a fabric's routers, and the readers by which the fabric looks up in them.
use Rattle.std.specs.Prelude.{◌≡◌, ◌≤◌, ℕ, true, List, [], ◌∷◌, map, length, All, IsSome, IfSome, Some, slice_get, option_and_then}
use Rattle.std.specs.{FinMap.find as row_of, Option.option_map_or}
use Rattle.ipv4_prefix.specs.Prefix.{Prefix, prefix_cmp}
use Rattle.network_model.specs.{declared.route.Entry.Entry, Step.is_due, Step.router_publishing, Publication.Image, Publication.Patch, declared.step.Step.Step}
use Rattle.network_model.specs.World.{Network, Router, World, opening}
use Rattle.publication.specs.declared.known.Known.{Known}
use Rattle.publication.specs.Lists.{EachAt, Writing, image_of, is_named, no_patches, patched_prefixes}
use Rattle.image_patch.specs.Patches.{patched}
use Rattle.fabric.specs.Desks.{Desk, all_lent, writings}
use Rattle.fabric.specs.Fabric.{Fabric, count_lent, fabric_of, lent_at, IsFabric, IsSumOf}
use Rattle.course.specs.Images.{image_in_force}

-- the rows that each router of a network has chosen when it opens, by the routers' numbers
abbrev pub opening_tables : Network → List (List (Prefix × Entry))
opening_tables n = map (λ r. (r.table).control) (opening n).routers

-- the images that writers have in force
abbrev pub shown_images : List (List (Prefix × Entry)) → List Writing → List Image
shown_images openings writers = map (λ w. image_of openings w.published) writers

-- the prefixes that wait with the writer of router i
abbrev pub waiting_at : List Writing → ℕ → List Prefix
waiting_at writers i = option_map_or (λ w. patched_prefixes w.waiting) (slice_get writers i) []

-- router i has heard of the prefix
abbrev pub IsHeard : World → ℕ → Prefix → Type 0
IsHeard w i p = IsSome (option_and_then (λ r. row_of prefix_cmp p r.machines) (slice_get w.routers i))

-- router i has heard of each prefix that these patches name
abbrev pub AreHeard : World → ℕ → List Patch → Type 0
AreHeard w i waiting = (p : Prefix) → is_named waiting p ≡ true → IsHeard w i p

-- each writer is of its router, which has heard of all that waits with it
pub record AreWriters (w : World) (writers : List Writing) : Type 0 where
  pub numbered : EachAt (λ i x. (x.published).router ≡ i) writers
  pub heard : EachAt (λ i x. AreHeard w i x.waiting) writers

-- the patch with which router i's writer is out is still due: it makes of what the router published what it has chosen
pub record IsPending (w : World) (i : ℕ) (patch : Patch) : Type 0 where
  pub router : Router
  pub is_router : slice_get w.routers i ≡ Some router
  pub due : is_due router ≡ true
  pub makes : patched patch.generation patch.rows (image_in_force router) ≡ image_in_force (router_publishing router)

-- so is each patch with which a writer is out, and it stands for what waits with that
abbrev pub ArePending : World → List Desk → Type 0
ArePending w desks = EachAt (λ i d. IfSome d.out (λ p. ((d.writing).waiting ≡ p ∷ []) × IsPending w i p)) desks

-- in a fabric: each patch with which a writer is out is the one that is due
abbrev pub LentAreDue : Fabric → Type 0
LentAreDue f = (i : ℕ) (patch : Patch) → lent_at f.lent i ≡ Some patch → IsPending f.world i patch

-- each router has a reader, and each reader is of its router
pub record AreReaders (w : World) (views : List Known) : Type 0 where
  pub every_router : length views ≡ length w.routers
  pub numbered : EachAt (λ i v. v.router ≡ i) views

-- readers of all routers, by their numbers, that have seen nothing published
abbrev pub IsReaderPort : ℕ → List Known → Type 0
IsReaderPort routers port = (length port ≡ routers) × EachAt (λ i r. r ≡ no_patches i) port

-- what a fabric is whose desks have the writers: their images are in force, and the patches with which they are out
abbrev pub fabric_seen : List (List (Prefix × Entry)) → Network → List Step → World → List Desk → Fabric
fabric_seen openings network journal world desks = fabric_of network journal world (shown_images openings (writings desks)) (all_lent desks)

-- what the parts of a fabric keep among each other
abbrev pub FitTogether : List (List (Prefix × Entry)) → Network → List Step → ℕ → World → List Desk → List Known → ℕ → ℕ → Type 0
FitTogether openings network journal capacity world desks readers sum set_aside =
    IsFabric (fabric_seen openings network journal world desks) capacity
    × AreWriters world (writings desks) × ArePending world desks × AreReaders world readers
    × IsSumOf journal sum × (set_aside ≡ count_lent (all_lent desks))

-- each router has at least so many readers, which have seen nothing published
abbrev pub HaveReaders : ℕ → List (List Known) → Type 0
HaveReaders many lists = EachAt (λ i rs. (many ≤ length rs) × All (λ r. r ≡ no_patches i) rs) lists
