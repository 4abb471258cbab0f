-- What holds of every fabric: no packet circles along the images in force, and at quiet rows lead along least-cost walks.
use Rattle.std.specs.Prelude.{◌≡◌, ℕ, ◌<◌, Bool, true, false, ◌&&◌, if◌then◌else◌, List, Option, Some, slice_get, option_map, option_and_then}
use Rattle.ipv4_prefix.specs.Prefix.{Prefix}
use Rattle.network_model.specs.{declared.route.Entry.Entry, Publication.Image, Publication.image_answer, Step.router_publishing, Forwarding.entry_leads, Forwarding.is_quiet}
use Rattle.loop_freedom.specs.Network.{meets_twice}
use Rattle.all_packets.specs.Packets.{IsWayBy}
use Rattle.quiet_routes.specs.Routes.{HasBestRow}
use Rattle.convergence.specs.Converges.{Converges}
use Rattle.fabric.specs.Fabric.{Fabric, is_lent}
use Rattle.course.specs.Images.{image_in_force}

-- ---- mixtures: of the routers whose writers are out, some forward by what they have chosen, where by_control says so, the others by what they published

-- the image that router i has in force in a mixture: its own, or the one that its writer is out to publish, which is of what it has chosen (`pending` of `Fabric::holds`)
abbrev pub mixture_image : Fabric → (ℕ → Bool) → ℕ → Option Image
mixture_image f by_control i = if by_control i && is_lent f i then option_map (λ r. image_in_force (router_publishing r)) (slice_get f.world.routers i) else slice_get f.images i

-- the mixture in which no ticket has published
abbrev pub none_published : ℕ → Bool
none_published i = false

-- the row that this image gives for an address
abbrev pub image_row : Fabric → (ℕ → Bool) → ℕ → ℕ → Option (Prefix × Entry)
image_row f by_control i addr = option_and_then (λ image. image_answer image addr) (mixture_image f by_control i)

-- a packet for the address, matched by this prefix in the image in force at router i, goes from there to router k: the row's link is up in the row's session, and k is at its far end
abbrev pub IsSentOn : Fabric → (ℕ → Bool) → ℕ → Prefix → ℕ → ℕ → Type 0
IsSentOn f by_control addr p i k = (entry : Entry) × (image_row f by_control i addr ≡ Some (p, entry)) × (entry_leads f.world i entry ≡ Some k)

-- a way of a packet along the images in force, at routers that match its address by one prefix, but perhaps the last
abbrev pub IsImageWalk : Fabric → (ℕ → Bool) → ℕ → Prefix → List ℕ → Type 0
IsImageWalk f by_control addr p walk = IsWayBy (IsSentOn f by_control addr p) walk

-- the router that a packet for the address goes to from router i, by the row that the image in force there gives for it
abbrev pub image_hop : Fabric → (ℕ → Bool) → ℕ → ℕ → Option ℕ
image_hop f by_control addr i = option_and_then (λ r. entry_leads f.world i r.1) (image_row f by_control i addr)

-- a way of a packet along the images of a mixture, whichever prefixes match its address
abbrev pub IsImageWay : Fabric → (ℕ → Bool) → ℕ → List ℕ → Type 0
IsImageWay f by_control addr way = IsWayBy (λ i k. image_hop f by_control addr i ≡ Some k) way

-- a packet goes from router i to router k along the image in force at i: the one that is there, or, where the writer is out, the one that it publishes meanwhile
abbrev pub GoesByImage : Fabric → ℕ → ℕ → ℕ → Type 0
GoesByImage f addr i k = (has_published : Bool) × (image_hop f (λ j. has_published) addr i ≡ Some k)

-- a way of a packet that moves while writers that are out publish
abbrev pub IsMovingImageWay : Fabric → ℕ → List ℕ → Type 0
IsMovingImageWay f addr way = IsWayBy (GoesByImage f addr) way

-- no packet meets a router twice, whichever prefixes match it, and whichever of the writers that are out publish while it moves
abbrev pub NeverMeetsTwice : Fabric → Type 0
NeverMeetsTwice f = (addr : ℕ) (way : List ℕ) → IsMovingImageWay f addr way → meets_twice way ≡ false

-- each router's row for each prefix is the best: it begins a least-cost walk to an attached router, the cost of its attachment included; where there is none, it says so, or the prefix is unheard
abbrev pub HasBestRows : Fabric → Type 0
HasBestRows f = (p : Prefix) (i : ℕ) → i < f.network.routers → HasBestRow f.world p i

-- where all is quiet, each router's row for each prefix is the best
abbrev pub LeadsAtLeastCost : Fabric → Type 0
LeadsAtLeastCost f = is_quiet f.world ≡ true → HasBestRows f

-- once no link, cost or attachment changes any more, the steps that are left to do have a bound, whatever their order; and where none is left, all is quiet and each row is best
abbrev pub ConvergesLeftAlone : Fabric → Type 0
ConvergesLeftAlone f = Converges f.network f.world
