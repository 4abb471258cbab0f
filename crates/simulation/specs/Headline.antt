-- What holds of every simulation: no packet circles along the images in force, at quiet rows lead along least-cost walks, and left alone it comes to rest there.
use Rattle.std.specs.Prelude.{◌≡◌, ℕ, ◌<◌, true, false, List, Option, Some, slice_get, option_and_then}
use Rattle.ipv4_prefix.specs.Prefix.{Prefix}
use Rattle.network_model.specs.{Publication.image_answer, Forwarding.entry_leads, Forwarding.is_quiet}
use Rattle.loop_freedom.specs.Network.{meets_twice}
use Rattle.all_packets.specs.Packets.{IsWayBy}
use Rattle.quiet_routes.specs.Routes.{HasBestRow}
use Rattle.convergence.specs.Converges.{Converges}
use Rattle.simulation.specs.Simulation.{Simulation}

-- the router that a packet for the address goes to from router i, by the row that the image in force there gives for it: its link is up in the row's session
abbrev pub hop_by_image : Simulation → ℕ → ℕ → Option ℕ
hop_by_image s addr i = option_and_then (λ r. entry_leads s.world i r.1) (option_and_then (λ image. image_answer image addr) (slice_get s.images i))

-- a way of a packet along the images in force, whichever prefixes match its address
abbrev pub IsWayByImages : Simulation → ℕ → List ℕ → Type 0
IsWayByImages s addr way = IsWayBy (λ i k. hop_by_image s addr i ≡ Some k) way

-- no packet meets a router twice, whichever prefixes match it on its way
abbrev pub NeverMeetsTwice : Simulation → Type 0
NeverMeetsTwice s = (addr : ℕ) (way : List ℕ) → IsWayByImages s addr way → meets_twice way ≡ false

-- each router's row for each prefix is the best: it begins a least-cost walk to an attached router, the cost of its attachment included; where there is none, it says so, or the prefix is unheard
abbrev pub HasBestRows : Simulation → Type 0
HasBestRows s = (p : Prefix) (i : ℕ) → i < s.network.routers → HasBestRow s.world p i

-- where all is quiet, each router's row for each prefix is the best
abbrev pub LeadsAtLeastCost : Simulation → Type 0
LeadsAtLeastCost s = is_quiet s.world ≡ true → HasBestRows s

-- once no link, cost or attachment changes any more, the steps that are left to do have a bound, whatever their order; and where none is left, all is quiet and each row is best
abbrev pub ConvergesLeftAlone : Simulation → Type 0
ConvergesLeftAlone s = Converges s.network s.world
