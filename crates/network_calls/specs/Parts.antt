-- The parts of a network as C has them, and the first of their faults.
use Rattle.std.specs.Prelude.{◌≡◌, ◌⊎◌, ℕ, ◌+◌, if◌then◌else◌, List, [], ◌∷◌, map, Option, None, Some, option_map}
use Rattle.std.specs.Option.{option_map_or}
use Rattle.ipv4_prefix.specs.Prefix.{Prefix}
use Rattle.network_model.specs.{declared.network.Limits.Limits, declared.network.LinkSpec.LinkSpec, declared.network.NetworkFault.NetworkFault, World.Network, Network.network_fault, Network.widest_limits, Network.AreWithin, declared.network.Offer.TheVariants.One}
use Rattle.network_model.specs.declared.network.NetworkFault.TheVariants.{BadRouters, BadLink, TooManyLinks, BadOwner}
use Rattle.c_interface.specs.{Faults.first_of, Rows.as_prefix, Rows.prefix_fault, declared.fault.CallFault.CallFault, declared.fault.CallFault.TheVariants.NoMemory}
use Rattle.single_router.specs.Inputs.{cost_fault}
use Rattle.network_calls.specs.{Failures.failure_number, declared.failure.Failure.Failure, declared.failure.Failure.TheVariants.Given, declared.failure.Failure.TheVariants.BadLimits, declared.failure.Failure.TheVariants.Network as InNetwork, declared.parts.LimitsParts.LimitsParts, declared.parts.LinkParts.LinkParts, declared.parts.AttachmentParts.AttachmentParts, declared.parts.FaultPlace.FaultPlace}

-- ---- limits

-- limits of the numbers that C gives
abbrev pub limits_of : LimitsParts → Limits
limits_of l = record { routers = l.routers; links = l.links; ports = l.ports; prefixes = l.prefixes; attachments = l.attachments }

-- ---- links

-- the fault of a link's numbers: the cost from A, and then that from B
abbrev pub link_fault : LinkParts → Option CallFault
link_fault l = first_of (cost_fault l.from_a) (cost_fault l.from_b)

-- a link of these numbers
abbrev pub link_spec : LinkParts → LinkSpec
link_spec l = record { a = l.a; b = l.b; from_a = l.from_a; from_b = l.from_b }

-- ---- attachments

-- the fault of an attachment's numbers: its prefix, and then its cost
abbrev pub attachment_parts_fault : AttachmentParts → Option CallFault
attachment_parts_fault a = first_of (prefix_fault a.addr a.len) (cost_fault a.cost)

-- an attachment of these numbers
abbrev pub attachment_of_parts : AttachmentParts → Prefix × ℕ × ℕ
attachment_of_parts a = (as_prefix a.addr a.len, a.router, a.cost)

-- ---- the whole

-- the network of these parts
abbrev pub parts_network : ℕ → List LinkParts → List AttachmentParts → Network
parts_network routers links attachments = record { routers = routers; links = map link_spec links; attachments = map attachment_of_parts attachments; offer = One }

-- the first of these that has a fault, by its place, which begins here
abbrev pub first_place : {X : Type 0} → (X → Option CallFault) → ℕ → List X → Option (CallFault × ℕ)
first_place fault k [] = None
first_place fault k (x ∷ xs) = option_map_or (λ f. Some (f, k)) (fault x) (first_place fault (k + 1) xs)

-- where the fault of a network stands: in no list, or in the one of links, 1, or of attachments, 2
abbrev pub place_of : NetworkFault → FaultPlace
place_of BadRouters = record { position = 0; list = 0 }
place_of (BadLink l) = record { position = l; list = 1 }
place_of (TooManyLinks l) = record { position = l; list = 1 }
place_of (BadOwner p) = record { position = p; list = 2 }

-- a fault of a list, with its place
abbrev pub failure_in_list : ℕ → CallFault × ℕ → Failure × FaultPlace
failure_in_list list f = (Given f.0, record { position = f.1; list = list })

-- the first fault of the lists of which a network is made, with its place: a link's costs, or else an attachment's prefix or cost
abbrev pub list_fault : List LinkParts → List AttachmentParts → Option (Failure × FaultPlace)
list_fault links attachments = option_map_or (λ f. Some (failure_in_list 1 f)) (first_place link_fault 0 links) (option_map (failure_in_list 2) (first_place attachment_parts_fault 0 attachments))

-- the first fault within these limits of the network that these make, with its place
abbrev pub network_failure : Limits → ℕ → List LinkParts → List AttachmentParts → Option (Failure × FaultPlace)
network_failure limits routers links attachments = option_map (λ f. (InNetwork f, place_of f)) (network_fault limits (parts_network routers links attachments))

-- why no network is opened, by the faults of the lists and of the network: that of the lists comes first; then memory may be refused, which stands in no list, or else it is the network's
abbrev pub IsOpeningFault : Option (Failure × FaultPlace) → Option (Failure × FaultPlace) → Failure × FaultPlace → Type 0
IsOpeningFault None network f = (f ≡ (Given NoMemory, record { position = 0; list = 0 })) ⊎ (network ≡ Some f)
IsOpeningFault (Some e) network f = f ≡ e

-- why no network is opened within these limits: first that one of them is above the widest, which stands in no list
abbrev pub IsFaultWithin : Limits → ℕ → List LinkParts → List AttachmentParts → Failure × FaultPlace → Type 0
IsFaultWithin limits routers links attachments f =
    ((AreWithin limits widest_limits → ⊥) × (f ≡ (BadLimits, record { position = 0; list = 0 })))
    ⊎ (AreWithin limits widest_limits × IsOpeningFault (list_fault links attachments) (network_failure limits routers links attachments) f)

-- what a call answers and writes that opens no network, by what may be the cause
pub record IsNotOpened (Causes : Failure × FaultPlace → Type 0) (status : ℕ) (place : FaultPlace) : Type 0 where
  pub failure : Failure
  pub cause : Causes (failure, place)
  pub number : status ≡ failure_number failure
