-- What a network must be before it is opened, and why one cannot be.
use Rattle.std.specs.Prelude.{◌≡◌, ◌≤◌, ℕ, Bool, not, ◌&&◌, ◌||◌, ◌==◌, nat_lt, nat_le, if◌then◌else◌, List, [], ◌∷◌, ◌++◌, Option, Some, None, length, count_by, All}
use Rattle.std.specs.List.{list_any}
use Rattle.metric.specs.Distance.{IsCost}
use Rattle.ipv4_prefix.specs.Prefix.{Prefix, IsPrefix, prefix_eq}
use Rattle.network_model.specs.{declared.network.Limits.Limits, declared.network.LinkSpec.LinkSpec, declared.network.NetworkFault.NetworkFault, World.Network, World.prefixes_of}
use Rattle.network_model.specs.declared.network.NetworkFault.TheVariants.{BadRouters, BadLink, TooManyLinks, BadOwner}

-- ---- limits

-- the most routers, links, links of one router, prefixes, and attachments of the widest networks. Links have numbers of 16
-- bits, a set of ports has 32 places, and along 65,535 links and an attachment a cost is below infinity
abbrev pub most_routers : ℕ
most_routers = 65536

-- the most links of a network
abbrev pub most_links : ℕ
most_links = 65536

-- the most links of one router
abbrev pub most_ports : ℕ
most_ports = 32

-- the most prefixes of a network
abbrev pub most_prefixes : ℕ
most_prefixes = 4294967295

-- the most attachments of a network
abbrev pub most_attachments : ℕ
most_attachments = 4294967295

-- the widest limits: the laws hold of every network within them
abbrev pub widest_limits : Limits
widest_limits = record { routers = most_routers; links = most_links; ports = most_ports; prefixes = most_prefixes; attachments = most_attachments }

-- the limits of the program
abbrev pub program_limits : Limits
program_limits = record { routers = 256; links = 1024; ports = 32; prefixes = 4096; attachments = 16384 }

-- none of the limits is above that of the others
pub record AreWithin (limits others : Limits) : Type 0 where
  pub routers : limits.routers ≤ others.routers
  pub links : limits.links ≤ others.links
  pub ports : limits.ports ≤ others.ports
  pub prefixes : limits.prefixes ≤ others.prefixes
  pub attachments : limits.attachments ≤ others.attachments

-- the greatest number of workers
abbrev pub most_workers : ℕ
most_workers = 16

-- of tests with causes, in order, the cause of the first that passes
abbrev pub first_cause : {X : Type 0} → List (Bool × X) → Option X
first_cause [] = None
first_cause (c ∷ cs) = if c.0 then Some c.1 else first_cause cs

-- whether the link has router i at an end
abbrev pub touches : ℕ → LinkSpec → Bool
touches i s = (s.a == i) || (s.b == i)

-- whether the link joins the two routers, in either order
abbrev pub joins : ℕ → ℕ → LinkSpec → Bool
joins i j s = (s.a == i && s.b == j) || (s.a == j && s.b == i)

-- how many of the links touch a router
abbrev pub degree : ℕ → List LinkSpec → ℕ
degree i links = count_by (touches i) links

-- whether both links join the same two routers
abbrev pub has_same_ends : LinkSpec → LinkSpec → Bool
has_same_ends s t = touches t.a s && touches t.b s

-- a link that cannot be: an unknown end, both ends one router, or a second link of the two
abbrev pub is_bad_link : ℕ → List LinkSpec → LinkSpec → Bool
is_bad_link routers before s = not (nat_lt s.a routers && nat_lt s.b routers) || (s.a == s.b) || list_any (has_same_ends s) before

-- a link too many: past the limit of links, or of links of one router
abbrev pub is_link_too_many : Limits → List LinkSpec → LinkSpec → Bool
is_link_too_many limits before s = not (nat_lt (length before) limits.links && nat_lt (degree s.a before) limits.ports && nat_lt (degree s.b before) limits.ports)

-- whether both attachments are of one prefix
abbrev pub has_same_prefix : Prefix × ℕ × ℕ → Prefix × ℕ × ℕ → Bool
has_same_prefix a b = prefix_eq b.0 a.0

-- an attachment that cannot be: an unknown router, one past the limit of attachments, a prefix given before at the same
-- router, or a prefix that was not given before, past the limit of prefixes
abbrev pub is_bad_attachment : Limits → ℕ → List (Prefix × ℕ × ℕ) → Prefix × ℕ × ℕ → Bool
is_bad_attachment limits routers before a =
    not (nat_lt a.1 routers && nat_lt (length before) limits.attachments)
    || list_any (λ b. has_same_prefix a b && (b.1 == a.1)) before
    || not (list_any (has_same_prefix a) before || nat_lt (length (prefixes_of before)) limits.prefixes)

-- the faults of these links, which come after others
abbrev pub link_causes : Limits → ℕ → List LinkSpec → List LinkSpec → List (Bool × NetworkFault)
link_causes limits routers before [] = []
link_causes limits routers before (s ∷ ss) =
    (is_bad_link routers before s, BadLink (length before))
    ∷ (is_link_too_many limits before s, TooManyLinks (length before))
    ∷ link_causes limits routers (before ++ s ∷ []) ss

-- the faults of these attachments, which come after others
abbrev pub attachment_causes : Limits → ℕ → List (Prefix × ℕ × ℕ) → List (Prefix × ℕ × ℕ) → List (Bool × NetworkFault)
attachment_causes limits routers before [] = []
attachment_causes limits routers before (a ∷ rest) =
    (is_bad_attachment limits routers before a, BadOwner (length before))
    ∷ attachment_causes limits routers (before ++ a ∷ []) rest

-- the first fault of a network within these limits, in the order of the tests: the routers, each link, each attachment; none
-- where it may be opened
abbrev pub network_fault : Limits → Network → Option NetworkFault
network_fault limits n = first_cause (
    (not (nat_lt 0 n.routers && nat_le n.routers limits.routers), BadRouters)
    ∷ link_causes limits n.routers [] n.links
    ++ attachment_causes limits n.routers [] n.attachments)

-- the costs of a link that can be: each is the cost of a link
pub record HasCosts (s : LinkSpec) : Type 0 where
  pub from_a : IsCost s.from_a
  pub from_b : IsCost s.from_b

-- a network that can be opened: no fault stands in it within the widest limits, its costs are costs of links, and its prefixes can be written
pub record IsNetwork (n : Network) : Type 0 where
  pub no_fault : network_fault widest_limits n ≡ None
  pub costs : All HasCosts n.links
  pub prefixes : All (λ a. IsPrefix a.0) n.attachments
  pub attachment_costs : All (λ a. IsCost a.2) n.attachments
