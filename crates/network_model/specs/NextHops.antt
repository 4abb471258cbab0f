-- The next hops that a router may use beside its rows: the neighbours that its machines offer, the nearest first.
-- (The test is the source node condition of Garcia-Luna-Aceves, 1993, for each neighbour and not for the nearest alone.)
-- What the paper leaves open: which of them a router uses where it may not use all. The nearest come first, and of equal
-- ones the successor, so that the row's own next hop is the first one as long as the machine is passive.
use Rattle.std.specs.Prelude.{ℕ, suc, Bool, true, false, not, ◌&&◌, ◌==◌, nat_lt, if◌then◌else◌, List, [], ◌∷◌, ◌++◌, map, filter, take, Option, unwrap_or}
use Rattle.std.specs.FinMap.{find as row_of}
use Rattle.metric.specs.Distance.{infinity}
use Rattle.ipv4_prefix.specs.Prefix.{Prefix, prefix_cmp}
use Rattle.network_model.specs.{declared.machine.Neighbour.Neighbour, declared.route.NextHop.NextHop, declared.network.Offer.Offer, declared.network.Offer.TheVariants.One, declared.network.Offer.TheVariants.Equal, declared.network.Offer.TheVariants.Feasible}
use Rattle.network_model.specs.Machine.{Machine, distance, least, ways, port_count, is_port}

-- whether packets may go to this neighbour: it is up, reported less than the feasible distance, and is within reach
abbrev pub may_forward : ℕ → Neighbour → Bool
may_forward fd n = n.up && nat_lt n.reported fd && nat_lt (distance n) infinity

-- whether a machine offers this neighbour: each to which packets may go, or each of these that is at the least distance
abbrev pub is_offered : Offer → Machine → Neighbour → Bool
is_offered One m n = false
is_offered (Equal most) m n = may_forward m.fd n && (distance n == least (ways m))
is_offered (Feasible most) m n = may_forward m.fd n

-- how many it offers at most
abbrev pub most_offered : Offer → ℕ
most_offered One = 0
most_offered (Equal most) = most
most_offered (Feasible most) = most

-- the neighbours that pass, each by its distance and its port, by ascending port from q on
abbrev pub passing_from : (Neighbour → Bool) → ℕ → List Neighbour → List (ℕ × ℕ)
passing_from test q [] = []
passing_from test q (n ∷ ns) = if test n then (distance n, q) ∷ passing_from test (suc q) ns else passing_from test (suc q) ns

-- one more of these, before the first that is not nearer
abbrev pub with_nearer : ℕ × ℕ → List (ℕ × ℕ) → List (ℕ × ℕ)
with_nearer x [] = x ∷ []
with_nearer x (y ∷ ys) = if nat_lt y.0 x.0 then y ∷ with_nearer x ys else x ∷ y ∷ ys

-- the nearest first, and of equal distances those that came first
abbrev pub nearest_first : List (ℕ × ℕ) → List (ℕ × ℕ)
nearest_first [] = []
nearest_first (x ∷ xs) = with_nearer x (nearest_first xs)

-- what is at this port, if anything is, before the others
abbrev pub own_first : Option ℕ → List (ℕ × ℕ) → List (ℕ × ℕ)
own_first port xs = filter (λ x. is_port x.1 port) xs ++ filter (λ x. not (is_port x.1 port)) xs

-- whether packets end at the router: the successor is its attachment
abbrev pub is_local : Machine → Bool
is_local m = is_port (port_count m) m.successor

-- the ports that a machine offers: the nearest first, of equal ones the successor, and then the lower port. None where
-- packets end at the router
abbrev pub offered_ports : Offer → Machine → List ℕ
offered_ports o m = if is_local m then [] else map (λ x. x.1) (take (most_offered o) (nearest_first (own_first m.successor (passing_from (is_offered o m) 0 m.ports))))

-- the next hops that a machine offers, each in the session of its port
abbrev pub hops_of : Offer → (ℕ → ℕ) → Machine → List NextHop
hops_of o session m = map (λ q. record { port = q; session = session q }) (offered_ports o m)

-- those of these machines, by prefix; none are listed where each row has one next hop
abbrev pub hops_by_prefix : Offer → (ℕ → ℕ) → List (Prefix × Machine) → List (Prefix × List NextHop)
hops_by_prefix One session machines = []
hops_by_prefix (Equal most) session machines = map (λ m. (m.0, hops_of (Equal most) session m.1)) machines
hops_by_prefix (Feasible most) session machines = map (λ m. (m.0, hops_of (Feasible most) session m.1)) machines

-- the next hops of a prefix
abbrev pub hops_at : Prefix → List (Prefix × List NextHop) → List NextHop
hops_at p rows = unwrap_or (row_of prefix_cmp p rows) []

-- whether two next hops are one
abbrev pub hop_eq : NextHop → NextHop → Bool
hop_eq a b = (a.port == b.port) && (a.session == b.session)

-- whether two lists of next hops are one
abbrev pub hops_eq : List NextHop → List NextHop → Bool
hops_eq [] [] = true
hops_eq (a ∷ xs) (b ∷ ys) = hop_eq a b && hops_eq xs ys
hops_eq _ _ = false
