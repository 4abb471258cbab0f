-- What a router does in a process of its own, beside what routers of a network do: it publishes some of its rows, and it
-- forgets a prefix of which it knows nothing any more.
use Rattle.std.specs.Prelude.{ℕ, Bool, false, not, ◌&&◌, ◌||◌, ◌==◌, is_none, List, filter, take, is_some}
use Rattle.std.specs.{List.list_all, Option.option_map_or, FinMap.find as row_of}
use Rattle.ipv4_prefix.specs.Prefix.{Prefix, prefix_cmp}
use Rattle.metric.specs.Distance.{infinity}
use Rattle.network_model.specs.{declared.machine.Neighbour.Neighbour, declared.route.Entry.TheVariants.Unreachable, Machine.Machine, Step.has_row, Step.offered_hops, Step.changed_hops, World.Router, declared.route.Entry.Entry, declared.route.NextHop.NextHop, Publication.with_rows}
use Rattle.route_table.specs.{Place.without, Parts.without_rows}

-- ---- a publication in parts

-- whether other next hops are offered for the prefix than are in force
abbrev pub has_other_hops : Router → Prefix → Bool
has_other_hops r p = is_some (row_of prefix_cmp p (changed_hops r))

-- the rows that are due: those that differ from the published ones, or beside which other next hops are offered. Where each
-- row has one next hop they are the changed ones
abbrev pub rows_due : Router → List (Prefix × Entry)
rows_due r = filter (λ x. has_other_hops r x.0 || not (has_row (r.table).published x)) (r.table).control

-- of these next hops those beside the rows
abbrev pub hops_beside : List (Prefix × Entry) → List (Prefix × List NextHop) → List (Prefix × List NextHop)
hops_beside rows hops = filter (λ x. is_some (row_of prefix_cmp x.0 rows)) hops

-- and those of other prefixes
abbrev pub hops_apart : List (Prefix × Entry) → List (Prefix × List NextHop) → List (Prefix × List NextHop)
hops_apart rows hops = filter (λ x. is_none (row_of prefix_cmp x.0 rows)) hops

-- a router that puts these rows in force, and with each the next hops that it offers beside it, and no others. What it holds
-- is no riper for that, and it has not published yet
abbrev pub router_publishing_rows : List (Prefix × Entry) → Router → Router
router_publishing_rows rows r = record r {
  table = record r.table { published = with_rows rows (r.table).published };
  hops = record r.hops { published = with_rows (hops_beside rows (offered_hops r)) (hops_apart rows (r.hops).published) };
}

-- a router that puts the first n of its rows that are due in force
abbrev pub router_publishing_some : ℕ → Router → Router
router_publishing_some n r = router_publishing_rows (take n (rows_due r)) r

-- ---- a prefix that is forgotten

-- nothing is reported by this neighbour: its link is down, or it reported infinity
abbrev pub is_unreported : Neighbour → Bool
is_unreported n = not n.up || (n.reported == infinity)

-- whether a machine knows no more than one that has heard nothing: it is passive, without attachment, successor and distance, and
-- no neighbour has reported a distance
abbrev pub knows_nothing : Machine → Bool
knows_nothing m = is_none m.computation && is_none m.attachment && is_none m.successor && (m.rd == infinity) && (m.fd == infinity) && list_all is_unreported m.ports

-- whether a router may forget the prefix: it has heard of it, its machine knows nothing, and its row, which is Unreachable, is in force
abbrev pub may_forget : Prefix → Router → Bool
may_forget p r = option_map_or knows_nothing (row_of prefix_cmp p r.machines) false && has_row (r.table).published (p, Unreachable)

-- a router that has forgotten the prefix: it has no machine, no row and no next hops for it
abbrev pub router_forgetting : Prefix → Router → Router
router_forgetting p r = record r {
  machines = without p r.machines;
  table = without_rows p r.table;
  hops = record r.hops { published = without p (r.hops).published };
}
