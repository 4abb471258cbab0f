-- What every router keeps, whatever it takes, publishes or releases.
use Rattle.std.proofs.Common.{refl, sym, ap, ◌∙◌, ◌≡◌, ℕ, ◌≤◌, Bool, true, false, cond, if◌then◌else◌, List, [], ◌∷◌, map, length, Some, None, unwrap_or, eq-eqb}
use Rattle.network_model.proofs.Common.{AllByRecursion, by_order, eq_by_cmp, Prefix, prefix_cmp, Machine, reaction, opening_machine, Router, machine_of, neighbours, opening_router, chosen_rows, entry_of, session_at, reactions, router_noticing, router_meeting, with_rows, map-put, sorted-map, sorted-put, find as row_of, put, is_sorted, filter, Ordering, Less, Equal, Greater}
use Rattle.network_model.specs.{declared.machine.Event.Event, declared.network.Port.Port, declared.route.Entry.TheVariants.Local, declared.route.Entry.TheVariants.Via, World.NextHops}
use Rattle.route_table.specs.Place.{without}
use Rattle.route_table.proofs.{PrefixPlaces.sorted-without, Forgotten.map-without}
use Rattle.router_core.specs.Parts.{HasPorts, IsRouter, ups, port_ups, ups_after}
use Rattle.router_core.specs.Alone.{router_forgetting}
use Rattle.router_core.proofs.{Ports.ups-reaction, Ports.ups-neighbours, Ports.length-ups, ControlRows.with_rows-rows_by, Meetings.reacted, Meetings.chosen, Opening.opening_machines, Opening.local_rows}

-- ---- each of a list

all-put : {X : Type 0} (P : Prefix × X → Type 0) (p : Prefix) (v : X) (rows : List (Prefix × X)) → ((q : Prefix) → P (q, v)) → AllByRecursion P rows → AllByRecursion P (put prefix_cmp p v rows)
all-put P p v [] new all = (new p, tt)
all-put P p v (r ∷ rs) new all = by_place (prefix_cmp p r.0) (all-put P p v rs new all.1)
  where
    by_place : (o : Ordering) → AllByRecursion P (put prefix_cmp p v rs) → AllByRecursion P (by_order o ((p, v) ∷ r ∷ rs) ((r.0, v) ∷ rs) (r ∷ put prefix_cmp p v rs))
    by_place Less rest = (new p, (all.0, all.1))
    by_place Equal rest = (new r.0, all.1)
    by_place Greater rest = (all.0, rest)

pub found_has : {X : Type 0} (P : Prefix × X → Type 0) (Q : X → Type 0) (p : Prefix) (rows : List (Prefix × X)) (d : X) → ((r : Prefix × X) → P r → Q r.1) → AllByRecursion P rows → Q d → Q (unwrap_or (row_of prefix_cmp p rows) d)
found_has P Q p [] d part all default = default
found_has P Q p (r ∷ rs) d part all default = by_key (eq_by_cmp prefix_cmp p r.0) (found_has P Q p rs d part all.1 default)
  where
    by_key : (b : Bool) → Q (unwrap_or (row_of prefix_cmp p rs) d) → Q (unwrap_or (cond b (Some r.1) (row_of prefix_cmp p rs)) d)
    by_key true rest = part r all.0
    by_key false rest = rest

-- ---- a notice

all-reacted : (e : Event) (before after : List Port) (ms : List (Prefix × Machine)) → port_ups after ≡ ups_after e (port_ups before)
    → AllByRecursion (HasPorts before) ms → AllByRecursion (HasPorts after) (reacted e ms)
all-reacted e before after [] moves all = tt
all-reacted e before after (m ∷ ms) moves all =
    (ups-reaction m.1 e ∙ ap (ups_after e) all.0 ∙ sym moves, all-reacted e before after ms moves all.1)

pub sorted-reacted : (e : Event) (ms : List (Prefix × Machine)) → is_sorted prefix_cmp (reacted e ms) ≡ is_sorted prefix_cmp ms
sorted-reacted e ms = sorted-map prefix_cmp (λ r. r.machine) (reactions e ms) ∙ sorted-map prefix_cmp (λ m. reaction m e) ms

chosen-reacted : (e : Event) (ports : List Port) (ms : List (Prefix × Machine)) → chosen e ports ms ≡ map (λ m. (m.0, entry_of ports (reaction m.1 e).machine)) ms
chosen-reacted e ports [] = refl
chosen-reacted e ports (m ∷ ms) = ap (λ rs. (m.0, entry_of ports (reaction m.1 e).machine) ∷ rs) (chosen-reacted e ports ms)

-- the rows set one after another are the rows that the machines choose now
pub control-noticing : (e : Event) (ports : List Port) (r : Router) → IsRouter r → with_rows (chosen e ports r.machines) (r.table).control ≡ chosen e ports r.machines
control-noticing e ports r kept =
    ap (with_rows (chosen e ports r.machines)) kept.rows
    ∙ ap (λ rs. with_rows rs (chosen_rows r.ports r.machines)) (chosen-reacted e ports r.machines)
    ∙ with_rows-rows_by (λ m. entry_of ports (reaction m.1 e).machine) (λ m. entry_of r.ports m.1) r.machines kept.sorted
    ∙ sym (chosen-reacted e ports r.machines)

pub kept-noticing : (e : Event) (ports : List Port) (r : Router) → IsRouter r → length ports ≤ 32 → port_ups ports ≡ ups_after e (port_ups r.ports) → IsRouter (router_noticing e ports r)
kept-noticing e ports r kept few moves = record {
  few = few;
  sorted = sorted-reacted e r.machines ∙ kept.sorted;
  same_ports = all-reacted e r.ports ports r.machines moves kept.same_ports;
  rows = refl;
  hops = kept.hops;
}

-- ---- an event of one prefix

machine_of-ports : (r : Router) (p : Prefix) → IsRouter r → ups (machine_of r p).ports ≡ port_ups r.ports
machine_of-ports r p kept = found_has (HasPorts r.ports) (λ m. ups m.ports ≡ port_ups r.ports) p r.machines (opening_machine None (neighbours r.ports)) (λ m h. h) kept.same_ports (ups-neighbours r.ports)

pub kept-meeting : (p : Prefix) (e : Event) (r : Router) → IsRouter r → ups_after e (port_ups r.ports) ≡ port_ups r.ports → IsRouter (router_meeting p e r)
kept-meeting p e r kept still = record {
  few = kept.few;
  sorted = sorted-put r.machines p _ kept.sorted;
  same_ports = all-put (HasPorts r.ports) p _ r.machines (λ q. ups-reaction (machine_of r p) e ∙ ap (ups_after e) (machine_of-ports r p kept) ∙ still) kept.same_ports;
  rows = refl;
  hops = kept.hops;
}

-- the rows that it makes: that of its prefix is set
pub control-meeting : (p : Prefix) (e : Event) (r : Router) → IsRouter r → put prefix_cmp p (entry_of r.ports (reaction (machine_of r p) e).machine) (r.table).control ≡ ((router_meeting p e r).table).control
control-meeting p e r kept =
    ap (put prefix_cmp p _) kept.rows
    ∙ sym (map-put prefix_cmp (entry_of r.ports) p (reaction (machine_of r p) e).machine r.machines)

-- ---- the opening

-- machines that open with an attachment have the router's ports
all-opening : (ports : List Port) (costs : List (Prefix × ℕ)) → AllByRecursion (HasPorts ports) (opening_machines ports costs)
all-opening ports [] = tt
all-opening ports (a ∷ rest) = (ups-neighbours ports, all-opening ports rest)

entries-opening : (ports : List Port) (costs : List (Prefix × ℕ)) → local_rows costs ≡ chosen_rows ports (opening_machines ports costs)
entries-opening ports [] = refl
entries-opening ports (a ∷ rest) = λ i. (a.0, local i) ∷ entries-opening ports rest i
  where
    local : Local ≡ entry_of ports (opening_machine (Some a.1) (neighbours ports))
    local = sym (ap (λ b. if b then Local else Via (length (neighbours ports)) (session_at ports (length (neighbours ports)))) (eq-eqb (length (neighbours ports)) (length (neighbours ports)) refl))

pub kept-opening : (ports : List Port) (costs : List (Prefix × ℕ)) → length ports ≤ 32 → is_sorted prefix_cmp costs ≡ true → IsRouter (opening_router ports costs)
kept-opening ports costs few sorted = record {
  few = few;
  sorted = sorted-map prefix_cmp (λ cost. opening_machine (Some cost) (neighbours ports)) costs ∙ sorted;
  same_ports = all-opening ports costs;
  rows = entries-opening ports costs;
  hops = refl;
}

-- ---- a prefix that is forgotten

all-filter : {A : Type 0} (P : A → Type 0) (test : A → Bool) (xs : List A) → AllByRecursion P xs → AllByRecursion P (filter test xs)
all-filter P test [] all = tt
all-filter P test (x ∷ xs) all = by_test (test x) (all-filter P test xs all.1)
  where
    by_test : (b : Bool) → AllByRecursion P (filter test xs) → AllByRecursion P (cond b (x ∷ filter test xs) (filter test xs))
    by_test true rest = (all.0, rest)
    by_test false rest = rest

pub kept-forgetting : (p : Prefix) (r : Router) → IsRouter r → IsRouter (router_forgetting p r)
kept-forgetting p r kept = record {
  few = kept.few;
  sorted = sorted-without r.machines p kept.sorted;
  same_ports = all-filter (HasPorts r.ports) _ r.machines kept.same_ports;
  rows = ap (without p) kept.rows ∙ sym (map-without (entry_of r.ports) p r.machines);
  hops = ap (λ (x : NextHops). record x { published = without p x.published }) kept.hops;
}

-- the machine that is found has as many ports as the router
pub length-found : (r : Router) (p : Prefix) (m : Machine) → IsRouter r → row_of prefix_cmp p r.machines ≡ Some m → length m.ports ≡ length r.ports
length-found r p m kept found = length-ups m.ports r.ports (ap (λ o. ups (unwrap_or o (opening_machine None (neighbours r.ports))).ports) (sym found) ∙ machine_of-ports r p kept)
