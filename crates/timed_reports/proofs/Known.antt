-- What goes on, goes on at a router of the network and for a prefix of it.
use Rattle.std.proofs.Common.{refl, sym, ap, subst, ◌∙◌, arith, ◌≡◌, ℕ, zero, suc, ◌<◌, Bool, true, false, cond, not, if◌then◌else◌, List, [], ◌∷◌, map, length, Option, Some, None, option_and_then, option_map, slice_get, unwrap_or}
use Rattle.no_packet_loops.proofs.Common.{false≢true, None_not_Some, slice_get_within, slice_get-map, length-map-range_with_len, prefix_cmp, prefix_eq, Prefix, Machine, Router, Attachments, World, Network, opening, opening_router_of, costs_of, prefixes_of, option_map_or, option_map_or-ind, changed_at, changed_link, with_attachment, without_attachment, with_cost, with_front_taken, with_message, with_notice_taken, with_delivered, with_noticed, with_released, front_at, notice_at, release_at, place_at, End, Link, Place, Lawful, next, Runs, list_any, range_with_len, by_order, where_key, opening_machine, neighbours, is_active, Ordering, Less, Equal, Greater, find as row_of, put, Step, SetCost, Deliver, Release, Attach, Detach}
use Rattle.no_packet_loops.proofs.{Machines.prefix_same, WorldLaws.Runs-shape}
use Rattle.coming_to_rest.proofs.Known.{Each, IsOf, Known, RouterKnown, each_at, known_run, known_next, opening_known}
use Rattle.reachability.specs.Ways.{IsCutOff}
use Rattle.timed_reports.specs.Going.{IsComputing}

-- the costs of a router's attachments
abbrev costs : Attachments → List (Prefix × ℕ)
costs a = a.costs

-- the keys of these rows are among the prefixes
abbrev AreOf : {X : Type 0} → List Prefix → List (Prefix × X) → Type 0
AreOf {X} ps rows = Each (λ (r : Prefix × X). IsOf ps r.0) rows

-- a row that is found is of one of them
found_of : {X : Type 0} (ps : List Prefix) (p : Prefix) (rows : List (Prefix × X)) (x : X) → AreOf ps rows → row_of prefix_cmp p rows ≡ Some x → IsOf ps p
found_of ps p [] x each found = absurd (None_not_Some found)
found_of {X} ps p (r ∷ rows) x each found = by_key (λ later. found_of ps p rows x each.1 later) (prefix_eq p r.0) refl found
  where
    by_key : (row_of prefix_cmp p rows ≡ Some x → IsOf ps p) → (b : Bool) → prefix_eq p r.0 ≡ b → cond b (Some r.1) (row_of prefix_cmp p rows) ≡ Some x → IsOf ps p
    by_key rest true same here = subst (IsOf ps) (sym (prefix_same p r.0 same)) each.0
    by_key rest false apart later = rest later

put_of : {X : Type 0} (ps : List Prefix) (p : Prefix) (x : X) (rows : List (Prefix × X)) → IsOf ps p → AreOf ps rows → AreOf ps (put prefix_cmp p x rows)
put_of ps p x [] here each = (here, tt)
put_of {X} ps p x (r ∷ rows) here each = go (prefix_cmp p r.0) (put_of ps p x rows here each.1)
  where
    go : (o : Ordering) → AreOf ps (put prefix_cmp p x rows) → AreOf ps (by_order o ((p, x) ∷ r ∷ rows) ((r.0, x) ∷ rows) (r ∷ put prefix_cmp p x rows))
    go Less rest = (here, each)
    go Equal rest = each
    go Greater rest = (each.0, rest)

kept_of : {X : Type 0} (ps : List Prefix) (test : Prefix → Bool) (rows : List (Prefix × X)) → AreOf ps rows → AreOf ps (where_key prefix_cmp test rows)
kept_of ps test [] each = each
kept_of {X} ps test (r ∷ rows) each = go (test r.0) (kept_of ps test rows each.1)
  where
    go : (b : Bool) → AreOf ps (where_key prefix_cmp test rows) → AreOf ps (if b then r ∷ where_key prefix_cmp test rows else where_key prefix_cmp test rows)
    go true rest = (each.0, rest)
    go false rest = rest

-- ---- attachments

-- all attachments of these costs are to prefixes of these
abbrev AreKnown : List Prefix → List (List (Prefix × ℕ)) → Type 0
AreKnown ps all = Each (AreOf ps) all

changed_known : (ps : List Prefix) (i : ℕ) (f : Attachments → Attachments) (xs : List Attachments) → ((a : Attachments) → AreOf ps a.costs → AreOf ps (f a).costs) → AreKnown ps (map costs xs) → AreKnown ps (map costs (changed_at i f xs))
changed_known ps i f [] same each = each
changed_known ps zero f (a ∷ xs) same each = (same a each.0, each.1)
changed_known ps (suc i) f (a ∷ xs) same each = (each.0, changed_known ps i f xs same each.1)

-- a change of the link at a port leaves attachments
link_known : (ps : List Prefix) (w : World) (i q : ℕ) (f : End → Link → Link) → AreKnown ps (map costs w.attachments) → AreKnown ps (map costs (changed_link i q f w).attachments)
link_known ps w i q f each = option_map_or-ind (λ (v : World). AreKnown ps (map costs v.attachments)) (λ (x : Place). record w { links = changed_at x.link (f x.end) w.links }) (place_at w i q) w each (λ x is. each)

attached_next : (ps : List Prefix) (w : World) (s : Step) → Known ps w → Lawful w s → AreKnown ps (map costs w.attachments) → AreKnown ps (map costs (next w s).attachments)
attached_next ps w (SetCost i q cost) K L each = link_known ps w i q (with_cost cost) each
attached_next ps w (Deliver i q) K L each = option_map_or-ind (λ (v : World). AreKnown ps (map costs v.attachments)) (with_delivered i q w) (front_at w i q) (option_map_or (with_noticed i w) (notice_at w i q) w)
    (option_map_or-ind (λ (v : World). AreKnown ps (map costs v.attachments)) (with_noticed i w) (notice_at w i q) w each (λ n is. changed_known ps i with_notice_taken w.attachments (λ a of. of) each))
    (λ item is. link_known ps w i q with_front_taken each)
attached_next ps w (Release i) K L each = option_map_or-ind (λ (v : World). AreKnown ps (map costs v.attachments)) (with_released i w) (release_at w i) w each (λ h is. link_known ps w i h.port (with_message h) each)
attached_next ps w (Attach i p cost) K L each = changed_known ps i (with_attachment p cost) w.attachments (λ a of. put_of ps p cost a.costs (subst (λ xs. list_any (prefix_eq p) xs ≡ true) K.prefixes L.2) of) each
attached_next ps w (Detach i p) K L each = changed_known ps i (without_attachment p) w.attachments (λ a of. kept_of ps (λ x. not (prefix_eq x p)) a.costs of) each
attached_next ps w _ K L each = each

attached_run : (ps : List Prefix) (w : World) (ss : List Step) (v : World) → Known ps w → Runs w ss v → AreKnown ps (map costs w.attachments) → AreKnown ps (map costs v.attachments)
attached_run ps w [] v K same each = subst (λ (u : World). AreKnown ps (map costs u.attachments)) same each
attached_run ps w (s ∷ ss) v K runs each = attached_run ps (next w s) ss v (known_next ps w s K runs.0) runs.1 (attached_next ps w s K runs.0 each)

module _ (n : Network) where
  abbrev all : List Prefix
  all = prefixes_of n.attachments

  -- at the opening a router has a machine for each prefix to which it is attached
  opening_each : (is : List ℕ) → Each (λ (r : Router). AreOf all r.machines) (map (opening_router_of n) is) → AreKnown all (map costs (map (λ i. record { costs = costs_of n i; notices = [] }) is))
  opening_each [] each = tt
  opening_each (i ∷ is) each = (by_machine (costs_of n i) each.0, opening_each is each.1)
    where
      by_machine : (rows : List (Prefix × ℕ)) → Each (λ (m : Prefix × Machine). IsOf all m.0) (map (λ a. (a.0, opening_machine (Some a.1) (neighbours (opening_router_of n i).ports))) rows) → AreOf all rows
      by_machine [] known = tt
      by_machine (r ∷ rows) known = (known.0, by_machine rows known.1)

  machines_of : (rs : List Router) → Each (RouterKnown all) rs → Each (λ (r : Router). AreOf all r.machines) rs
  machines_of [] each = tt
  machines_of (r ∷ rs) each = ((each.0).machines, machines_of rs each.1)

  opening_attached : AreKnown all (map costs (opening n).attachments)
  opening_attached = opening_each (range_with_len 0 n.routers) (machines_of (opening n).routers (opening_known n).routers)

  module _ (ss : List Step) (w : World) (runs : Runs (opening n) ss w) where
    within : (i : ℕ) (r : Router) → slice_get w.routers i ≡ Some r → i < n.routers
    within i r at =
        let many : length w.routers ≡ n.routers = (Runs-shape (opening n) ss w runs).routers ∙ length-map-range_with_len (opening_router_of n) 0 n.routers in
        let below = slice_get_within w.routers i r at in
        omega (arith, many, below)

    pub computing_known : (p : Prefix) (i : ℕ) → IsComputing p i w → (i < n.routers) × IsOf all p
    computing_known p i C = (within i C.router C.at, by_row (row_of prefix_cmp p (C.router).machines) refl C.active)
      where
        K : Known all w
        K = known_run all (opening n) ss w (opening_known n) runs

        by_row : (o : Option Machine) → row_of prefix_cmp p (C.router).machines ≡ o → is_active (unwrap_or o (opening_machine None (neighbours (C.router).ports))) ≡ true → IsOf all p
        by_row None none active = absurd (false≢true active)
        by_row (Some m) found active = found_of all p (C.router).machines m (each_at (RouterKnown all) w.routers i C.router C.at K.routers).machines found

    pub cut_off_known : (p : Prefix) (i : ℕ) → IsCutOff p i w → (i < n.routers) × IsOf all p
    cut_off_known p i C = (within i C.router C.at, by_home (slice_get w.attachments C.home) refl (C.reaches).attached)
      where
        each : AreKnown all (map costs w.attachments)
        each = attached_run all (opening n) ss w (opening_known n) runs opening_attached

        by_home : (o : Option Attachments) → slice_get w.attachments C.home ≡ o → option_and_then (λ (a : Attachments). row_of prefix_cmp p a.costs) o ≡ Some (C.reaches).attachment → IsOf all p
        by_home None none found = absurd (None_not_Some found)
        by_home (Some a) at found = found_of all p a.costs (C.reaches).attachment (each_at (AreOf all) (map costs w.attachments) C.home a.costs (slice_get-map costs w.attachments C.home ∙ ap (option_map costs) at) each) found
