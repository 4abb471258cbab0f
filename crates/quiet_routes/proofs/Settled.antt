-- A world with nothing left to do is quiet: nothing is on the way, so every machine is passive.
use Rattle.std.proofs.Common.{refl, sym, ap, ◌∙◌, arith, ◌≡◌, ℕ, ◌≤◌, Bool, true, false, not, ◌&&◌, nat_lt, if◌then◌else◌, List, [], length, Some, None, is_none, slice_get, le-ltb}
use Rattle.no_packet_loops.proofs.Common.{list_all, and_from, and_parts, false≢true, Prefix, opening_machine, Router, World, Network, machine_of, opening, changed_rows, is_due, is_empty, is_quiet_router, is_quiet_link, has_no_notice, is_quiet, is_settled, is_active, IsNetwork, Runs, history, view, lay, same_truth, Step, changed_hops}
use Rattle.no_packet_loops.specs.Packets.{HoldsInEveryWorld}
use Rattle.no_packet_loops.proofs.{Wiring.wired, Places.topology, Opened.first_fd, Opened.opening_view, Runs.Reached, Runs.reached, View.on_router-there}
use Rattle.least_cost.proofs.Settled.{passive_once_settled}
use Rattle.quiet_routes.specs.Settled.{SettledIsQuiet}
use Rattle.no_packet_loops.proofs.Quiet.{empty_is, IsDone, done_of, quiet_of}
use Rattle.quiet_routes.proofs.Silent.{all_at, all_hold, inbox_none, ripe_none, unripe_none}

-- ---- tests

-- ---- one router

-- the router has nothing to publish or release
abbrev pub is_idle : Router → Bool
is_idle r = not (is_due r) && not (nat_lt 0 (r.gate).ripe)

-- a router that is idle is done
done_from_idle : (r : Router) → is_idle r ≡ true → IsDone r
done_from_idle r h = by_tests (is_due r) refl (nat_lt 0 (r.gate).ripe) refl h
  where
    by_tests : (a : Bool) → is_due r ≡ a → (b : Bool) → nat_lt 0 (r.gate).ripe ≡ b → (not a && not b) ≡ true → IsDone r
    by_tests false due false ripe e = done_of r due (ap (λ b. if b then slice_get (r.gate).held 0 else None) ripe)
    by_tests _ due _ ripe e = absurd (false≢true e)

-- a router that is done is idle
idle_from_done : (r : Router) → (r.gate).ripe ≤ length (r.gate).held → IsDone r → is_idle r ≡ true
idle_from_done r within d =
    let hops = ap length (empty_is (changed_hops r) d.offers) in
    let rows = ap length (empty_is (changed_rows r.table) d.published) in
    let h : nat_lt 0 (length (changed_hops r)) ≡ false = le-ltb 0 (length (changed_hops r)) (omega (arith, hops)) in
    let held = ap length d.holds_none in
    let a : nat_lt 0 (length (changed_rows r.table)) ≡ false = le-ltb 0 (length (changed_rows r.table)) (omega (arith, rows)) in
    let b : nat_lt (r.gate).ripe (length (r.gate).held) ≡ false = le-ltb (r.gate).ripe (length (r.gate).held) (omega (arith, held)) in
    let c : nat_lt 0 (r.gate).ripe ≡ false = le-ltb 0 (r.gate).ripe (omega (arith, held, within)) in
    rw (h, a, b, c) refl

-- ---- a world

module _ (n : Network) (V : IsNetwork n) (ss : List Step) (w : World) (r : Runs (opening n) ss w) where
  -- each prefix sees a run
  seen : (p : Prefix) → Reached n (wired n V) p w (history n ss).published
  seen p = reached n (wired n V) p ss w r

  module _ (settled : is_settled w ≡ true) where
    parts : ((list_all is_quiet_link w.links && list_all has_no_notice w.attachments) ≡ true) × (list_all is_idle w.routers ≡ true)
    parts = and_parts (list_all is_quiet_link w.links && list_all has_no_notice w.attachments) (list_all is_idle w.routers) settled

    -- every link is quiet, and no notice waits
    links : (list_all is_quiet_link w.links ≡ true) × (list_all has_no_notice w.attachments ≡ true)
    links = and_parts (list_all is_quiet_link w.links) (list_all has_no_notice w.attachments) parts.0

    done : (i : ℕ) (x : Router) → slice_get w.routers i ≡ Some x → IsDone x
    done i x at = done_from_idle x (all_at is_idle w.routers parts.1 i x at)

    passive : (p : Prefix) (i : ℕ) (x : Router) → slice_get w.routers i ≡ Some x → is_active (machine_of x p) ≡ false
    passive p i x at =
        sym (ap is_active (on_router-there (λ (y : Router). machine_of y p) (opening_machine None []) w.routers i x at))
        ∙ passive_once_settled (topology n (wired n V)) (view n p (opening n) (first_fd n (wired n V) p)) (view n p w (seen p).published_fd) (opening_view n (wired n V) p) (seen p).run (record {
          inbox_empty = λ e v. inbox_none p w (all_at is_quiet_link w.links links.0) (lay n e);
          ripe_empty = λ e v. ripe_none p w (λ j y there. (done j y there).holds_none) e.router e.port;
          unripe_empty = λ e v. unripe_none p w (λ j y there. (done j y there).holds_none) e.router e.port;
        }) i

    quiet_router : (i : ℕ) (x : Router) → slice_get w.routers i ≡ Some x → is_quiet_router x ≡ true
    quiet_router i x at = quiet_of x ((seen (record { addr = 0; len = 0 })).kept.routers_kept i x at).sorted (λ p. passive p i x at) (done i x at)

    -- the world is quiet
    quiet_then : is_quiet w ≡ true
    quiet_then = and_from _ (list_all has_no_notice w.attachments) (and_from (list_all is_quiet_router w.routers) (list_all is_quiet_link w.links) (all_hold is_quiet_router w.routers quiet_router) links.0) links.1

  module _ (quiet : is_quiet w ≡ true) where
    both : ((list_all is_quiet_router w.routers && list_all is_quiet_link w.links) ≡ true) × (list_all has_no_notice w.attachments ≡ true)
    both = and_parts (list_all is_quiet_router w.routers && list_all is_quiet_link w.links) (list_all has_no_notice w.attachments) quiet

    -- every router and every link is quiet
    each : (list_all is_quiet_router w.routers ≡ true) × (list_all is_quiet_link w.links ≡ true)
    each = and_parts (list_all is_quiet_router w.routers) (list_all is_quiet_link w.links) both.0

    idle_router : (i : ℕ) (x : Router) → slice_get w.routers i ≡ Some x → is_idle x ≡ true
    idle_router i x at =
        let all = and_parts (is_empty (changed_hops x) && list_all (λ m. is_none (m.1).computation) x.machines && is_empty (x.gate).held) (is_empty (changed_rows x.table)) (all_at is_quiet_router w.routers each.0 i x at) in
        let first = and_parts (is_empty (changed_hops x) && list_all (λ m. is_none (m.1).computation) x.machines) (is_empty (x.gate).held) all.0 in
        let hops = and_parts (is_empty (changed_hops x)) (list_all (λ m. is_none (m.1).computation) x.machines) first.0 in
        idle_from_done x ((seen (record { addr = 0; len = 0 })).kept.routers_kept i x at).ripe_within (record { offers = hops.0; holds_none = empty_is (x.gate).held first.1; published = all.1 })

    -- the world has settled
    settled_then : is_settled w ≡ true
    settled_then = and_from _ (list_all is_idle w.routers) (and_from (list_all is_quiet_link w.links) (list_all has_no_notice w.attachments) each.1 both.1) (all_hold is_idle w.routers idle_router)

-- in every world of every run
pub settled_is_quiet : HoldsInEveryWorld SettledIsQuiet
settled_is_quiet n ss w V r = same_truth (is_settled w) (is_quiet w) (quiet_then n V ss w r) (settled_then n V ss w r)
