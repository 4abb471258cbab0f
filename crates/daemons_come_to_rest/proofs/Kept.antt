-- What is kept at every moment, whatever happens: the invariant and the order of sessions of each prefix, that passive machines without a route have no
-- feasible distance, and that nothing is on its way where no link is.
use Rattle.std.proofs.Common.{refl, sym, ap, subst, ◌∙◌, arith, ◌≡◌, ℕ, ◌≤◌, Bool, true, false, ◌==◌, if◌then◌else◌, List, [], ◌∷◌, Some, None, unwrap_or, slice_get}
use Rattle.no_packet_loops.proofs.Common.{and_parts, None_not_Some, Prefix, prefix_eq, opening_machine, neighbours, Router, machine_of, is_up_at, router_publishing, router_releasing, IsSound, Topology, LinkEnd}
use Rattle.no_packet_loops.proofs.Machines.{prefix_same}
use Rattle.router_core.specs.Alone.{router_publishing_some, may_forget, router_forgetting}
use Rattle.single_router.specs.Openings.{made_router}
use Rattle.single_router.specs.declared.input.Input.TheVariants as input
use Rattle.coming_to_rest.proofs.Calm.{IsCalm, stays_calm, opens_calm}
use Rattle.daemon_laws.specs.{Processes.Carried, Processes.Processes, Facts.fds_next, Facts.first_fds}
use Rattle.daemon_laws.specs.Happenings.{Happening, Tells, Takes, Loses, Publishes, PublishesSome, Forgets, Releases, BeginsAnew, CanHappen, with_process, told_router, forgotten, after_happening, after_happenings, AllCanHappen, IsOpening, AreReached, Begun, Happened, Rewired, Offers}
use Rattle.daemon_laws.proofs.{Cases.each_but, Cases.by_take, Cases.by_release, Goes.Reacted, Goes.stays, Goes.meets_one, Telling.goes_told, Beginning.made, Beginning.begins_kept, Orderly.Orderly, Order.next_orderly, Order.begins_orderly, Placed.placed_next, Rewiring.rewired_keeps, Rewiring.rewired_orderly, Rewiring.rewired_placed, Seen.is_port_in, SomeRows.row_forgotten, SomeRows.row_beside, Moving.in_session}
use Rattle.daemon_laws.proofs.Invariant.{router_at, session_of, Placed, Invariant}
use Rattle.daemon_laws.proofs.Steps.{router_here, router_away, goes_here, next_keeps}
use Rattle.network_model.specs.World.{with_offer}

pub record Kept (t : Topology) (w : Processes) : Type 0 where
  pub pfd : Prefix → ℕ → ℕ
  pub invariant : (p : Prefix) → Invariant t p (pfd p) w
  pub calm : (p : Prefix) (i : ℕ) → IsCalm (machine_of (w.routers i) p)
  pub orderly : (p : Prefix) → Orderly t p w
  pub placed : Placed t w

-- ---- calm

-- a machine that stays, or meets an event, stays calm
calm_reacted : (p : Prefix) (r r' : Router) → IsSound (machine_of r p) → IsCalm (machine_of r p) → Reacted p r r' → IsCalm (machine_of r' p)
calm_reacted p r r' sound calm (stays is) = subst IsCalm (sym is) calm
calm_reacted p r r' sound calm (meets_one e meets is) = subst IsCalm (sym is) (stays_calm (machine_of r p) e sound meets calm)

module _ (t : Topology) (w : Processes) (K : Kept t w) (p : Prefix) where
  abbrev I : Invariant t p (K.pfd p) w
  I = K.invariant p

  -- one router changed that stays calm
  calm_with : (i : ℕ) (f : Router → Router) → IsCalm (machine_of (f (w.routers i)) p) → (j : ℕ) → IsCalm (machine_of (with_process i f w.routers j) p)
  calm_with i f here = each_but (router_away i f w.routers) (λ j y. IsCalm (machine_of y p)) (subst (λ (y : Router). IsCalm (machine_of y p)) (sym (router_here i f w.routers)) here) (K.calm p)

  calm_next : (h : Happening) → CanHappen w h → (j : ℕ) → IsCalm (machine_of ((after_happening t w h).routers j) p)
  calm_next (Tells i x) can =
      calm_with i (told_router x) (calm_reacted p (w.routers i) (told_router x (w.routers i)) (I.sound i) (K.calm p i) (goes_told p (w.routers i) (I.keeps i) (I.sound i) w i x can).goes.reacted)
  calm_next (Takes e) can = by_take t w (λ v. (j : ℕ) → IsCalm (machine_of (v.routers j) p)) (K.calm p) e (λ c at le.
      calm_with e.router (told_router (input.Message e.port c.session c.message))
      (calm_reacted p (w.routers e.router) (told_router (input.Message e.port c.session c.message) (w.routers e.router)) (I.sound e.router) (K.calm p e.router) (goes_here t p (K.pfd p) w I e c at le).goes.reacted))
  calm_next (Loses e) can = K.calm p
  calm_next (Publishes i) can = calm_with i router_publishing (K.calm p i)
  calm_next (PublishesSome i n) can = calm_with i (router_publishing_some n) (K.calm p i)
  calm_next (Forgets i k) can = calm_with i (forgotten k) (by_may (may_forget k (w.routers i)))
    where
      by_prefix : (b : Bool) → prefix_eq p k ≡ b → IsCalm (machine_of (router_forgetting k (w.routers i)) p)
      by_prefix true same =
          subst IsCalm
          (sym (ap (λ (q : Prefix). machine_of (router_forgetting q (w.routers i)) p) (sym (prefix_same p k same)) ∙ ap (λ o. unwrap_or o (opening_machine None (neighbours (w.routers i).ports))) (row_forgotten p (w.routers i).machines)))
          (opens_calm None (neighbours (w.routers i).ports))
      by_prefix false apart = subst IsCalm (sym (ap (λ o. unwrap_or o (opening_machine None (neighbours (w.routers i).ports))) (row_beside p k (w.routers i).machines apart))) (K.calm p i)

      by_may : (a : Bool) → IsCalm (machine_of (if a then router_forgetting k (w.routers i) else w.routers i) p)
      by_may true = by_prefix (prefix_eq p k) refl
      by_may false = K.calm p i
  calm_next (Releases i) can = by_release t w (λ v. (j : ℕ) → IsCalm (machine_of (v.routers j) p)) (K.calm p) i (λ h at. calm_with i router_releasing (K.calm p i))
  calm_next (Offers i offer) can = calm_with i (with_offer offer) (K.calm p i)
  calm_next (BeginsAnew i costs attachments) can =
      let M = made p (made_router costs attachments) (record { costs = costs; attachments = attachments; good = can; made = refl }) in
      calm_with i (λ r. made_router costs attachments) (subst IsCalm (sym M.opened) (opens_calm M.home M.neighbours_are))

-- ---- no later session

-- an end that is in a session was in no later one
pub latest : (t : Topology) (w : Processes) → Kept t w → (p : Prefix) (e : LinkEnd) (n : ℕ) → is_port_in p (router_at w e) e.port n ≡ true → w.last e ≤ n
latest t w K p e n on =
    let up = (and_parts (is_up_at (machine_of (router_at w e) p) e.port) (session_of w e == n) on).0 in
    let l = (K.orderly p).up_last e up in
    let s = in_session p (router_at w e) e.port n on in
    omega (arith, l, s)

-- ---- all

-- whatever happens keeps all
pub kept_next : (t : Topology) (w : Processes) (h : Happening) → Kept t w → CanHappen w h → Kept t (after_happening t w h)
kept_next t w h K can = record {
  pfd = λ p. fds_next p w h (K.pfd p);
  invariant = λ p. next_keeps t p (K.pfd p) w (K.invariant p) (K.orderly p) K.placed h can;
  orderly = λ p. next_orderly t p (K.pfd p) w (K.invariant p) (K.orderly p) h can;
  calm = λ p. calm_next t w K p h can;
  placed = placed_next t w K.placed h;
}

-- it is so where processes begin
pub kept_first : (t : Topology) (w : Processes) → IsOpening w → Kept t w
kept_first t w B = record {
  pfd = λ p. first_fds p w;
  invariant = λ p. begins_kept t p w B;
  orderly = λ p. begins_orderly t p w B;
  calm = λ p i. (let M = made p (w.routers i) (B.routers_made i) in subst IsCalm (sym M.opened) (opens_calm M.home M.neighbours_are));
  placed = λ e out. B.nothing_comes e;
}

-- and so at every moment
pub kept_after : (t : Topology) (w : Processes) (hs : List Happening) → Kept t w → AllCanHappen t w hs → Kept t (after_happenings t w hs)
kept_after t w [] K can = K
kept_after t w (h ∷ hs) K can = kept_after t (after_happening t w h) hs (kept_next t w h K can.0) can.1

-- it is so at every moment, whichever neighbours ports have got
pub kept_reached : (t : Topology) (w : Processes) → AreReached t w → Kept t w
kept_reached _ _ (Begun t w B) = kept_first t w B
kept_reached _ _ (Happened t w h M can) = kept_next t w h (kept_reached t w M) can
kept_reached _ _ (Rewired t t' w M R) =
    let K = kept_reached t w M in
    record {
      pfd = K.pfd;
      invariant = λ p. rewired_keeps t t' p (K.pfd p) w (K.invariant p) (K.orderly p) R;
      orderly = λ p. rewired_orderly t t' p (K.pfd p) w (K.invariant p) (K.orderly p) R;
      calm = K.calm;
      placed = rewired_placed t t' w;
    }

-- where something is on its way a link is
pub link_there : (t : Topology) (w : Processes) → Kept t w → (e : LinkEnd) (c : Carried) → slice_get (w.coming e) 0 ≡ Some c → t.valid e ≡ true
link_there t w K e c at = go (t.valid e) refl
  where
    go : (b : Bool) → t.valid e ≡ b → t.valid e ≡ true
    go true v = v
    go false out = absurd (None_not_Some (sym (ap (λ cs. slice_get cs 0) (K.placed e out)) ∙ at))
