-- A next hop that a router published may be shown in place of its row, whatever has happened since, until it publishes for the prefix again.
use Rattle.std.proofs.Common.{refl, sym, ap, subst, ◌∙◌, inl, inr, ◌≡◌, ◌≢◌, ℕ, Bool, true, false, ◌&&◌, ◌==◌, if◌then◌else◌, List, [], take, drop, Option, Some, None, is_some, slice_get, unwrap_or, nat_lt, eqb-true, eq-eqb, ne_eqb}
use Rattle.no_packet_loops.proofs.Common.{find as row_of, option_map_or, None_not_Some, Prefix, prefix_cmp, prefix_eq, Entry, Via, NextHop, Held, Router, infinity, machine_of, opening_machine, neighbours, session_at, offered_hops, router_publishing, router_releasing, ripe_front, Topology, at_port, cases_eq, none-some}
use Rattle.network_model.proofs.HopLaws.{offered_sorted}
use Rattle.network_model.specs.{NextHops.hops_at, World.NextHops, World.with_offer}
use Rattle.no_packet_loops.proofs.Machines.{prefix_same}
use Rattle.route_table.specs.Place.{without}
use Rattle.router_core.specs.Alone.{rows_due, router_publishing_some, may_forget, router_forgetting}
use Rattle.single_router.specs.{declared.input.Input.Input, Inputs.told_fault, Openings.made_router}
use Rattle.single_router.specs.declared.input.Input.TheVariants as input
use Rattle.many_ways.specs.Network.{Among}
use Rattle.many_ways.proofs.{Feasible.stands, Feasible.feasible_hop, Offered.hops_of_machine, Offered.offers_feasible}
use Rattle.daemon_laws.specs.{Processes.Carried, Processes.Processes, Facts.fd_then, Facts.fds_next, Moments.fds_reached}
use Rattle.daemon_laws.specs.Happenings.{Happening, Tells, Takes, Loses, Publishes, PublishesSome, Forgets, Releases, Offers, BeginsAnew, IsLocalInput, CanHappen, AreReached, Begun, Happened, Rewired, with_process, with_coming, with_last, with_heard, told_router, forgotten, having_taken, sent_from, having_released, last_anew, heard_anew, lost_anew, after_happening}
use Rattle.daemon_laws.proofs.{Cases.after_message, Cases.by_take, Cases.by_release, Routers.RouterKept, Invariant.Invariant, InForce.PutsInForce, InForce.puts_nothing, SomeRows.hops_in_force, SomeRows.row_forgotten, SomeRows.row_beside, Orderly.told_more, Steps.router_here, Steps.router_away, Steps.puts_at, Order.puts_orderly}
use Rattle.daemon_laws.proofs.Always.{Keeps, keeps_next, keeps_rewired, always}
use Rattle.many_daemon_ways.proofs.Told.{told_with, told_hops}
use Rattle.many_daemon_ways.proofs.Shown.{with_published, with_hop, shown_routers, showing, hop_row, keeps_hop, MayShow, shown_keeps}

-- ---- what happens where a router shows a next hop

module _ (p : Prefix) (i : ℕ) (h : NextHop) where
  -- the router shows the next hop
  pub hop_shown : (w : Processes) → row_of prefix_cmp p (((showing p i h w).routers i).table).published ≡ Some (Via h.port h.session)
  hop_shown w = ap (λ b. row_of prefix_cmp p (if b then with_hop p h ((w.routers i).table).published else ((w.routers i).table).published)) (eq-eqb i i refl) ∙ hop_row p h ((w.routers i).table).published

  -- one router changed, which does not depend on the rows that it published, and leaves them: then it shows what it showed
  stable : (j : ℕ) (f : Router → Router) → ((rows : List (Prefix × Entry)) (r : Router) → f (with_published rows r) ≡ with_published rows (f r)) → ((r : Router) → ((f r).table).published ≡ (r.table).published)
      → (rs : ℕ → Router) → with_process j f (shown_routers p i h rs) ≡ shown_routers p i h (with_process j f rs)
  stable j f alike leaves rs = λ z k. by_test k (k == j) z
    where
      by_test : (k : ℕ) (b : Bool) → (if b then f (shown_routers p i h rs k) else shown_routers p i h rs k)
          ≡ with_published (if k == i then with_hop p h ((if b then f (rs k) else rs k).table).published else ((if b then f (rs k) else rs k).table).published) (if b then f (rs k) else rs k)
      by_test k true = alike (if k == i then with_hop p h ((rs k).table).published else ((rs k).table).published) (rs k) ∙ ap (λ rows. with_published (if k == i then with_hop p h rows else rows) (f (rs k))) (sym (leaves (rs k)))
      by_test k false = refl

  -- another router changed
  spared : (j : ℕ) (f : Router → Router) → j ≢ i → (rs : ℕ → Router) → with_process j f (shown_routers p i h rs) ≡ shown_routers p i h (with_process j f rs)
  spared j f d rs = λ z k. by_test k (k == j) refl z
    where
      by_test : (k : ℕ) (b : Bool) → (k == j) ≡ b → (if b then f (shown_routers p i h rs k) else shown_routers p i h rs k)
          ≡ with_published (if k == i then with_hop p h ((if b then f (rs k) else rs k).table).published else ((if b then f (rs k) else rs k).table).published) (if b then f (rs k) else rs k)
      by_test k true is =
          let off : (k == i) ≡ false = ne_eqb k i (λ same. d (sym (eqb-true k j is) ∙ same)) in
          ap (λ c. f (with_published (if c then with_hop p h ((rs k).table).published else ((rs k).table).published) (rs k))) off
          ∙ sym (ap (λ c. with_published (if c then with_hop p h ((f (rs k)).table).published else ((f (rs k)).table).published) (f (rs k))) off)
      by_test k false is = refl

  -- whether it leaves the rows that the router published
  abbrev Spares : Happening → Type 0
  Spares (Publishes j) = j ≢ i
  Spares (PublishesSome j n) = j ≢ i
  Spares (Forgets j k) = j ≢ i
  Spares (BeginsAnew j costs attachments) = j ≢ i
  Spares _ = Unit {0}

  module _ (t : Topology) (w : Processes) where
    -- the processes in which the router shows it
    abbrev v : Processes
    v = showing p i h w

    -- then the same happens to those in which it is shown
    same_next : (ev : Happening) → Spares ev → after_happening t (showing p i h w) ev ≡ showing p i h (after_happening t w ev)
    same_next (Tells j x) s = ap (λ (rs : ℕ → Router). record { routers = rs; coming = w.coming; last = with_last rs w.last; heard = w.heard; lost = w.lost }) (stable j (told_router x) (told_with x) (λ r. (told_more x r).published_same) w.routers)
    same_next (Takes e) s = by_first (slice_get (w.coming e) 0)
      where
        by_wait : (c : Carried) (b : Bool) → (if b then v else after_message e v c) ≡ showing p i h (if b then w else after_message e w c)
        by_wait c true = refl
        by_wait c false =
            let x = input.Message e.port c.session c.message in
            ap (λ (rs : ℕ → Router). record { routers = rs; coming = with_coming e (drop 1) w.coming; last = w.last; heard = with_heard e (told_fault x (w.routers e.router)) c.session w.heard; lost = w.lost })
            (stable e.router (told_router x) (told_with x) (λ r. (told_more x r).published_same) w.routers)

        by_first : (o : Option Carried) → option_map_or (having_taken e v) o v ≡ showing p i h (option_map_or (having_taken e w) o w)
        by_first None = refl
        by_first (Some c) = by_wait c (nat_lt (w.last e) c.session)
    same_next (Loses e) s = refl
    same_next (Publishes j) d = ap (λ (rs : ℕ → Router). record { routers = rs; coming = w.coming; last = w.last; heard = w.heard; lost = w.lost }) (spared j router_publishing d w.routers)
    same_next (PublishesSome j n) d = ap (λ (rs : ℕ → Router). record { routers = rs; coming = w.coming; last = w.last; heard = w.heard; lost = w.lost }) (spared j (router_publishing_some n) d w.routers)
    same_next (Forgets j k) d = ap (λ (rs : ℕ → Router). record { routers = rs; coming = w.coming; last = w.last; heard = w.heard; lost = w.lost }) (spared j (forgotten k) d w.routers)
    same_next (Releases j) s = by_front (ripe_front (w.routers j))
      where
        by_front : (o : Option Held) → option_map_or (having_released t j v) o v ≡ showing p i h (option_map_or (having_released t j w) o w)
        by_front None = refl
        by_front (Some m) = ap (λ (rs : ℕ → Router). record { routers = rs; coming = sent_from t w (at_port j m.port) m; last = w.last; heard = w.heard; lost = w.lost }) (stable j router_releasing (λ rows r. refl) (λ r. refl) w.routers)
    same_next (Offers j offer) s = ap (λ (rs : ℕ → Router). record { routers = rs; coming = w.coming; last = w.last; heard = w.heard; lost = w.lost }) (stable j (with_offer offer) (λ rows r. refl) (λ r. refl) w.routers)
    same_next (BeginsAnew j costs attachments) d = ap (λ (rs : ℕ → Router). record { routers = rs; coming = w.coming; last = last_anew t j w; heard = heard_anew j w.heard; lost = lost_anew t j w }) (spared j (λ r. made_router costs attachments) d w.routers)

    -- and with the same feasible distances
    fds_same : (ev : Happening) → Spares ev → (fds : ℕ → ℕ) (j : ℕ) → fds_next p (showing p i h w) ev fds j ≡ fds_next p w ev fds j
    fds_same (PublishesSome k n) d fds j =
        ap (λ c. if j == k then fd_then p (take n (rows_due (with_published (if c then with_hop p h ((w.routers k).table).published else ((w.routers k).table).published) (w.routers k)))) (w.routers k) (fds j) else fds j) (ne_eqb k i d)
    fds_same (Forgets k q) d fds j =
        ap (λ c. if (j == k) && prefix_eq p q && may_forget q (with_published (if c then with_hop p h ((w.routers k).table).published else ((w.routers k).table).published) (w.routers k)) then infinity else fds j) (ne_eqb k i d)
    fds_same _ s fds j = refl

    -- it may happen, too
    may_happen : (ev : Happening) → CanHappen w ev → CanHappen (showing p i h w) ev
    may_happen (Tells j x) can = by_input x can
      where
        by_input : (y : Input) → IsLocalInput w j y → IsLocalInput (showing p i h w) j y
        by_input (input.Up q s c) own = own
        by_input _ own = own
    may_happen _ can = can

    -- so all is kept of those in which it is shown
    carried_on : (ev : Happening) → Spares ev → (fds : ℕ → ℕ) → CanHappen w ev → Keeps t p fds (showing p i h w) → Keeps t p (fds_next p w ev fds) (showing p i h (after_happening t w ev))
    carried_on ev s fds can A =
        subst (λ (f : ℕ → ℕ). Keeps t p f (showing p i h (after_happening t w ev))) (λ z j. fds_same ev s fds j z)
        (subst (Keeps t p (fds_next p (showing p i h w) ev fds)) (same_next ev s) (keeps_next t p fds (showing p i h w) ev A (may_happen ev can)))

    -- ---- what is in force then was in force before

    -- one router changed, which leaves the next hops that it published
    hops_stay : (j : ℕ) (f : Router → Router) → ((r : Router) → ((f r).hops).published ≡ (r.hops).published) → ((with_process j f w.routers i).hops).published ≡ ((w.routers i).hops).published
    hops_stay j f leaves = by_test (i == j)
      where
        by_test : (b : Bool) → ((if b then f (w.routers i) else w.routers i).hops).published ≡ ((w.routers i).hops).published
        by_test true = leaves (w.routers i)
        by_test false = refl

    -- another router changed
    hops_away : (j : ℕ) (f : Router → Router) → j ≢ i → ((with_process j f w.routers i).hops).published ≡ ((w.routers i).hops).published
    hops_away j f d = ap (λ (r : Router). (r.hops).published) (router_away j f w.routers i (λ e. d (sym e)))

    -- what was in force, where it is the same
    was : (now before : List (Prefix × List NextHop)) → now ≡ before → Among h (hops_at p now) → Among h (hops_at p before)
    was now before same a = subst (λ (hops : List (Prefix × List NextHop)). Among h (hops_at p hops)) same a

    before : (ev : Happening) → Spares ev → Among h (hops_at p (((after_happening t w ev).routers i).hops).published) → Among h (hops_at p ((w.routers i).hops).published)
    before (Tells j x) s a = was _ _ (hops_stay j (told_router x) (λ r. ap (λ (hops : NextHops). hops.published) (told_hops x r))) a
    before (Takes e) s a = by_take t w (λ u. Among h (hops_at p ((u.routers i).hops).published) → Among h (hops_at p ((w.routers i).hops).published)) (λ b. b) e
        (λ c at le b. let x = input.Message e.port c.session c.message in was _ _ (hops_stay e.router (told_router x) (λ r. ap (λ (hops : NextHops). hops.published) (told_hops x r))) b) a
    before (Loses e) s a = a
    before (Publishes j) d a = was _ _ (hops_away j router_publishing d) a
    before (PublishesSome j n) d a = was _ _ (hops_away j (router_publishing_some n) d) a
    before (Forgets j k) d a = was _ _ (hops_away j (forgotten k) d) a
    before (Releases j) s a = by_release t w (λ u. Among h (hops_at p ((u.routers i).hops).published) → Among h (hops_at p ((w.routers i).hops).published)) (λ b. b) j
        (λ m at b. was _ _ (hops_stay j router_releasing (λ r. refl)) b) a
    before (Offers j offer) s a = by_test (i == j) a
      where
        by_test : (b : Bool) → Among h (hops_at p ((if b then with_offer offer (w.routers i) else w.routers i).hops).published) → Among h (hops_at p ((w.routers i).hops).published)
        by_test true none = absurd (none-some h none.1)
        by_test false b = b
    before (BeginsAnew j costs attachments) d a = was _ _ (hops_away j (λ r. made_router costs attachments) d) a

-- ---- what the router does itself

-- a next hop that a router offers it may show once it has published
fresh : (p : Prefix) (r : Router) (h : NextHop) → Among h (hops_at p (offered_hops r)) → MayShow p r (machine_of r p).fd h
fresh p r h a =
    let (m, is, s) = hops_of_machine (r.hops).offer (session_at r.ports) r.machines p h (stands h (hops_at p (offered_hops r)) a.0 a.1) in
    let W = feasible_hop p r h (offers_feasible p r h a) in
    record { machine = m; heard = is; up = W.up; session_is = W.session_is; low = W.low }

module _ (t : Topology) (p : Prefix) (fds : ℕ → ℕ) (w : Processes) (i : ℕ) (h : NextHop) where
  -- the router, and the processes once it has changed
  abbrev r : Router
  r = w.routers i

  abbrev changed : (Router → Router) → Processes
  changed f = record { routers = with_process i f w.routers; coming = w.coming; last = w.last; heard = w.heard; lost = w.lost }

  -- what is kept of the router after that
  router_kept : (f : Router → Router) (fds' : ℕ → ℕ) → Keeps t p fds' (changed f) → RouterKept p (f (w.routers i))
  router_kept f fds' A = subst (RouterKept p) (router_here i f w.routers) ((A.invariant).keeps i)

  -- it may show the next hop then
  shows_hop : (f : Router → Router) (fds' : ℕ → ℕ) → Keeps t p fds' (changed f) → (fd : ℕ) → fds' i ≡ fd → MayShow p (f (w.routers i)) fd h → Keeps t p fds' (showing p i h (changed f))
  shows_hop f fds' A fd is M = shown_keeps t p fds' (changed f) A i h
      (subst (λ (x : Router). MayShow p x (fds' i) h) (sym (router_here i f w.routers)) (subst (λ (n : ℕ). MayShow p (f (w.routers i)) n h) (sym is) M))

  -- it leaves what it shows of the prefix
  record Leaves (f : Router → Router) (fds' : ℕ → ℕ) : Type 0 where
    ports_are : (f r).ports ≡ r.ports
    gate_is : (f r).gate ≡ r.gate
    row_is : row_of prefix_cmp p (f r).machines ≡ row_of prefix_cmp p r.machines
    fds_elsewhere : (j : ℕ) → j ≢ i → fds' j ≡ fds j
    fd_here : fds' i ≡ fds i

  -- and it shows the next hop still
  shows_still : (f : Router → Router) (fds' : ℕ → ℕ) → Keeps t p fds (showing p i h w) → Keeps t p fds' (changed f) → Leaves f fds' → Keeps t p fds' (showing p i h (changed f))
  shows_still f fds' A after L = subst (λ (rs : ℕ → Router). Keeps t p fds' (record { routers = rs; coming = w.coming; last = w.last; heard = w.heard; lost = w.lost })) same (record {
    invariant = puts_at t p fds v I i (λ x. new) fds' L.fds_elsewhere puts;
    orderly = puts_orderly t p fds v I A.orderly i (λ x. new) (fds i) (fds' i) puts;
    placed = A.placed;
  })
    where
      v : Processes
      v = showing p i h w

      I : Invariant t p fds (showing p i h w)
      I = A.invariant

      new : Router
      new = with_published (with_hop p h ((f (w.routers i)).table).published) (f (w.routers i))

      heard : row_of prefix_cmp p (f r).machines ≡ None → ⊥
      heard none = None_not_Some (sym ((I.keeps i).published_heard (sym L.row_is ∙ none)) ∙ hop_shown p i h w)

      puts : PutsInForce p (v.routers i) new (fds i) (fds' i)
      puts = puts_nothing p (v.routers i) new (fds i) (fds' i) (I.sound i) (keeps_hop p h (f r) (router_kept f fds' after) heard) (I.cheap i) (I.pfd_bounded i) L.ports_are L.gate_is
          (λ z. unwrap_or (L.row_is z) (opening_machine None (neighbours (L.ports_are z)))) (hop_row p h ((f r).table).published ∙ sym (hop_shown p i h w)) L.fd_here

      same : with_process i (λ x. new) v.routers ≡ shown_routers p i h (with_process i f w.routers)
      same = λ z k. by_test k (k == i) refl z
        where
          by_test : (k : ℕ) (b : Bool) → (k == i) ≡ b
              → (if b then new else with_published (if b then with_hop p h ((w.routers k).table).published else ((w.routers k).table).published) (w.routers k))
              ≡ with_published (if b then with_hop p h ((if b then f (w.routers k) else w.routers k).table).published else ((if b then f (w.routers k) else w.routers k).table).published) (if b then f (w.routers k) else w.routers k)
          by_test k true is = ap (λ (j : ℕ). with_published (with_hop p h ((f (w.routers j)).table).published) (f (w.routers j))) (sym (eqb-true k i is))
          by_test k false is = refl

  module _ (A : Keeps t p fds w) where
    -- it publishes
    publishes : Among h (hops_at p (((after_happening t w (Publishes i)).routers i).hops).published) → Keeps t p (fds_next p w (Publishes i) fds) (showing p i h (after_happening t w (Publishes i)))
    publishes a =
        let F = fresh p r h (subst (λ (x : Router). Among h (hops_at p (x.hops).published)) (router_here i router_publishing w.routers) a) in
        shows_hop router_publishing (fds_next p w (Publishes i) fds) (keeps_next t p fds w (Publishes i) A tt) (machine_of r p).fd (ap (λ b. if b then (machine_of r p).fd else fds i) (eq-eqb i i refl))
        (record { machine = F.machine; heard = F.heard; up = F.up; session_is = F.session_is; low = F.low })

    -- it publishes some of its rows
    publishes_some : (n : ℕ) → (Among h (hops_at p (r.hops).published) → Keeps t p fds (showing p i h w))
        → Among h (hops_at p (((after_happening t w (PublishesSome i n)).routers i).hops).published) → Keeps t p (fds_next p w (PublishesSome i n) fds) (showing p i h (after_happening t w (PublishesSome i n)))
    publishes_some n shown a = by_row (is_some (row_of prefix_cmp p rows)) refl
        (subst (Among h) (ap (λ (x : Router). hops_at p (x.hops).published) (router_here i (router_publishing_some n) w.routers)
        ∙ ap (λ o. unwrap_or o []) (hops_in_force p rows (offered_hops r) (r.hops).published (offered_sorted (r.hops).offer (session_at r.ports) r.machines ((A.invariant).keeps i).sorted))) a)
      where
        rows : List (Prefix × Entry)
        rows = take n (rows_due (w.routers i))

        fds' : ℕ → ℕ
        fds' = fds_next p w (PublishesSome i n) fds

        after : Keeps t p (fds_next p w (PublishesSome i n) fds) (after_happening t w (PublishesSome i n))
        after = keeps_next t p fds w (PublishesSome i n) A tt

        fd_then_is : fds' i ≡ (if is_some (row_of prefix_cmp p rows) then (machine_of r p).fd else fds i)
        fd_then_is = ap (λ b. if b then fd_then p rows r (fds i) else fds i) (eq-eqb i i refl)

        by_row : (b : Bool) → is_some (row_of prefix_cmp p rows) ≡ b → Among h (unwrap_or (if b then row_of prefix_cmp p (offered_hops r) else row_of prefix_cmp p (r.hops).published) []) → Keeps t p fds' (showing p i h (after_happening t w (PublishesSome i n)))
        by_row true is b =
            let F = fresh p r h b in
            shows_hop (router_publishing_some n) fds' after (machine_of r p).fd (fd_then_is ∙ ap (λ c. if c then (machine_of r p).fd else fds i) is)
            (record { machine = F.machine; heard = F.heard; up = F.up; session_is = F.session_is; low = F.low })
        by_row false is b = shows_still (router_publishing_some n) fds' (shown b) after (record {
          ports_are = refl;
          gate_is = refl;
          row_is = refl;
          fds_elsewhere = λ j d. rw (ne_eqb j i d) refl;
          fd_here = fd_then_is ∙ ap (λ c. if c then (machine_of r p).fd else fds i) is;
        })

    -- it forgets a prefix, where it may
    forgets : (k : Prefix) → (Among h (hops_at p (r.hops).published) → Keeps t p fds (showing p i h w))
        → Among h (hops_at p (((after_happening t w (Forgets i k)).routers i).hops).published) → Keeps t p (fds_next p w (Forgets i k) fds) (showing p i h (after_happening t w (Forgets i k)))
    forgets k shown a = by_test (prefix_eq p k) refl (may_forget k r) refl (subst (λ (x : Router). Among h (hops_at p (x.hops).published)) (router_here i (forgotten k) w.routers) a)
      where
        fds' : ℕ → ℕ
        fds' = fds_next p w (Forgets i k) fds

        after : Keeps t p (fds_next p w (Forgets i k) fds) (after_happening t w (Forgets i k))
        after = keeps_next t p fds w (Forgets i k) A tt

        fd_is : (b c : Bool) → prefix_eq p k ≡ b → may_forget k r ≡ c → fds' i ≡ (if b && c then infinity else fds i)
        fd_is b c same may = ap (λ d. if d && prefix_eq p k && may_forget k r then infinity else fds i) (eq-eqb i i refl) ∙ (λ z. if same z && may z then infinity else fds i)

        elsewhere : (j : ℕ) → j ≢ i → fds' j ≡ fds j
        elsewhere j d = ap (λ b. if b && prefix_eq p k && may_forget k r then infinity else fds j) (ne_eqb j i d)

        either : (P : Router → Type 0) → P (router_forgetting k r) → P r → P (forgotten k r)
        either P forgot left = by_may (may_forget k r)
          where
            by_may : (b : Bool) → P (if b then router_forgetting k r else r)
            by_may true = forgot
            by_may false = left

        by_test : (b : Bool) → prefix_eq p k ≡ b → (c : Bool) → may_forget k r ≡ c → Among h (hops_at p ((forgotten k r).hops).published) → Keeps t p fds' (showing p i h (after_happening t w (Forgets i k)))
        by_test true same true may b =
            let gone : hops_at p ((forgotten k r).hops).published ≡ [] =
            ap (λ d. hops_at p ((if d then router_forgetting k r else r).hops).published) may
            ∙ ap (λ q. hops_at p (without q (r.hops).published)) (sym (prefix_same p k same)) ∙ ap (λ o. unwrap_or o []) (row_forgotten p (r.hops).published) in
            absurd (none-some h (subst (Among h) gone b).1)
        by_test true same false may b =
            let is : forgotten k r ≡ r = ap (λ d. if d then router_forgetting k r else r) may in
            shows_still (forgotten k) fds' (shown (subst (λ (x : Router). Among h (hops_at p (x.hops).published)) is b)) after (record {
              ports_are = ap (λ (x : Router). x.ports) is;
              gate_is = ap (λ (x : Router). x.gate) is;
              row_is = ap (λ (x : Router). row_of prefix_cmp p x.machines) is;
              fds_elsewhere = elsewhere;
              fd_here = fd_is true false same may;
            })
        by_test false apart c may b =
            let hops = either (λ x. hops_at p (x.hops).published ≡ hops_at p (r.hops).published) (ap (λ o. unwrap_or o []) (row_beside p k (r.hops).published apart)) refl in
            shows_still (forgotten k) fds' (shown (subst (Among h) hops b)) after (record {
              ports_are = either (λ x. x.ports ≡ r.ports) refl refl;
              gate_is = either (λ x. x.gate ≡ r.gate) refl refl;
              row_is = either (λ x. row_of prefix_cmp p x.machines ≡ row_of prefix_cmp p r.machines) (row_beside p k r.machines apart) refl;
              fds_elsewhere = elsewhere;
              fd_here = fd_is false c apart may;
            })

-- ---- at every moment

-- whichever next hop a router shows that it published, all is kept
abbrev pub HopsShown : Topology → Prefix → (ℕ → ℕ) → Processes → Type 0
HopsShown t p fds w = (i : ℕ) (h : NextHop) → Among h (hops_at p ((w.routers i).hops).published) → Keeps t p fds (showing p i h w)

-- so it is after what happens
hops_next : (t : Topology) (p : Prefix) (fds : ℕ → ℕ) (w : Processes) (ev : Happening) → Keeps t p fds w → HopsShown t p fds w → CanHappen w ev → HopsShown t p (fds_next p w ev fds) (after_happening t w ev)
hops_next t p fds w ev A S can i h = by_event ev can
  where
    -- what it does that makes rows of other routers alone another matter
    spares : (ev : Happening) → Spares p i h ev → CanHappen w ev → Among h (hops_at p (((after_happening t w ev).routers i).hops).published) → Keeps t p (fds_next p w ev fds) (showing p i h (after_happening t w ev))
    spares ev s can a = carried_on p i h t w ev s fds can (S i h (before p i h t w ev s a))

    -- what holds once this has happened to a router
    After : Happening → Type 0
    After ev = Among h (hops_at p (((after_happening t w ev).routers i).hops).published) → Keeps t p (fds_next p w ev fds) (showing p i h (after_happening t w ev))

    -- another router does it, or this one
    at : (act : ℕ → Happening) → ((j : ℕ) → j ≢ i → After (act j)) → After (act i) → (j : ℕ) → After (act j)
    at act other own j = elim (cases_eq j i) [ inl e ↦ subst (λ (k : ℕ). After (act k)) (sym e) own | inr d ↦ other j d ]

    by_event : (ev : Happening) → CanHappen w ev → After ev
    by_event (Tells j x) can = spares (Tells j x) tt can
    by_event (Takes e) can = spares (Takes e) tt can
    by_event (Loses e) can = spares (Loses e) tt can
    by_event (Publishes j) can = at Publishes (λ k d. spares (Publishes k) d tt) (publishes t p fds w i h A) j
    by_event (PublishesSome j n) can = at (λ k. PublishesSome k n) (λ k d. spares (PublishesSome k n) d tt) (publishes_some t p fds w i h A n (S i h)) j
    by_event (Forgets j q) can = at (λ k. Forgets k q) (λ k d. spares (Forgets k q) d tt) (forgets t p fds w i h A q (S i h)) j
    by_event (Releases j) can = spares (Releases j) tt can
    by_event (Offers j offer) can = spares (Offers j offer) tt can
    by_event (BeginsAnew j costs attachments) can = at (λ k. BeginsAnew k costs attachments) (λ k d. spares (BeginsAnew k costs attachments) d can) none j
      where
        none : After (BeginsAnew i costs attachments)
        none a = absurd (none-some h (subst (λ (x : Router). Among h (hops_at p (x.hops).published)) (router_here i (λ r. made_router costs attachments) w.routers) a).1)

-- at every moment, whatever has happened
pub hops_always : (p : Prefix) (t : Topology) (w : Processes) (M : AreReached t w) → HopsShown t p (fds_reached t w M p) w
hops_always p _ _ (Begun t w B) = λ i h a. absurd (none-some h (subst (λ (x : Router). Among h (hops_at p (x.hops).published)) (B.routers_made i).made a).1)
hops_always p _ _ (Happened t w ev M can) = hops_next t p (fds_reached t w M p) w ev (always p t w M).kept (hops_always p t w M) can
hops_always p _ _ (Rewired t t' w M R) = λ i h a. keeps_rewired t t' p (fds_reached t w M p) (showing p i h w) (hops_always p t w M i h a) R
