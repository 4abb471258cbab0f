-- While a router publishes nothing, no row that leads to it has a feasible distance as low as that at which a packet left it: so one that stays near does not come back.
use Rattle.std.proofs.Common.{refl, sym, ap, subst, ◌∙◌, inl, inr, arith, ◌<◌, ◌≤◌, ◌≡◌, ◌≢◌, ◌⊎◌, ℕ, suc, ◌+◌, Bool, true, false, ◌&&◌, ◌==◌, if◌then◌else◌, List, [], ◌∷◌, ◌++◌, take, Option, Some, None, IsSome, eq-eqb, ne_eqb}
use Rattle.no_packet_loops.proofs.Common.{false≢true, Prefix, prefix_cmp, prefix_eq, infinity, Entry, Topology, machine_of}
use Rattle.network_model.proofs.Common.{cases_eq, cases_lt, find as row_of}
use Rattle.all_packets.proofs.Known.{Fits}
use Rattle.router_core.specs.Alone.{may_forget, rows_due}
use Rattle.single_router.specs.Openings.{made_router}
use Rattle.daemon_laws.specs.{Processes.Processes, Packets.session_leads, Packets.unmarked_leads, Facts.fd_then, Facts.fds_next}
use Rattle.daemon_laws.specs.Happenings.{Happening, Publishes, PublishesSome, Forgets, BeginsAnew, CanHappen, MayRewire}
use Rattle.daemon_laws.proofs.{Invariant.Invariant, Steps.next_keeps, Rewiring.rewired_keeps, Walks.leads as leads_to, Walks.published_both, Walks.control_both}
use Rattle.moving_packets.proofs.Returns.{IsOn, Hop, Left, left_by, came_by, Where, spare, leaves, hop_counts, wait_counts, count_hop, count_wait}
use Rattle.moving_daemon_packets.specs.Moving.{Moment, moment_next, moment_rewired, now, HoldsAtEveryMoment, DaemonEvent, Goes, Does, Rewires, LeadsOn, moment_fd, rows_shown, fd_shown, Met, Forwards, StaysNearAtDaemons, happening_publishes, ComesBackOncePublishedAtDaemons, visits_meanwhile, publications_meanwhile, ComesBackSeldomAtDaemons}
use Rattle.moving_daemon_packets.proofs.Calm.{IsKept, kept_next, kept_rewired, Sound, fits, leads_in, hop, near_by, marked, unmarked_is, kept}
use Rattle.moving_daemon_packets.proofs.Raised.{counted_keeps, with_one, count_one}

-- ---- events

-- a packet that comes back at the end has come, and nothing is published by that
came : (i : ℕ) (es : List DaemonEvent) → 0 < visits_meanwhile i (es ++ Goes i ∷ [])
came i [] = subst (λ b. 0 < (if b then 1 else 0)) (sym (eq-eqb i i refl)) (omega arith)
came i (Goes k ∷ es) = by_test (i == k) (came i es)
  where
    by_test : (b : Bool) → 0 < visits_meanwhile i (es ++ Goes i ∷ []) → 0 < (if b then suc (visits_meanwhile i (es ++ Goes i ∷ [])) else visits_meanwhile i (es ++ Goes i ∷ []))
    by_test true lt = omega arith
    by_test false lt = lt
came i (Does h ∷ es) = came i es
came i (Rewires t ∷ es) = came i es

same_publications : (i : ℕ) (es : List DaemonEvent) → publications_meanwhile i (es ++ Goes i ∷ []) ≡ publications_meanwhile i es
same_publications i [] = refl
same_publications i (Goes k ∷ es) = same_publications i es
same_publications i (Does h ∷ es) = ap (λ (x : ℕ). if happening_publishes i h then suc x else x) (same_publications i es)
same_publications i (Rewires t ∷ es) = same_publications i es

-- ---- the feasible distance at which a router counts as having published

-- where it publishes nothing, that stays
same_fd : (p : Prefix) (w : Processes) (h : Happening) (fds : ℕ → ℕ) (i : ℕ) → happening_publishes i h ≡ false → fds_next p w h fds i ≡ fds i
same_fd p w (Publishes j) fds i quiet = ap (λ b. if b then (machine_of (w.routers j) p).fd else fds i) quiet
same_fd p w (PublishesSome j n) fds i quiet = ap (λ b. if b then fd_then p (take n (rows_due (w.routers j))) (w.routers j) (fds i) else fds i) quiet
same_fd p w (Forgets j k) fds i quiet = ap (λ b. if b && prefix_eq p k && may_forget k (w.routers j) then infinity else fds i) quiet
same_fd p w (BeginsAnew j costs attachments) fds i quiet = ap (λ b. if b then (machine_of (made_router costs attachments) p).fd else fds i) quiet
same_fd p w _ fds i quiet = refl

-- that of a router depends on its own before alone
own_fd : (p : Prefix) (w : Processes) (h : Happening) (fds fds' : ℕ → ℕ) (j : ℕ) → fds j ≡ fds' j → fds_next p w h fds j ≡ fds_next p w h fds' j
own_fd p w (Publishes i) fds fds' j e = ap (λ (x : ℕ). if j == i then (machine_of (w.routers i) p).fd else x) e
own_fd p w (PublishesSome i n) fds fds' j e = ap (λ (x : ℕ). if j == i then fd_then p (take n (rows_due (w.routers i))) (w.routers i) x else x) e
own_fd p w (Forgets i k) fds fds' j e = ap (λ (x : ℕ). if (j == i) && prefix_eq p k && may_forget k (w.routers i) then infinity else x) e
own_fd p w (BeginsAnew i costs attachments) fds fds' j e = ap (λ (x : ℕ). if j == i then (machine_of (made_router costs attachments) p).fd else x) e
own_fd p w _ fds fds' j e = e

-- ---- what bars the way back to a router while it publishes nothing

-- it counts as having published at a feasible distance that is not below that at which a packet left, and has published no row of a prefix of which the packet met
-- none there
record Bars (addr i : ℕ) (m : Moment) (l : Left addr) : Type 0 where
  fds : ℕ → ℕ
  inv : Invariant m.topology l.prefix fds m.processes
  above : l.distance ≤ fds i
  beside : (j : ℕ) → j ≢ i → fds j ≡ m.fd_published l.prefix j
  unknown : (q : Prefix) → l.rows q ≡ None → m.fd_published q i ≡ infinity

-- it stays so where the router does not publish
stays_barred : (m : Moment) → IsKept m → (h : Happening) → CanHappen m.processes h → (addr i : ℕ) (l : Left addr) → Bars addr i m l → happening_publishes i h ≡ false → Bars addr i (moment_next m h) l
stays_barred m K h can addr i l B quiet = record {
  fds = fds_next l.prefix m.processes h B.fds;
  inv = next_keeps m.topology l.prefix B.fds m.processes B.inv (K l.prefix).kept.orderly (K l.prefix).kept.placed h can;
  above = (let le = B.above in let same = same_fd l.prefix m.processes h B.fds i quiet in omega (arith, le, same));
  beside = λ j d. own_fd l.prefix m.processes h B.fds (m.fd_published l.prefix) j (B.beside j d);
  unknown = λ q none. same_fd q m.processes h (m.fd_published q) i quiet ∙ B.unknown q none;
}

-- and where ports get other neighbours
rewired_barred : (m : Moment) → IsKept m → (t : Topology) → MayRewire m.topology t m.processes → (addr i : ℕ) (l : Left addr) → Bars addr i m l → Bars addr i (moment_rewired m t) l
rewired_barred m K t R addr i l B = record { fds = B.fds; inv = rewired_keeps m.topology t l.prefix B.fds m.processes B.inv (K l.prefix).kept.orderly R; above = B.above; beside = B.beside; unknown = B.unknown }

module _ (leads : LeadsOn) (sound : Sound leads) where
  -- it is so where a packet leaves the router
  begins_barred : (m : Moment) (K : IsKept m) (addr i l : ℕ) (t : Met m i) (p : Prefix) (F : Forwards leads m i t addr p l) → Bars addr i m (left_by (hop leads sound m K addr i l t p F))
  begins_barred m K addr i l t p F = elim (cases_lt (m.fd_published p i) (fd_shown (t.is_new p) m p i)) [
    | inr le ↦ record { fds = m.fd_published p; inv = (K p).kept.invariant; above = le; beside = λ j d. refl; unknown = unknown }
    | inl lt ↦ record {
      fds = with_one i (fd_shown (t.is_new p) m p i) (m.fd_published p);
      inv = counted_keeps m.topology p (m.fd_published p) (with_one i (fd_shown (t.is_new p) m p i) (m.fd_published p)) m.processes (K p).kept.invariant
          (count_one i (fd_shown (t.is_new p) m p i) (m.fd_published p) (moment_fd m p) (record { least = omega (arith, lt); is = by_kind (t.is_new p) }));
      above = (let same : with_one i (fd_shown (t.is_new p) m p i) (m.fd_published p) i ≡ fd_shown (t.is_new p) m p i = ap (λ b. if b then fd_shown (t.is_new p) m p i else m.fd_published p i) (eq-eqb i i refl) in omega (arith, same));
      beside = λ j d. ap (λ b. if b then fd_shown (t.is_new p) m p i else m.fd_published p j) (ne_eqb j i d);
      unknown = unknown;
    }
  ]
    where
      by_kind : (b : Bool) → (fd_shown b m p i ≡ m.fd_published p i) ⊎ (fd_shown b m p i ≡ moment_fd m p i)
      by_kind true = inr refl
      by_kind false = inl refl

      unknown : (q : Prefix) → row_of prefix_cmp q t.table ≡ None → m.fd_published q i ≡ infinity
      unknown q none = by_row (row_of prefix_cmp q (rows_shown false m i)) refl
        where
          by_row : (o : Option Entry) → row_of prefix_cmp q (rows_shown false m i) ≡ o → m.fd_published q i ≡ infinity
          by_row None is = subst (λ (o : Option Entry). Fits o (m.fd_published q i)) is (fits m K false q i)
          by_row (Some e) is = absurd (false≢true (subst IsSome none ((t.written).has_all q (subst IsSome (sym is) refl))))

  -- so no packet that is on comes there
  stops : (m : Moment) (K : IsKept m) (addr i : ℕ) (l : Left addr) → Bars addr i m l → (k : ℕ) (t : Met m k) (q : Prefix) → Forwards leads m k t addr q i → IsOn addr l.prefix l.distance q (fd_shown (t.is_new q) m q k) → ⊥
  stops m K addr i l B k t q F O = elim (came_by l.by q (fd_shown (t.is_new q) m q k) O) [
    | inl same ↦ by_kind (t.is_new l.prefix) (subst (λ (x : Prefix). row_of prefix_cmp x (rows_shown (t.is_new x) m k) ≡ Some (F.by).entry) same.0 F.is_row) (subst (λ (x : Prefix). fd_shown (t.is_new x) m x k ≤ l.distance) same.0 same.1)
    | inr other ↦ (
        let top = B.unknown q other.2 in
        let low = H.lower false in
        let finite = H.finite in
        omega (arith, top, low, finite))
  ]
    where
      H : Hop addr q (fd_shown (t.is_new q) m q k) (λ x. row_of prefix_cmp x t.table) (λ d. fd_shown d m q i)
      H = hop leads sound m K addr k i t q F

      lead : session_leads m.topology m.processes k (F.by).entry ≡ Some i
      lead = leads_in leads sound m K addr k i t q F

      -- along a row of the prefix the feasible distance at which the router counts as having published is below that of the row
      by_kind : (b : Bool) → row_of prefix_cmp l.prefix (rows_shown b m k) ≡ Some (F.by).entry → fd_shown b m l.prefix k ≤ l.distance → ⊥
      by_kind true row le =
          let lt = (control_both m.topology l.prefix B.fds m.processes B.inv k (F.by).entry i row (leads_to m.topology l.prefix B.fds m.processes B.inv k (F.by).entry i lead)).1 in
          let above = B.above in
          omega (arith, lt, le, above)
      by_kind false row le =
          let lt = (published_both m.topology l.prefix B.fds m.processes B.inv k (F.by).entry i row (leads_to m.topology l.prefix B.fds m.processes B.inv k (F.by).entry i lead)).1 in
          let above = B.above in
          elim (cases_eq k i) [
            | inl e ↦ (let same = ap B.fds e in omega (arith, lt, same))
            | inr d ↦ (let same = B.beside k d in omega (arith, lt, same, le, above))
          ]

  -- ---- how often a packet comes back

  few : (m : Moment) → IsKept m → (addr i : ℕ) (q : Prefix) (k g : ℕ) (es : List DaemonEvent) → StaysNearAtDaemons (λ x f. x ≤ f) leads m addr q g k es → (w : Where addr (Bars addr i m) i q k g) → visits_meanwhile i es ≤ publications_meanwhile i es + spare w
  few m K addr i q k g [] C w = omega arith
  few m K addr i q k g (Goes l ∷ es) C w =
      let N = hop_counts (hop leads sound m K addr k l C.0 C.3 C.4) (λ x. Bars addr x m) i q k g w (λ top. C.1) (near_by m k C.0 q C.3 g C.2) l
      (begins_barred m K addr k l C.0 C.3 C.4) (λ x B. stops m K addr l x B k C.0 C.3 C.4) in
      count_hop (i == l) (visits_meanwhile i es) (publications_meanwhile i es) (spare N.0) (spare w) (few m K addr i C.3 l (fd_shown ((C.0).is_new C.3) m C.3 k) es C.5 N.0) N.1
  few m K addr i q k g (Does h ∷ es) C w =
      let N = wait_counts (Bars addr i m) (Bars addr i (moment_next m h)) i q k g (happening_publishes i h) (stays_barred m K h C.0 addr i) w in
      count_wait (happening_publishes i h) (visits_meanwhile i es) (publications_meanwhile i es) (spare N.0) (spare w) (few (moment_next m h) (kept_next m h K C.0) addr i q k g es C.1 N.0) N.1
  few m K addr i q k g (Rewires t ∷ es) C w =
      let N = wait_counts (Bars addr i m) (Bars addr i (moment_rewired m t)) i q k g false (λ l B quiet. rewired_barred m K t C.0 addr i l B) w in
      count_wait false (visits_meanwhile i es) (publications_meanwhile i es) (spare N.0) (spare w) (few (moment_rewired m t) (kept_rewired m t K C.0) addr i q k g es C.1 N.0) N.1

  seldom : (m : Moment) → IsKept m → ComesBackSeldomAtDaemons leads m
  seldom m K addr i k t p es F C =
      let le = few m K addr i p k (fd_shown (t.is_new p) m p i) es C (inr (leaves (hop leads sound m K addr i k t p F) (λ x. Bars addr x m) i (begins_barred m K addr i k t p F))) in
      omega (arith, le)

  once_published : (m : Moment) → IsKept m → ComesBackOncePublishedAtDaemons leads m
  once_published m K addr i k t p es C =
      let le = seldom m K addr i k t p (es ++ Goes i ∷ []) C.0 C.1 in
      let some = came i es in
      let same = same_publications i es in
      omega (arith, le, some, same)

-- ---- at every moment

pub always_published : HoldsAtEveryMoment (ComesBackOncePublishedAtDaemons session_leads)
always_published t w M = once_published session_leads marked (now t w M) (kept t w M)

pub always_unmarked_published : HoldsAtEveryMoment (ComesBackOncePublishedAtDaemons unmarked_leads)
always_unmarked_published t w M = once_published unmarked_leads unmarked_is (now t w M) (kept t w M)

pub always_seldom : HoldsAtEveryMoment (ComesBackSeldomAtDaemons session_leads)
always_seldom t w M = seldom session_leads marked (now t w M) (kept t w M)

pub always_unmarked_seldom : HoldsAtEveryMoment (ComesBackSeldomAtDaemons unmarked_leads)
always_unmarked_seldom t w M = seldom unmarked_leads unmarked_is (now t w M) (kept t w M)
