-- A packet that moves between processes: matches get longer, or stay and feasible distances fall, while it stays near.
use Rattle.std.proofs.Common.{refl, sym, ap, subst, ◌∙◌, inl, inr, arith, ◌<◌, ◌≤◌, ◌≡◌, ◌⊎◌, ℕ, Bool, true, false, ◌&&◌, ◌||◌, if◌then◌else◌, take, is_some, eq-eqb, ne_eqb, List, [], ◌∷◌, ◌++◌, Option, Some, None, IsSome}
use Rattle.no_packet_loops.proofs.Common.{false≢true, prefix_eq, Prefix, prefix_cmp, covers, infinity, Entry, Via, Topology, None_not_Some, Some_injective, or_parts, machine_of, longest_match-found}
use Rattle.all_packets.proofs.{Known.Fits, Known.chosen_fits, Matches.GoesBefore, Matches.found}
use Rattle.moving_packets.specs.Moving.{IsBetter}
use Rattle.moving_packets.proofs.Returns.{IsLow, stays_low as low_next, meets_low, IsOn, Hop, first_on, goes_on, finds_better}
use Rattle.daemon_laws.specs.{Processes.Processes, Packets.session_leads, Packets.unmarked_leads, Facts.fd_then}
use Rattle.daemon_laws.specs.Happenings.{Happening, Publishes, PublishesSome, Forgets, BeginsAnew, CanHappen, MayRewire, AreReached}
use Rattle.network_model.proofs.Common.{cases_eq, find as row_of}
use Rattle.router_core.specs.Alone.{may_forget, rows_due}
use Rattle.single_router.specs.Openings.{made_router}
use Rattle.daemon_laws.proofs.Always.{Always, always, always_next, always_rewired}
use Rattle.daemon_laws.proofs.Ways.{falls, has_row}
use Rattle.daemon_laws.proofs.Walks.{unmarked}
use Rattle.moving_daemon_packets.specs.Moving.{Moment, moment_next, moment_rewired, now, HoldsAtEveryMoment, DaemonEvent, Goes, Does, Rewires, moment_after, LeadsOn, moment_fd, rows_shown, fd_shown, Met, Forwards, happening_raises, published_rises, loses_all, StaysNearAtDaemons, IsCalmAtDaemons, CalmStaysNearAtDaemons, ComesBackForBetterAtDaemons}

-- what holds at each moment
abbrev pub IsKept : Moment → Type 0
IsKept m = (p : Prefix) → Always m.topology p (m.fd_published p) m.processes

pub kept_next : (m : Moment) (h : Happening) → IsKept m → CanHappen m.processes h → IsKept (moment_next m h)
kept_next m h K can p = always_next m.topology p (m.fd_published p) m.processes h (K p) can

-- also where ports get other neighbours
pub kept_rewired : (m : Moment) (t : Topology) → IsKept m → MayRewire m.topology t m.processes → IsKept (moment_rewired m t)
kept_rewired m t K R p = always_rewired m.topology t p (m.fd_published p) m.processes (K p) R

-- ---- the published feasible distance

-- where a router neither forgets nor begins anew, it stays, or becomes the one that was chosen
stays_or_chosen : (m : Moment) (h : Happening) (p : Prefix) (k : ℕ) → loses_all k h ≡ false
    → ((moment_next m h).fd_published p k ≡ m.fd_published p k) ⊎ ((moment_next m h).fd_published p k ≡ moment_fd m p k)
stays_or_chosen m (Publishes i) p k keeps = elim (cases_eq k i) [
  | inl e ↦ inr (rw (eq-eqb k i e) (ap (λ (j : ℕ). (machine_of ((m.processes).routers j) p).fd) (sym e)))
  | inr d ↦ inl (rw (ne_eqb k i d) refl)
]
stays_or_chosen m (PublishesSome i n) p k keeps = elim (cases_eq k i) [
  | inl e ↦ by_row e (is_some (row_of prefix_cmp p (take n (rows_due ((m.processes).routers i))))) refl
  | inr d ↦ inl (rw (ne_eqb k i d) refl)
]
  where
    next_is : k ≡ i → (moment_next m (PublishesSome i n)).fd_published p k ≡ fd_then p (take n (rows_due ((m.processes).routers i))) ((m.processes).routers i) (m.fd_published p k)
    next_is e = ap (λ b. if b then fd_then p (take n (rows_due ((m.processes).routers i))) ((m.processes).routers i) (m.fd_published p k) else m.fd_published p k) (eq-eqb k i e)

    by_row : k ≡ i → (b : Bool) → is_some (row_of prefix_cmp p (take n (rows_due ((m.processes).routers i)))) ≡ b
        → ((moment_next m (PublishesSome i n)).fd_published p k ≡ m.fd_published p k) ⊎ ((moment_next m (PublishesSome i n)).fd_published p k ≡ moment_fd m p k)
    by_row e true is = inr (next_is e ∙ ap (λ b. if b then (machine_of ((m.processes).routers i) p).fd else m.fd_published p k) is ∙ ap (λ (j : ℕ). (machine_of ((m.processes).routers j) p).fd) (sym e))
    by_row e false is = inl (next_is e ∙ ap (λ b. if b then (machine_of ((m.processes).routers i) p).fd else m.fd_published p k) is)
stays_or_chosen m (Forgets i q) p k keeps = inl (ap (λ b. if b && prefix_eq p q && may_forget q ((m.processes).routers i) then infinity else m.fd_published p k) keeps)
stays_or_chosen m (BeginsAnew i costs attachments) p k keeps = inl (ap (λ b. if b then (machine_of (made_router costs attachments) p).fd else m.fd_published p k) keeps)
stays_or_chosen m _ p k keeps = inl refl

-- so both stay low where no rise is published
stays_low : (m : Moment) (h : Happening) (p : Prefix) (risen : Bool) (k g : ℕ) → ((risen || loses_all k h) && published_rises m h p k) ≡ false → IsLow (m.fd_published p k) (moment_fd m p k) risen g
    → IsLow ((moment_next m h).fd_published p k) (moment_fd (moment_next m h) p k) (risen || happening_raises m h p k) g
stays_low m h p risen k g = low_next (m.fd_published p k) (moment_fd m p k) ((moment_next m h).fd_published p k) (moment_fd (moment_next m h) p k) risen (risen || loses_all k h) g
    (λ e. (let none = or_parts risen (loses_all k h) e in (none.0, stays_or_chosen m h p k none.1)))

-- entries of rows, published or chosen, lead on to routers in the session of the row
abbrev pub Sound : LeadsOn → Type 0
Sound leads = (m : Moment) → IsKept m → (b : Bool) (p : Prefix) (i k : ℕ) (e : Entry) → row_of prefix_cmp p (rows_shown b m i) ≡ Some e → leads m.topology m.processes i e ≡ Some k → session_leads m.topology m.processes i e ≡ Some k

-- where packets carry the session of the row
pub marked : Sound session_leads
marked m K b p i k e row lead = lead

-- and where they carry none
pub unmarked_is : Sound unmarked_leads
unmarked_is m K true p i k e row lead = unmarked m.topology p (m.fd_published p) m.processes (K p).kept.invariant (K p).kept.orderly i k e (inr row) lead
unmarked_is m K false p i k e row lead = unmarked m.topology p (m.fd_published p) m.processes (K p).kept.invariant (K p).kept.orderly i k e (inl row) lead

module _ (m : Moment) (K : IsKept m) where
  -- a router whose feasible distance is below infinity has a row that goes with it
  pub row_there : (c : Bool) (p : Prefix) (i : ℕ) → fd_shown c m p i < infinity → IsSome (row_of prefix_cmp p (rows_shown c m i))
  row_there c p i lt =
      let here = has_row m.topology m.processes m.fd_published (λ x. (K x).kept.invariant) (λ x. (K x).shown) c p i lt in
      subst IsSome (sym here.1) refl

  -- the feasible distance fits the row
  pub fits : (c : Bool) (p : Prefix) (i : ℕ) → Fits (row_of prefix_cmp p (rows_shown c m i)) (fd_shown c m p i)
  fits true p i = chosen_fits p ((m.processes).routers i) ((K p).shown i).follows ((K p).kept.invariant.sound i)
  fits false p i = ((K p).shown i).fits

-- a row by which a packet goes on is near, if it is of the prefix by which the packet came
pub near_by : (m : Moment) (k : ℕ) (t : Met m k) (q q' : Prefix) (g : ℕ) → fd_shown (t.is_new q) m q k ≤ g → q' ≡ q → fd_shown (t.is_new q') m q' k ≤ g
near_by m k t q q' g near same = subst (λ (x : Prefix). fd_shown (t.is_new x) m x k ≤ g) (sym same) near

module _ (leads : LeadsOn) (sound : Sound leads) where
  module _ (m : Moment) (K : IsKept m) (addr i k : ℕ) (t : Met m i) (p : Prefix) (F : Forwards leads m i t addr p k) where
    -- the row leads to the other router in its session
    pub leads_in : session_leads m.topology m.processes i (F.by).entry ≡ Some k
    leads_in = sound m K (t.is_new p) p i k (F.by).entry F.is_row (F.by).leads

    -- a packet that goes on makes a hop, along which feasible distances fall
    pub hop : Hop addr p (fd_shown (t.is_new p) m p i) (λ q. row_of prefix_cmp q t.table) (λ d. fd_shown d m p k)
    hop = record {
      covered = (longest_match-found addr t.table (p, (F.by).entry) (F.by).matched).covered;
      finite = by_entry (F.by).entry (subst (λ (o : Option Entry). Fits o (fd_shown (t.is_new p) m p i)) F.is_row (fits m K (t.is_new p) p i)) leads_in;
      before = λ q c some. by_row q c (row_of prefix_cmp q t.table) refl some;
      lower = λ d. falls m.topology m.processes m.fd_published (λ x. (K x).kept.invariant) (λ x. (K x).shown) (t.is_new p) d p i k (F.by).entry F.is_row leads_in;
    }
      where
        by_entry : (e : Entry) → Fits (Some e) (fd_shown (t.is_new p) m p i) → session_leads m.topology m.processes i e ≡ Some k → fd_shown (t.is_new p) m p i < infinity
        by_entry (Via q session) below lead = below
        by_entry _ f lead = absurd (None_not_Some lead)

        by_row : (q : Prefix) → covers q addr ≡ true → (o : Option Entry) → row_of prefix_cmp q t.table ≡ o → IsSome o → GoesBefore p q
        by_row q c None is none = absurd (false≢true none)
        by_row q c (Some e) is some =
            let D = found addr q e t.table (t.written).in_order is c in
            subst (λ (x : Prefix × Entry). GoesBefore x.0 q) (Some_injective (sym D.matched ∙ (F.by).matched)) D.before

  -- whatever happens before it comes back
  module _ (m0 : Moment) (K0 : IsKept m0) (addr i k0 : ℕ) (t0 : Met m0 i) (p : Prefix) (F0 : Forwards leads m0 i t0 addr p k0) (d : Bool) where
    abbrev f0 : ℕ
    f0 = fd_shown (t0.is_new p) m0 p i

    -- where it goes on, it is so at the next router
    next_on : (m : Moment) → IsKept m → (k l : ℕ) (t : Met m k) (q' : Prefix) → Forwards leads m k t addr q' l → (q : Prefix) (g : ℕ) → IsOn addr p f0 q g → IsSome (row_of prefix_cmp q t.table) → fd_shown (t.is_new q) m q k ≤ g
        → IsOn addr p f0 q' (fd_shown (t.is_new q') m q' k)
    next_on m K k l t q' F q g O known near = goes_on (hop m K addr k l t q' F) p f0 q g O (λ top. known) (near_by m k t q q' g near)

    returns : (m : Moment) → IsKept m → (q : Prefix) (k g : ℕ) (es : List DaemonEvent) → IsOn addr p f0 q g → StaysNearAtDaemons (λ x f. x ≤ f) leads m addr q g k (es ++ Goes i ∷ [])
        → IsBetter addr p f0 (fd_shown d (moment_after m es) p i) (λ x. row_of prefix_cmp x t0.table) (λ x. row_of prefix_cmp x (rows_shown d (moment_after m es) i))
    returns m K q k g [] O C =
        let H = hop m K addr k i C.0 C.3 C.4 in
        let low = H.lower d in
        let top = H.finite in
        finds_better (hop m0 K0 addr i k0 t0 p F0) C.3 (fd_shown ((C.0).is_new C.3) m C.3 k) (next_on m K k i C.0 C.3 C.4 q g O C.1 C.2)
        (λ x. fd_shown d m x i) (λ x. row_of prefix_cmp x (rows_shown d m i)) low (row_there m K d C.3 i (omega (arith, low, top)))
    returns m K q k g (Goes l ∷ es) O C = returns m K C.3 l (fd_shown ((C.0).is_new C.3) m C.3 k) es (next_on m K k l C.0 C.3 C.4 q g O C.1 C.2) C.5
    returns m K q k g (Does h ∷ es) O C = returns (moment_next m h) (kept_next m h K C.0) q k g es O C.1
    returns m K q k g (Rewires t ∷ es) O C = returns (moment_rewired m t) (kept_rewired m t K C.0) q k g es O C.1

  pub for_better : (m : Moment) → IsKept m → ComesBackForBetterAtDaemons leads m
  for_better m K addr i k t p d es C = returns m K addr i k t p C.0 d m K p k (fd_shown (t.is_new p) m p i) es (first_on (hop m K addr i k t p C.0)) C.1

  -- ---- where no rise is shown, it stays near

  -- where it comes, the feasible distances are below that of the row
  comes_low : (m : Moment) (K : IsKept m) (addr i k : ℕ) (t : Met m i) (p : Prefix) → Forwards leads m i t addr p k → IsLow (m.fd_published p k) (moment_fd m p k) false (fd_shown (t.is_new p) m p i)
  comes_low m K addr i k t p F = let H = hop m K addr i k t p F in record { published = H.lower false; chosen = λ e. H.lower true }

  stays_near : (m : Moment) → IsKept m → (addr : ℕ) (q : Prefix) (risen : Bool) (k g : ℕ) (es : List DaemonEvent) → g < infinity → IsLow (m.fd_published q k) (moment_fd m q k) risen g → IsCalmAtDaemons leads m addr q risen k es
      → StaysNearAtDaemons (λ x f. x < f) leads m addr q g k es
  stays_near m K addr q risen k g [] top W C = W.published
  stays_near m K addr q risen k g (Goes l ∷ es) top W C = (
    C.0,
    ((C.0).written).has_all q (row_there m K false q k (let low = W.published in omega (arith, low, top))),
    meets_low risen ((C.0).is_new q) (m.fd_published q k) (moment_fd m q k) g C.1 W,
    C.2,
    C.3,
    stays_near m K addr C.2 false l (fd_shown ((C.0).is_new C.2) m C.2 k) es (hop m K addr k l C.0 C.2 C.3).finite (comes_low m K addr k l C.0 C.2 C.3) C.4,
  )
  stays_near m K addr q risen k g (Does h ∷ es) top W C = (C.0, stays_near (moment_next m h) (kept_next m h K C.0) addr q (risen || happening_raises m h q k) k g es top (stays_low m h q risen k g C.1 W) C.2)
  stays_near m K addr q risen k g (Rewires t ∷ es) top W C = (C.0, stays_near (moment_rewired m t) (kept_rewired m t K C.0) addr q risen k g es top (record { published = W.published; chosen = W.chosen }) C.1)

  calm_near : (m : Moment) → IsKept m → CalmStaysNearAtDaemons leads m
  calm_near m K addr i k t p es F C = stays_near m K addr p false k (fd_shown (t.is_new p) m p i) es (hop m K addr i k t p F).finite (comes_low m K addr i k t p F) C

-- ---- at every moment

pub kept : (t : Topology) (w : Processes) (M : AreReached t w) → IsKept (now t w M)
kept t w M p = always p t w M

pub always_marked : HoldsAtEveryMoment (ComesBackForBetterAtDaemons session_leads)
always_marked t w M = for_better session_leads marked (now t w M) (kept t w M)

pub always_unmarked : HoldsAtEveryMoment (ComesBackForBetterAtDaemons unmarked_leads)
always_unmarked t w M = for_better unmarked_leads unmarked_is (now t w M) (kept t w M)

pub always_calm : HoldsAtEveryMoment (CalmStaysNearAtDaemons session_leads)
always_calm t w M = calm_near session_leads marked (now t w M) (kept t w M)

pub always_unmarked_calm : HoldsAtEveryMoment (CalmStaysNearAtDaemons unmarked_leads)
always_unmarked_calm t w M = calm_near unmarked_leads unmarked_is (now t w M) (kept t w M)
