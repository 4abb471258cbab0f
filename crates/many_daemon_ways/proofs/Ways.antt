-- No packet meets a router twice between routers in processes of their own, whichever next hop each takes for it.
use Rattle.std.proofs.Common.{refl, sym, ap, subst, ◌∙◌, inl, inr, arith, ◌≡◌, ◌⊎◌, ℕ, ◌<◌, ◌≤◌, Bool, true, false, ◌&&◌, ◌==◌, if◌then◌else◌, List, Option, Some, None, eq-eqb}
use Rattle.no_packet_loops.proofs.Common.{find as row_of, None_not_Some, Some_injective, and_parts, and_from, Prefix, prefix_cmp, Entry, Via, Unreachable, NextHop, machine_of, is_up_at, Topology, LinkEnd, at_port, meets_twice, cases_lt}
use Rattle.network_model.specs.NextHops.{hops_at}
use Rattle.no_packet_loops.proofs.Walks.{match_is_row}
use Rattle.all_packets.specs.Packets.{IsWayBy}
use Rattle.all_packets.proofs.Improving.{Improves, LeadsBy, Goes}
use Rattle.many_ways.specs.{Network.Among, Packets.feasible_hops}
use Rattle.many_ways.proofs.{Shown.below_both, Feasible.FeasibleHop, Feasible.feasible_hop}
use Rattle.daemon_laws.specs.{Processes.Processes, Happenings.HoldsAlways, Moments.fds_reached}
use Rattle.daemon_laws.specs.Packets.{is_in_session, session_leads, lets_in, unmarked_leads, IsShut}
use Rattle.daemon_laws.proofs.{Seen.is_port_in, Moving.in_session, Orderly.Orderly, Shown.AllShown, Always.Always, Always.always}
use Rattle.daemon_laws.proofs.Invariant.{router_at, session_of, end_from, Invariant, links_far}
use Rattle.daemon_laws.proofs.Walks.{in_it, leads, published_both, unmarked as row_unmarked, let_in}
use Rattle.daemon_laws.proofs.Ways as ways
use Rattle.many_daemon_ways.specs.Packets.{MayGo, ByRow, ByHop, ByOld, NoHopCirclesAtDaemons, NoUnmarkedHopCircles}
use Rattle.many_daemon_ways.proofs.{Shown.showing, Kept.hop_shown, Kept.HopsShown, Kept.hops_always}

module _ (t : Topology) (w : Processes) (fds : Prefix → ℕ → ℕ) (A : (p : Prefix) → Always t p (fds p) w) (S : (p : Prefix) → HopsShown t p (fds p) w) where
  abbrev I : (p : Prefix) → Invariant t p (fds p) w
  I p = (A p).kept.invariant

  abbrev O : (p : Prefix) → Orderly t p w
  O p = (A p).kept.orderly

  abbrev K : (p : Prefix) → AllShown p w.routers (fds p)
  K p = (A p).shown

  -- the rows of router i, chosen or published, and the feasible distance that goes with them
  abbrev rows : Bool → ℕ → List (Prefix × Entry)
  rows = ways.rows t w fds I K

  abbrev fd_by : Bool → Prefix → ℕ → ℕ
  fd_by = ways.fd_by t w fds I K

  -- ---- a next hop that was published

  module _ (p : Prefix) (i k : ℕ) (h : NextHop) (a : Among h (hops_at p ((w.routers i).hops).published)) where
    -- along it the feasible distances fall, as they do along a row
    published_hop_falls : session_leads t w i (Via h.port h.session) ≡ Some k → ((machine_of (w.routers k) p).fd < fds p i) × (fds p k < fds p i)
    published_hop_falls lead =
        let v = showing p i h w in
        let J = (S p i h a).invariant in
        published_both t p (fds p) v J i (Via h.port h.session) k (hop_shown p i h w) (leads t p (fds p) v J i (Via h.port h.session) k lead)

    -- where a packet is let in, it leads in its session
    published_hop_unmarked : unmarked_leads t w i (Via h.port h.session) ≡ Some k → session_leads t w i (Via h.port h.session) ≡ Some k
    published_hop_unmarked lead =
        let v = showing p i h w in
        let B = S p i h a in
        row_unmarked t p (fds p) v B.invariant B.orderly i k (Via h.port h.session) (inl (hop_shown p i h w)) lead

  -- ---- a neighbour that is feasible now

  module _ (p : Prefix) (i : ℕ) (h : NextHop) (a : Among h (feasible_hops p (w.routers i))) where
    -- the end of its link
    abbrev e : LinkEnd
    e = at_port i h.port

    W : FeasibleHop p (w.routers i) h
    W = feasible_hop p (w.routers i) h a

    -- the router is in the session
    here : is_port_in p (w.routers i) h.port h.session ≡ true
    here = and_from (is_up_at (machine_of (w.routers i) p) h.port) (session_of w e == h.session) W.up (eq-eqb (session_of w e) h.session (sym W.session_is))

    -- the neighbour is at lesser feasible distances, and is in it too if it is in it or has not been
    below : t.valid e ≡ true → (is_port_in p (router_at w (t.far e)) (t.far e).port h.session ≡ true) ⊎ (w.last (t.far e) < h.session)
        → (is_port_in p (router_at w (t.far e)) (t.far e).port h.session ≡ true) × ((machine_of (router_at w (t.far e)) p).fd < (machine_of (w.routers i) p).fd) × (fds p (t.far e).router < (machine_of (w.routers i) p).fd)
    below va may =
        below_both (end_from t p h.session (fds p) w e) (end_from t p h.session (fds p) w (t.far e)) (machine_of (w.routers i) p).fd
        (let s = (I p).sound i in let b = s.fd_below in let c = s.rd_bounded in omega (arith, b, c)) (links_far (I p) e va h.session (inl here) may) here W.low

    -- along it the feasible distances fall
    feasible_hop_falls : (k : ℕ) → session_leads t w i (Via h.port h.session) ≡ Some k → ((machine_of (w.routers k) p).fd < (machine_of (w.routers i) p).fd) × (fds p k < (machine_of (w.routers i) p).fd)
    feasible_hop_falls k lead = by_test (t.valid e && is_in_session w (t.far e) h.session) refl lead
      where
        by_test : (b : Bool) → (t.valid e && is_in_session w (t.far e) h.session) ≡ b → (if b then Some (t.far e).router else None) ≡ Some k
            → ((machine_of (w.routers k) p).fd < (machine_of (w.routers i) p).fd) × (fds p k < (machine_of (w.routers i) p).fd)
        by_test false is g = absurd (None_not_Some g)
        by_test true is g =
            let both = and_parts (t.valid e) (is_in_session w (t.far e) h.session) is in
            let B = below both.0 (inl (in_it t p (fds p) w (I p) (t.far e) h.session both.1)) in
            subst (λ (x : ℕ). ((machine_of (w.routers x) p).fd < (machine_of (w.routers i) p).fd) × (fds p x < (machine_of (w.routers i) p).fd)) (Some_injective g) (B.1, B.2)

    -- where a packet is let in, the router across took last what was sent in its session
    session_let_in : t.valid e ≡ true → lets_in w (t.far e) ≡ true → h.session ≡ w.heard (t.far e)
    session_let_in va l =
        let f = t.far e in
        let last_here = (O p).up_last e W.up in
        let heard_here = (O p).heard_past e va in
        let last_there = (let_in t p (fds p) w (I p) (O p) f l).last_is in
        let seen = W.session_is in
        let reached : h.session ≤ w.last f = elim (cases_lt (w.last f) h.session) [
          | inr le ↦ le
          | inl lt ↦ absurd (let n = in_session p (router_at w f) f.port h.session (below va (inr lt)).0 in let b = (I p).last_is f in omega (arith, lt, n, b))
        ] in
        omega (arith, last_here, heard_here, last_there, seen, reached)

    -- so it leads in its session
    feasible_hop_unmarked : (k : ℕ) → unmarked_leads t w i (Via h.port h.session) ≡ Some k → session_leads t w i (Via h.port h.session) ≡ Some k
    feasible_hop_unmarked k lead = by_test (t.valid e) refl (lets_in w (t.far e)) refl lead
      where
        by_test : (b : Bool) → t.valid e ≡ b → (d : Bool) → lets_in w (t.far e) ≡ d → (if b && d then Some (t.far e).router else None) ≡ Some k → session_leads t w i (Via h.port h.session) ≡ Some k
        by_test false va d l g = absurd (None_not_Some g)
        by_test true va false l g = absurd (None_not_Some g)
        by_test true va true l g =
            ap (λ b. if b then Some (t.far e).router else None)
            (and_from (t.valid e) (is_in_session w (t.far e) h.session) va (ap (is_in_session w (t.far e)) (session_let_in va l) ∙ l))
            ∙ g

  -- ---- by rows and next hops

  -- a next hop that goes with chosen rows, or with published ones
  abbrev IsHopBy : Bool → Prefix → ℕ → NextHop → Type 0
  IsHopBy b p i h = Among h (if b then feasible_hops p (w.routers i) else hops_at p ((w.routers i).hops).published)

  -- along it the feasible distances fall
  hop_falls : (b c : Bool) (p : Prefix) (i k : ℕ) (h : NextHop) → IsHopBy b p i h → session_leads t w i (Via h.port h.session) ≡ Some k → fd_by c p k < fd_by b p i
  hop_falls true true p i k h a lead = (feasible_hop_falls p i h a k lead).0
  hop_falls true false p i k h a lead = (feasible_hop_falls p i h a k lead).1
  hop_falls false true p i k h a lead = (published_hop_falls p i k h a lead).0
  hop_falls false false p i k h a lead = (published_hop_falls p i k h a lead).1

  -- where a packet is let in, it leads in its session
  hop_unmarked : (b : Bool) (p : Prefix) (i k : ℕ) (h : NextHop) → IsHopBy b p i h → unmarked_leads t w i (Via h.port h.session) ≡ Some k → session_leads t w i (Via h.port h.session) ≡ Some k
  hop_unmarked true p i k h a lead = feasible_hop_unmarked p i h a k lead
  hop_unmarked false p i k h a lead = published_hop_unmarked p i k h a lead

  module _ (goes : ℕ → Entry → Option ℕ) where
    -- router i may send a packet to router k by a row of the prefix, or by a next hop beside it
    abbrev MayLead : Bool → Prefix → ℕ → ℕ → Type 0
    MayLead b p i k = LeadsBy rows goes b p i k ⊎ ((h : NextHop) × IsHopBy b p i h × (goes i (Via h.port h.session) ≡ Some k))

    module _ (rows_mean : (b : Bool) (p : Prefix) (i k : ℕ) (e : Entry) → row_of prefix_cmp p (rows b i) ≡ Some e → goes i e ≡ Some k → session_leads t w i e ≡ Some k) (hops_mean : (b : Bool) (p : Prefix) (i k : ℕ) (h : NextHop) → IsHopBy b p i h → goes i (Via h.port h.session) ≡ Some k → session_leads t w i (Via h.port h.session) ≡ Some k) where
      falls : (b c : Bool) (p : Prefix) (i k : ℕ) → MayLead b p i k → fd_by c p k < fd_by b p i
      falls b c p i k (inl (e, row, lead)) = ways.falls t w fds I K b c p i k e row (rows_mean b p i k e row lead)
      falls b c p i k (inr (h, a, lead)) = hop_falls b c p i k h a (hops_mean b p i k h a lead)

      -- so packets get nearer
      improves : Improves rows MayLead fd_by
      improves = record {
        in_order = ways.in_order t w fds I K;
        falls = falls;
        ahead = λ b c p i k l. ways.has_row t w fds I K c p k (let f = falls b c p i k l in let top = ways.bounded t w fds I K b p i in omega (arith, f, top));
      }

      module _ (nowhere : (i : ℕ) → goes i Unreachable ≡ None) (enters : (i k : ℕ) (e : Entry) → goes i e ≡ Some k → ways.Entered t w fds I K k) (addr : ℕ) where
        -- each hop of a packet is one by a row or a next hop, unless it goes from a router that is shut
        means : (i k : ℕ) → MayGo goes w addr i k → Goes rows MayLead fd_by improves addr i k ⊎ IsShut w i
        means i k (ByRow table row H m lead) = elim (H.is_known row.0 row.1 (match_is_row addr row.0 row.1 table H.in_order m)) [
          | inl published ↦ inl (ways.by_table t w fds I K MayLead improves addr false i k table H row m (inl (row.1, published, lead)))
          | inr (inl chosen) ↦ inl (ways.by_table t w fds I K MayLead improves addr true i k table H row m (inl (row.1, chosen, lead)))
          | inr (inr nothing) ↦ absurd (None_not_Some (sym (nowhere i) ∙ ap (goes i) (sym nothing) ∙ lead))
        ]
        means i k (ByHop table row hop H m is lead) = elim is [
          | inl published ↦ inl (ways.by_table t w fds I K MayLead improves addr false i k table H row m (inr (hop, published, lead)))
          | inr feasible ↦ inl (ways.by_table t w fds I K MayLead improves addr true i k table H row m (inr (hop, feasible, lead)))
        ]
        means i k (ByOld entry shut lead) = inr shut

        -- and goes to a router of which a port is up
        goes_in : (i k : ℕ) → MayGo goes w addr i k → ways.Entered t w fds I K k
        goes_in i k (ByRow table row H m lead) = enters i k row.1 lead
        goes_in i k (ByHop table row hop H m is lead) = enters i k (Via hop.port hop.session) lead
        goes_in i k (ByOld entry shut lead) = enters i k entry lead

        no_circle : (way : List ℕ) → IsWayBy (MayGo goes w addr) way → meets_twice way ≡ false
        no_circle = ways.once t w fds I K MayLead improves addr (MayGo goes w addr) means goes_in

  -- so no packet meets a router twice, where packets carry a session
  marked : NoHopCirclesAtDaemons t w
  marked = no_circle (session_leads t w) (λ b p i k e row lead. lead) (λ b p i k h a lead. lead) (λ i. refl) (ways.entered_marked t w fds I K)

  -- nor where they carry none
  unmarked : NoUnmarkedHopCircles t w
  unmarked = no_circle (unmarked_leads t w) (ways.unmarked_means t w fds I K O) hop_unmarked (λ i. refl) (ways.entered_unmarked t w fds I K)

-- at every moment
pub no_hop_circles : HoldsAlways NoHopCirclesAtDaemons
no_hop_circles t w M = marked t w (fds_reached t w M) (λ p. always p t w M) (λ p. hops_always p t w M)

pub no_unmarked_hop_circles : HoldsAlways NoUnmarkedHopCircles
no_unmarked_hop_circles t w M = unmarked t w (fds_reached t w M) (λ p. always p t w M) (λ p. hops_always p t w M)
