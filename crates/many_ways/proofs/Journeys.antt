-- Where no router takes anything, no hop comes that was not there: each journey is a way of the world in which it begins.
use Rattle.std.proofs.Common.{refl, sym, ap, subst, ◌∙◌, inl, inr, arith, ◌≡◌, ◌≤◌, ℕ, Bool, true, false, ◌||◌, ◌==◌, List, [], ◌∷◌, ◌++◌, Option, Some, None, is_some, slice_get, slice_set, option_map, length, eqb-true, eq-eqb}
use Rattle.no_packet_loops.proofs.Common.{option_map_or, slice_get_within, false≢true, Prefix, longest_match, Entry, Via, Held, Link, Router, World, Network, Place, place_at, opening, session_at, changed_at, changed_link, with_cost, with_message, with_released, router_publishing, router_releasing, Lawful, next, Runs, History, history, history_from, with_step, published_after, None_not_Some, slice_get-changed_at, slice_get-changed_at_other, routers-changed_link, NextHop, at_port, lay, view, Step, SetCost, Deliver, Publish, Release, IsNetwork, lawful_seen, LinkUp, LinkDown, Attach, Detach}
use Rattle.network_model.proofs.Common.{both_ways}
use Rattle.no_packet_loops.specs.Packets.{mixture_rows}
use Rattle.no_packet_loops.proofs.{Wiring.IsWired, Wiring.wired, Places.topology, View.on_link-there, View.on_router-there, View.changed-same, WorldLaws.runs_more, WorldLaws.steps_more}
use Rattle.no_packet_loops.proofs.Runs.{Reached, place_is, set_beside, set_here, history_world}
use Rattle.all_packets.specs.Journeys.{is_taking, Event, Goes, Does, routers_met}
use Rattle.all_packets.proofs.Journeys.{step_before, kind_before, rows_before, NoneLater, none_later}
use Rattle.many_ways.specs.{Network.Among, Journeys.IsHopJourney, Journeys.NoHopJourneyCircles}
use Rattle.many_ways.specs.Packets.{MayGoByFeasible, IsFeasibleHopWay, HoldsInEveryHistory, feasible_hops, routers_by, feasible_by}
use Rattle.many_ways.proofs.{Walks.hop_old, Packets.always_no_feasible_circles, Feasible.FeasibleHop, Feasible.feasible_hop}
use Rattle.many_ways.proofs.Runs.{WideReached, wide_reached, wide_view}

-- the next hops that are feasible in one history are those that are in another with the same routers
same_hops : (h h' : History) (i : ℕ) (b : Bool) (p : Prefix) → (h'.world).routers ≡ (h.world).routers → h'.published ≡ h.published → feasible_by b h' i p ≡ feasible_by b h i p
same_hops h h' i b p routers published = ap (λ (rs : List Router). option_map_or (feasible_hops p) (slice_get rs i) []) (by_kind b)
  where
    by_kind : (c : Bool) → routers_by c h' ≡ routers_by c h
    by_kind true = routers
    by_kind false = published

-- the feasible next hops after a step are those of before it that go with the rows of the same kind
hops_before : (h : History) (s : Step) → length h.published ≡ length (h.world).routers → Lawful h.world s → is_taking s ≡ false → (i : ℕ) (b : Bool) (p : Prefix) → feasible_by b (with_step h s) i p ≡ feasible_by (kind_before s i b) h i p
hops_before h (LinkUp l) C L still i b p = same_hops h (with_step h (LinkUp l)) i b p refl refl
hops_before h (LinkDown l) C L still i b p = same_hops h (with_step h (LinkDown l)) i b p refl refl
hops_before h (SetCost i' q c) C L still i b p = same_hops h (with_step h (SetCost i' q c)) i b p (routers-changed_link i' q (with_cost c) h.world) refl
hops_before h (Deliver i' q) C L still i b p = absurd (false≢true (sym still))
hops_before h (Publish i') C L still i b p = by_router (i == i') refl b
  where
    is_set : published_after h.world h.published (Publish i') ≡ slice_set h.published i' L.0
    is_set = ap (λ o. option_map_or (λ (y : Router). slice_set h.published i' y) o h.published) L.1

    -- where it publishes, it has the feasible next hops of the router that published
    now : i ≡ i' → feasible_by true h i p ≡ feasible_hops p L.0
    now e = ap (λ (o : Option Router). option_map_or (feasible_hops p) o []) (ap (slice_get (h.world).routers) e ∙ L.1)

    by_router : (a : Bool) → (i == i') ≡ a → (c : Bool) → feasible_by c (with_step h (Publish i')) i p ≡ feasible_by (a || c) h i p
    by_router true is true =
        let e = eqb-true i i' is in
        ap (λ (o : Option Router). option_map_or (feasible_hops p) o []) (ap (slice_get (changed_at i' router_publishing (h.world).routers)) e ∙ slice_get-changed_at router_publishing i' (h.world).routers ∙ ap (option_map router_publishing) L.1) ∙ sym (now e)
    by_router true is false =
        let e = eqb-true i i' is in
        let lt = slice_get_within (h.world).routers i' L.0 L.1 in
        ap (λ (o : Option Router). option_map_or (feasible_hops p) o []) (ap (λ (rs : List Router). slice_get rs i) is_set ∙ ap (slice_get (slice_set h.published i' L.0)) e ∙ set_here h.published i' L.0 (omega (arith, lt, C))) ∙ sym (now e)
    by_router false off true = ap (λ (o : Option Router). option_map_or (feasible_hops p) o []) (slice_get-changed_at_other router_publishing i' i (h.world).routers (λ e. both_ways (i == i') off (eq-eqb i i' e)))
    by_router false off false = ap (λ (o : Option Router). option_map_or (feasible_hops p) o []) (ap (λ (rs : List Router). slice_get rs i) is_set ∙ set_beside h.published i' i L.0 (λ e. both_ways (i == i') off (eq-eqb i i' e)))
hops_before h (Release i') C L still i b p = by_kind b
  where
    by_kind : (c : Bool) → feasible_by c (with_step h (Release i')) i p ≡ feasible_by c h i p
    by_kind true = subst (λ (o : Option Held). option_map_or (feasible_hops p) (slice_get (option_map_or (with_released i' h.world) o h.world).routers i) [] ≡ feasible_by true h i p) (sym L.1)
        (changed-same (feasible_hops p) [] router_releasing i' i (changed_link i' (L.0).port (with_message L.0) h.world).routers (λ r _ _. refl)
        ∙ ap (λ (rs : List Router). option_map_or (feasible_hops p) (slice_get rs i) []) (routers-changed_link i' (L.0).port (with_message L.0) h.world))
    by_kind false = refl
hops_before h (Attach i' q c) C L still i b p = same_hops h (with_step h (Attach i' q c)) i b p refl refl
hops_before h (Detach i' q) C L still i b p = same_hops h (with_step h (Detach i' q)) i b p refl refl

-- no feasible next hop is of a session after that of its link
abbrev NoHopLater : History → Type 0
NoHopLater h = (b : Bool) (i : ℕ) (p : Prefix) (o : NextHop) → Among o (feasible_by b h i p) → (x : Place) → place_at h.world i o.port ≡ Some x → (j : Link) → slice_get (h.world).links x.link ≡ Some j → o.session ≤ j.session

-- where no router takes anything, a packet goes on after a step only where it may before it
may_before : (h : History) (s : Step) → NoneLater h.world → NoHopLater h → length h.published ≡ length (h.world).routers → Lawful h.world s → is_taking s ≡ false
    → (addr i k : ℕ) → ((b : Bool) × MayGoByFeasible (with_step h s) b addr i k) → (b : Bool) × MayGoByFeasible h b addr i k
may_before h s N W C L still addr i k (b, M) =
    let match : longest_match addr (mixture_rows (λ x. kind_before s i b) h.world i) ≡ Some (M.prefix, M.entry) = ap (longest_match addr) (sym (rows_before h.world s L still i b)) ∙ M.matched in (
      kind_before s i b,
      record {
        prefix = M.prefix;
        entry = M.entry;
        matched = match;
        leads = elim M.leads [
          | inl l ↦ inl (step_before h.world s L still i M.entry (λ q m via x at_x j at. N addr i (kind_before s i b) M.prefix q m (match ∙ ap (λ (y : Entry). Some (M.prefix, y)) via) x at_x j at) k l)
          | inr o ↦
              let a : Among o.0 (feasible_by (kind_before s i b) h i M.prefix) = subst (Among o.0) (hops_before h s C L still i b M.prefix) o.1 in
              inr (
                o.0,
                a,
                step_before h.world s L still i (Via (o.0).port (o.0).session) (λ q m via x at_x j at.
                    let port : (o.0).port ≡ q = port_same via in
                    let le = W (kind_before s i b) i M.prefix o.0 a x (ap (λ (y : ℕ). place_at h.world i y) port ∙ at_x) j at in
                    let session : (o.0).session ≡ m = session_same via in
                    omega (arith, le, session)) k o.2,
              )
        ];
      },
    )
  where
    port_same : {q m q' m' : ℕ} → ◌≡◌ {A = Entry} (Via q m) (Via q' m') → q ≡ q'
    port_same e = cc

    session_same : {q m q' m' : ℕ} → ◌≡◌ {A = Entry} (Via q m) (Via q' m') → m ≡ m'
    session_same e = cc

module _ (n : Network) (ss : List Step) (v : World) (valid : IsNetwork n) (r : Runs (opening n) ss v) where
  abbrev N : IsWired n
  N = wired n valid

  abbrev h : History
  h = history n ss

  abbrev w : World
  w = h.world

  abbrev X : (p : Prefix) → WideReached n N p w h.published
  X p = wide_reached n N p ss v r

  -- none is of a later session
  no_hop_later : NoHopLater h
  no_hop_later b i p o a x at_x j at_j = by_kind b a
    where
      R : Reached n N p w h.published
      R = (X p).reached

      laid_is : lay n (at_port i o.port) ≡ Some x
      laid_is = sym (place_is n p w (X p).reached.kept i o.port) ∙ at_x

      session_is : (view n p w (X p).reached.published_fd).session (at_port i o.port) ≡ j.session
      session_is = on_link-there (λ en y. y.session) 0 w.links (lay n (at_port i o.port)) x j laid_is at_j

      by_router : (y : Option Router) → slice_get w.routers i ≡ y → Among o (option_map_or (feasible_hops p) y []) → o.session ≤ j.session
      by_router None at g = absurd (None_not_Some g.1)
      by_router (Some q) at g =
          let Y : FeasibleHop p q o = feasible_hop p q o g in
          let seen : (view n p w (X p).reached.published_fd).seen (at_port i o.port) ≡ session_at q.ports o.port = on_router-there (λ y. session_at y.ports o.port) 0 w.routers i q at in
          let le = lawful_seen _ _ _ _ _ ((X p).reached.inv.lawful (at_port i o.port) (ap is_some laid_is)) in
          let is = Y.session_is in
          omega (arith, seen, le, is, session_is)

      by_kind : (c : Bool) → Among o (feasible_by c h i p) → o.session ≤ j.session
      by_kind true g = by_router (slice_get w.routers i) refl g
      by_kind false g = (let le = hop_old (topology n N) (wide_view n p w h.published (X p).reached.published_fd) (X p).wide i o g (ap is_some laid_is) in omega (arith, le, session_is))

  -- as many routers have published as there are
  count : length h.published ≡ length w.routers
  count = (X (record { addr = 0; len = 0 })).reached.count

  -- a way after a step in which no router takes anything is a way before it
  way_before : (s : Step) → Lawful w s → is_taking s ≡ false → (addr : ℕ) (way : List ℕ) → IsFeasibleHopWay (with_step h s) addr way → IsFeasibleHopWay h addr way
  way_before s L still addr (i ∷ k ∷ ks) g = (
    may_before h s (subst NoneLater (sym (history_world n ss v r)) (none_later n ss v valid r)) no_hop_later count L still addr i k g.0,
    way_before s L still addr (k ∷ ks) g.1,
  )
  way_before s L still addr _ g = tt

-- each journey is a way of the world in which it begins
as_way : (n : Network) → IsNetwork n → (ss : List Step) (w : World) → Runs (opening n) ss w → (addr i : ℕ) (es : List Event) → IsHopJourney (history n ss) addr i es → IsFeasibleHopWay (history n ss) addr (i ∷ routers_met es)
as_way n valid ss w r addr i [] g = tt
as_way n valid ss w r addr i (Goes k ∷ es) g = (g.0, as_way n valid ss w r addr k es g.1)
as_way n valid ss w r addr i (Does s ∷ es) g =
    let more = steps_more (history_from (opening n)) ss s in
    let L : Lawful w s = subst (λ (u : World). Lawful u s) (history_world n ss w r) g.1 in
    let rest = as_way n valid (ss ++ s ∷ []) (next w s) (runs_more (opening n) ss w s r L) addr i es (subst (λ (h : History). IsHopJourney h addr i es) (sym more) g.2) in
    way_before n ss w valid r s g.1 g.0 addr (i ∷ routers_met es) (subst (λ (h : History). IsFeasibleHopWay h addr (i ∷ routers_met es)) more rest)

-- no journey meets a router twice, from every world of every run
pub always_no_journey_circles : HoldsInEveryHistory NoHopJourneyCircles
always_no_journey_circles n ss w valid r addr i es g = always_no_feasible_circles n ss w valid r addr (i ∷ routers_met es) (as_way n valid ss w r addr i es g)
