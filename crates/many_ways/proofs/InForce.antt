-- In every world of every run the next hops that a router published were feasible then: so no packet meets a router
-- twice, whichever of them each router takes.
use Rattle.std.proofs.Common.{refl, sym, ap, subst, ◌∙◌, arith, inl, inr, ◌≡◌, ℕ, Bool, true, false, List, [], ◌∷◌, map, length, Option, Some, None, slice_get, slice_set, option_map}
use Rattle.no_packet_loops.proofs.Common.{option_map_or, cases_eq, slice_get_within, slice_get-map, map-changed_at, slice_get-changed_at, Prefix, Item, End, Link, Router, World, Network, opening, opening_router_of, Lawful, next, changed_router, changed_link, with_cost, with_front_taken, with_message, with_delivered, with_noticed, with_notice_taken, with_released, front_at, notice_at, release_at, changed_attachments, router_accepting, router_at_home, router_publishing, router_releasing, Runs, History, history, history_from, published_after, with_step, with_steps, offered_hops, option_map_or-ind, None_not_Some, Some_injective, routers-changed_link, NextHop, IsNetwork, listed_within, Step, LinkUp, LinkDown, SetCost, Deliver, Publish, Release, Attach, Detach, slice_get-changed_at_other}
use Rattle.network_model.specs.{World.NextHops, NextHops.hops_at}
use Rattle.no_packet_loops.specs.Packets.{HoldsInEveryWorld}
use Rattle.no_packet_loops.proofs.WorldLaws.{next-shape}
use Rattle.no_packet_loops.proofs.Runs.{published_count, set_beside, set_here, history_world}
use Rattle.many_ways.specs.Network.{Among}
use Rattle.all_packets.proofs.Improving.{way_by}
use Rattle.many_ways.specs.Packets.{feasible_hops, feasible_by, MayGoByFeasible, IsFeasibleHopWay}
use Rattle.many_ways.specs.InForce.{hops_by, MayGoOver, IsHopWay, NoHopCircles, HopWaysEnd}
use Rattle.many_ways.proofs.{Offered.offers_feasible, Packets.by_others, Packets.always_no_feasible_circles, Packets.always_feasible_end}

-- ---- a step that is no publication

-- the next hops of all routers
abbrev pub all_hops : World → List NextHops
all_hops w = map (λ r. r.hops) w.routers

hops-changed_link : (i q : ℕ) (f : End → Link → Link) (w : World) → all_hops (changed_link i q f w) ≡ all_hops w
hops-changed_link i q f w = ap (map (λ (r : Router). r.hops)) (routers-changed_link i q f w)

hops-changed_router : (i : ℕ) (f : Router → Router) (w : World) → ((r : Router) → (f r).hops ≡ r.hops) → all_hops (changed_router i f w) ≡ all_hops w
hops-changed_router i f w same = map-changed_at f (λ (r : Router). r.hops) i w.routers (λ r _. same r)

hops-accepting : (q : ℕ) (item : Item) (r : Router) → (router_accepting q item r).hops ≡ r.hops
hops-accepting q (Item.Message m) r = refl
hops-accepting q _ r = refl

-- it leaves them
pub hops_stay : (w : World) (s : Step) → ((i : ℕ) → s ≡ Publish i → ⊥) → all_hops (next w s) ≡ all_hops w
hops_stay w (SetCost i q cost) _ = hops-changed_link i q (with_cost cost) w
hops_stay w (Deliver i q) _ = option_map_or-ind (λ v. all_hops v ≡ all_hops w) (with_delivered i q w) (front_at w i q) _
    (option_map_or-ind (λ v. all_hops v ≡ all_hops w) (with_noticed i w) (notice_at w i q) w refl
    (λ x _. hops-changed_router i (router_at_home x) (changed_attachments i with_notice_taken w) (λ _. refl)))
    (λ item _. hops-changed_router i (router_accepting q item) (changed_link i q with_front_taken w) (hops-accepting q item) ∙ hops-changed_link i q with_front_taken w)
hops_stay w (Publish i) other = absurd (other i refl)
hops_stay w (Release i) _ = option_map_or-ind (λ v. all_hops v ≡ all_hops w) (with_released i w) (release_at w i) w refl
    (λ h _. hops-changed_router i router_releasing (changed_link i h.port (with_message h) w) (λ _. refl) ∙ hops-changed_link i h.port (with_message h) w)
hops_stay w _ _ = refl

-- ---- what is in force

-- each next hop that a router published was feasible when it published last
pub record InForce (w : World) (rs : List Router) : Type 0 where
  pub count : length rs ≡ length w.routers
  pub were_feasible : (i : ℕ) (x : NextHops) → slice_get (all_hops w) i ≡ Some x → (p : Prefix) (h : NextHop) → Among h (hops_at p x.published) → Among h (option_map_or (feasible_hops p) (slice_get rs i) [])

-- at the opening each router published what it offers
opened : (n : Network) → InForce (opening n) (opening n).routers
opened n = record { count = refl; were_feasible = λ i x at. each i (slice_get (opening n).routers i) refl x (sym (slice_get-map (λ (r : Router). r.hops) (opening n).routers i) ∙ at) }
  where
    each : (i : ℕ) (o : Option Router) → slice_get (opening n).routers i ≡ o → (x : NextHops) → option_map (λ (r : Router). r.hops) o ≡ Some x → (p : Prefix) (h : NextHop) → Among h (hops_at p x.published) → Among h (option_map_or (feasible_hops p) o [])
    each i None at x is p h a = absurd (None_not_Some is)
    each i (Some r) at x is p h a =
        let e = listed_within (opening_router_of n) n.routers i r at in
        let hops : x.published ≡ offered_hops r = ap (λ (y : NextHops). y.published) (sym (Some_injective is)) ∙ ap (λ (y : Router). (y.hops).published) (sym e.1) ∙ ap offered_hops e.1 in
        offers_feasible p r h (subst (λ rows. Among h (hops_at p rows)) hops a)

-- a publication puts in force what its router offers
published : (w : World) (rs : List Router) (i : ℕ) (r : Router) → slice_get w.routers i ≡ Some r → InForce w rs → InForce (next w (Publish i)) (published_after w rs (Publish i))
published w rs i r at F = record {
  count = published_count w rs (Publish i) ∙ F.count ∙ sym (next-shape w (Publish i)).routers;
  were_feasible = each;
}
  where
    is_set : published_after w rs (Publish i) ≡ slice_set rs i r
    is_set = ap (λ o. option_map_or (λ (y : Router). slice_set rs i y) o rs) at

    each : (j : ℕ) (x : NextHops) → slice_get (all_hops (next w (Publish i))) j ≡ Some x → (p : Prefix) (h : NextHop) → Among h (hops_at p x.published) → Among h (option_map_or (feasible_hops p) (slice_get (published_after w rs (Publish i)) j) [])
    each j x there p h a =
        let hop_is = sym (slice_get-map (λ (y : Router). y.hops) (next w (Publish i)).routers j) ∙ there in
        elim (cases_eq j i) [
          | inl e ↦
              let now : slice_get (next w (Publish i)).routers j ≡ Some (router_publishing r) = ap (slice_get (next w (Publish i)).routers) e ∙ slice_get-changed_at router_publishing i w.routers ∙ ap (option_map router_publishing) at in
              let is : (router_publishing r).hops ≡ x = Some_injective (sym (ap (option_map (λ (y : Router). y.hops)) now) ∙ hop_is) in
              let lt = slice_get_within w.routers i r at in
              let c = F.count in
              let set : slice_get (published_after w rs (Publish i)) j ≡ Some r = ap (slice_get (published_after w rs (Publish i))) e ∙ ap (λ xs. slice_get xs i) is_set ∙ set_here rs i r (omega (arith, lt, c)) in
              subst (Among h) (sym (ap (λ (o : Option Router). option_map_or (feasible_hops p) o []) set)) (offers_feasible p r h (subst (λ (y : NextHops). Among h (hops_at p y.published)) (sym is) a))
          | inr d ↦
              let was : slice_get (all_hops w) j ≡ Some x = slice_get-map (λ (y : Router). y.hops) w.routers j ∙ sym (ap (option_map (λ (y : Router). y.hops)) (slice_get-changed_at_other router_publishing i j w.routers d)) ∙ hop_is in
              let beside : slice_get (published_after w rs (Publish i)) j ≡ slice_get rs j = ap (λ xs. slice_get xs j) is_set ∙ set_beside rs i j r d in
              subst (Among h) (sym (ap (λ (o : Option Router). option_map_or (feasible_hops p) o []) beside)) (F.were_feasible j x was p h a)
        ]

-- another step leaves it
stays : (w : World) (rs : List Router) (s : Step) → ((i : ℕ) → s ≡ Publish i → ⊥) → published_after w rs s ≡ rs → InForce w rs → InForce (next w s) (published_after w rs s)
stays w rs s other same F = subst (InForce (next w s)) (sym same) (record {
  count = F.count ∙ sym (next-shape w s).routers;
  were_feasible = λ i x at. F.were_feasible i x (sym (ap (λ xs. slice_get xs i) (hops_stay w s other)) ∙ at);
})

goes_on : (w : World) (rs : List Router) (s : Step) → Lawful w s → InForce w rs → InForce (next w s) (published_after w rs s)
goes_on w rs (LinkUp l) L F = stays w rs (LinkUp l) (λ i e. cc) refl F
goes_on w rs (LinkDown l) L F = stays w rs (LinkDown l) (λ i e. cc) refl F
goes_on w rs (SetCost j q c) L F = stays w rs (SetCost j q c) (λ i e. cc) refl F
goes_on w rs (Deliver j q) L F = stays w rs (Deliver j q) (λ i e. cc) refl F
goes_on w rs (Publish j) L F = published w rs j L.0 L.1 F
goes_on w rs (Release j) L F = stays w rs (Release j) (λ i e. cc) refl F
goes_on w rs (Attach j p c) L F = stays w rs (Attach j p c) (λ i e. cc) refl F
goes_on w rs (Detach j p) L F = stays w rs (Detach j p) (λ i e. cc) refl F

all_steps : (h : History) (ss : List Step) (v : World) → Runs h.world ss v → InForce h.world h.published → InForce (with_steps h ss).world (with_steps h ss).published
all_steps h [] v r F = F
all_steps h (s ∷ ss) v r F = all_steps (with_step h s) ss v r.1 (goes_on h.world h.published s r.0 F)

-- in every history
pub in_force : (n : Network) (ss : List Step) (v : World) → Runs (opening n) ss v → InForce (history n ss).world (history n ss).published
in_force n ss v r = all_steps (history_from (opening n)) ss v r (opened n)

-- ---- packets

module _ (n : Network) (ss : List Step) (v : World) (valid : IsNetwork n) (runs : Runs (opening n) ss v) where
  abbrev h : History
  h = history n ss

  -- each next hop that a router offers is feasible, and each that it published was
  among_feasible : (b : Bool) (i : ℕ) (p : Prefix) (o : NextHop) → Among o (option_map_or (hops_by b p) (slice_get (h.world).routers i) []) → Among o (feasible_by b h i p)
  among_feasible b i p o a = by_router (slice_get (h.world).routers i) refl b a
    where
      by_router : (x : Option Router) → slice_get (h.world).routers i ≡ x → (b : Bool) → Among o (option_map_or (hops_by b p) x []) → Among o (feasible_by b h i p)
      by_router None at b a = absurd (None_not_Some a.1)
      by_router (Some r) at true a = subst (Among o) (sym (ap (λ (x : Option Router). option_map_or (feasible_hops p) x []) at)) (offers_feasible p r o a)
      by_router (Some r) at false a = (in_force n ss v runs).were_feasible i r.hops (slice_get-map (λ (y : Router). y.hops) (h.world).routers i ∙ ap (option_map (λ (y : Router). y.hops)) at) p o a

  way_is : (addr : ℕ) (way : List ℕ) → IsHopWay h.world addr way → IsFeasibleHopWay h addr way
  way_is addr way g = way_by (λ i k. (b : Bool) × MayGoOver h.world b addr i k) (λ i k. (b : Bool) × MayGoByFeasible h b addr i k)
      (λ i k (b, M). (b, by_others (λ j p. option_map_or (hops_by b p) (slice_get (h.world).routers j) []) (feasible_by b h) h.world (among_feasible b) b addr i k M)) way g

  no_circles : NoHopCircles h.world
  no_circles addr way g = always_no_feasible_circles n ss v valid runs addr way (way_is addr way g)

  end : HopWaysEnd h.world
  end addr i ks lt g = always_feasible_end n ss v valid runs addr i ks lt (way_is addr (i ∷ ks) g)

-- no packet meets a router twice in any world of any run
pub always_no_hop_circles : HoldsInEveryWorld NoHopCircles
always_no_hop_circles n ss w valid r = subst NoHopCircles (history_world n ss w r) (no_circles n ss w valid r)

pub always_hop_ways_end : HoldsInEveryWorld HopWaysEnd
always_hop_ways_end n ss w valid r = subst HopWaysEnd (history_world n ss w r) (end n ss w valid r)
