-- In a quiet world each router published the next hops that it offers. They lead nearer, and those of equal cost lead along least walks.
use Rattle.std.proofs.Common.{refl, sym, ap, subst, arith, ◌∙◌, ◌≡◌, ℕ, ◌<◌, true, false, List, [], ◌∷◌, Some, None, slice_get, option_map, option_and_then, unwrap_or}
use Rattle.no_packet_loops.proofs.Common.{Prefix, prefix_cmp, Machine, Reaction, reaction, opening_machine, Event, Item, End, Port, Router, Link, World, Network, other, side, machine_of, opening, opening_router_of, Place, session_at, reactions, next, router_noticing, router_meeting, router_accepting, router_at_home, router_publishing, router_releasing, changed_link, with_cost, with_front_taken, with_message, with_delivered, with_noticed, with_released, front_at, notice_at, release_at, event_at_home, changed_at, changed_keeps, Runs, history, option_map_or-ind, routers-changed_link, listed_within, is_active, is_quiet, NextHop, IsNetwork, offered_hops, find-map, State, view, Step, SetCost, Deliver, Publish, Release, least, infinity, entry_of, Via, find as row_of}
use Rattle.network_model.specs.{declared.network.Offer.Offer, declared.network.Offer.TheVariants.One, declared.network.Offer.TheVariants.Equal, declared.network.Offer.TheVariants.Feasible, Machine.ways, NextHops.hops_at, NextHops.hops_of, NextHops.hops_by_prefix, NextHops.most_offered}
use Rattle.no_packet_loops.proofs.{Quiet.Still, Wiring.wired, Runs.Reached, Runs.reached, View.on_router-there}
use Rattle.quiet_routes.proofs.Worlds.{Each, NoRow, no_row-from_map, no_row-from_put, good}
use Rattle.quiet_routes.proofs.Still.{still, row_now}
use Rattle.no_packet_loops.specs.Packets.{published_entry}
use Rattle.machine_laws.specs.Laws.{IsSound, is_up_at}
use Rattle.quiet_routes.proofs.Routes.{quiet_routes}
use Rattle.many_ways.specs.{Network.Among, QuietWorlds.SendsEqually, QuietWorlds.IsEqualChain}
use Rattle.many_ways.specs.HopsAtQuiet.{SendsOver, IsHopChain, ComesNearer, EqualHopsAreLeast, NextHopsComeNearer, FirstIsTheRow, HopsAreInForce}
use Rattle.many_ways.proofs.{Feasible.feasible_hop, Offered.offers_feasible, Offered.EqualAt, Offered.equal_at, Offered.OneAlone, Offered.offered_now, First.first_published}
use Rattle.many_ways.proofs.QuietWorlds.{attachments_count, comes_nearer, within_reach, equal_chains_are_least}

-- ---- what routers keep

-- a router offers these next hops, and has published none of a prefix that is unheard, and none at all if it offers none
pub record KeepsHops (o : Offer) (p : Prefix) (r : Router) : Type 0 where
  pub offer : (r.hops).offer ≡ o
  pub unheard : NoRow p r.machines → hops_at p (r.hops).published ≡ []
  pub alone : OneAlone r

-- none are offered of a prefix that is unheard
unheard_offers : (p : Prefix) (o : Offer) (session : ℕ → ℕ) (ms : List (Prefix × Machine)) → NoRow p ms → hops_at p (hops_by_prefix o session ms) ≡ []
unheard_offers p One session ms none = refl
unheard_offers p (Equal most) session ms none = ap (λ y. unwrap_or y []) (find-map prefix_cmp (λ m. hops_of (Equal most) session m) p ms ∙ ap (option_map (λ m. hops_of (Equal most) session m)) none)
unheard_offers p (Feasible most) session ms none = ap (λ y. unwrap_or y []) (find-map prefix_cmp (λ m. hops_of (Feasible most) session m) p ms ∙ ap (option_map (λ m. hops_of (Feasible most) session m)) none)

module _ (o : Offer) (p : Prefix) where
  noticed : (e : Event) (ports : List Port) (r : Router) → KeepsHops o p r → KeepsHops o p (router_noticing e ports r)
  noticed e ports r K = record { offer = K.offer; alone = K.alone; unheard = λ none. K.unheard (no_row-from_map p (λ (m : Machine). reaction m e) r.machines (no_row-from_map p (λ (x : Reaction). x.machine) (reactions e r.machines) none)) }

  met : (k : Prefix) (e : Event) (r : Router) → KeepsHops o p r → KeepsHops o p (router_meeting k e r)
  met k e r K = record { offer = K.offer; alone = K.alone; unheard = λ none. K.unheard (no_row-from_put p k (reaction (machine_of r k) e).machine r.machines none) }

  accepted : (q : ℕ) (item : Item) (r : Router) → KeepsHops o p r → KeepsHops o p (router_accepting q item r)
  accepted q (Item.Up session cost) r K = noticed (Event.Up q cost) (changed_at q (λ x. record { up = true; session = session; cost = cost }) r.ports) r K
  accepted q (Item.Down session) r K = noticed (Event.Down q) (changed_at q (λ x. record x { up = false; session = session }) r.ports) r K
  accepted q (Item.Cost session cost) r K = noticed (Event.Cost q cost) (changed_at q (λ x. record x { session = session; cost = cost }) r.ports) r K
  accepted q (Item.Message m) r K = met m.prefix (Event.Message q m.kind m.value) r K

  published : (r : Router) → KeepsHops o p r → KeepsHops o p (router_publishing r)
  published r K = record { offer = K.offer; alone = ap (λ (o : Offer). hops_by_prefix o (session_at r.ports) r.machines); unheard = unheard_offers p (r.hops).offer (session_at r.ports) r.machines }

  abbrev Kept : World → Type 0
  Kept w = Each (KeepsHops o p) w.routers

  linked : (w : World) (i q : ℕ) (f : End → Link → Link) → Kept w → Kept (changed_link i q f w)
  linked w i q f K = subst (Each (KeepsHops o p)) (sym (routers-changed_link i q f w)) K

  kept_step : (w : World) (s : Step) → Kept w → Kept (next w s)
  kept_step w (SetCost i q cost) K = linked w i q (with_cost cost) K
  kept_step w (Deliver i q) K = option_map_or-ind Kept (with_delivered i q w) (front_at w i q) _
      (option_map_or-ind Kept (with_noticed i w) (notice_at w i q) w K
      (λ x _. changed_keeps (KeepsHops o p) i (router_at_home x) w.routers (λ r k. met x.prefix (event_at_home x.cost) r k) K))
      (λ item _. changed_keeps (KeepsHops o p) i (router_accepting q item) (changed_link i q with_front_taken w).routers (accepted q item) (linked w i q with_front_taken K))
  kept_step w (Publish i) K = changed_keeps (KeepsHops o p) i router_publishing w.routers published K
  kept_step w (Release i) K = option_map_or-ind Kept (with_released i w) (release_at w i) w K
      (λ h _. changed_keeps (KeepsHops o p) i router_releasing (changed_link i h.port (with_message h) w).routers (λ r k. record { offer = k.offer; alone = k.alone; unheard = k.unheard }) (linked w i h.port (with_message h) K))
  kept_step w _ K = K

  kept_run : (w : World) (ss : List Step) (v : World) → Runs w ss v → Kept w → Kept v
  kept_run w [] v r K = subst Kept r K
  kept_run w (s ∷ ss) v r K = kept_run (next w s) ss v r.1 (kept_step w s K)

-- every router of every world of a run keeps it
pub hops_kept : (n : Network) (p : Prefix) (ss : List Step) (w : World) → Runs (opening n) ss w → Each (KeepsHops n.offer p) w.routers
hops_kept n p ss w r = kept_run n.offer p (opening n) ss w r first
  where
    first_of : (i : ℕ) → KeepsHops n.offer p (opening_router_of n i)
    first_of i = (let r = opening_router_of n i in record { offer = refl; alone = ap (λ (o : Offer). hops_by_prefix o (session_at r.ports) r.machines); unheard = unheard_offers p n.offer (session_at r.ports) r.machines })

    first : Each (KeepsHops n.offer p) (opening n).routers
    first i x at = let e = listed_within (opening_router_of n) n.routers i x at in subst (KeepsHops n.offer p) e.1 (first_of i)

-- ---- a world

module _ (n : Network) (ss : List Step) (w : World) (V : IsNetwork n) (runs : Runs (opening n) ss w) (quiet : is_quiet w ≡ true) (p : Prefix) where
  abbrev rs : List Router
  rs = (history n ss).published

  R : Reached n (wired n V) p w rs
  R = reached n (wired n V) p ss w runs

  abbrev s : State
  s = view n p w R.published_fd

  keeps : (i : ℕ) (r : Router) → slice_get w.routers i ≡ Some r → KeepsHops n.offer p r
  keeps i r at = hops_kept n p ss w runs i r at

  in_force : (i : ℕ) (r : Router) → slice_get w.routers i ≡ Some r → hops_at p (r.hops).published ≡ hops_at p (offered_hops r)
  in_force i r at = offered_now p r (keeps i r at).alone (keeps i r at).unheard ((still n (wired n V) p w rs R (good p n ss w V runs) quiet i r at).done).offers

  -- a next hop that is published leads nearer
  nearer : (i : ℕ) (r : Router) (h : NextHop) → slice_get w.routers i ≡ Some r → Among h (hops_at p (r.hops).published) → ComesNearer w p i h
  nearer i r h at a =
      comes_nearer n V p w rs R (good p n ss w V runs) quiet (attachments_count n ss w runs) i r at h (feasible_hop p r h (offers_feasible p r h (subst (Among h) (in_force i r at) a))) (λ k lt. quiet_routes n ss w V runs quiet p k lt)

  -- the first is that of the row
  row_first : 0 < most_offered n.offer → (i : ℕ) (r : Router) → slice_get w.routers i ≡ Some r → (q session : ℕ) → published_entry w i p ≡ Some (Via q session)
      → slice_get (hops_at p (r.hops).published) 0 ≡ Some (record { port = q; session = session })
  row_first some i r at q session row = first_published p r (in_force i r at) (subst IsSound machine (R.inv.sound i)) (quiet_here.passive) (subst (λ (o : Offer). 0 < most_offered o) (sym (keeps i r at).offer) some) q session entry reach
    where
      quiet_here : Still p r
      quiet_here = still n (wired n V) p w rs R (good p n ss w V runs) quiet i r at

      machine : s.machine i ≡ machine_of r p
      machine = on_router-there (λ y. machine_of y p) (opening_machine None []) w.routers i r at

      entry : option_map (λ m. entry_of r.ports m) (row_of prefix_cmp p r.machines) ≡ Some (Via q session)
      entry = sym (row_now n (wired n V) p w rs R (good p n ss w V runs) quiet i r at) ∙ sym (ap (option_and_then (λ (y : Router). row_of prefix_cmp p (y.table).published)) at) ∙ row

      reach : is_up_at (machine_of r p) q ≡ true → (machine_of r p).successor ≡ Some q → (machine_of r p).rd < infinity
      reach = subst (λ (y : Machine). is_up_at y q ≡ true → y.successor ≡ Some q → y.rd < infinity) machine (within_reach n V p w rs R (good p n ss w V runs) quiet (attachments_count n ss w runs) i q)

  abbrev hop_of : (i : ℕ) (x : Place) → SendsOver w p i x → NextHop
  hop_of i x S = record { port = S.port; session = (S.link).session }

  -- where those of equal cost are offered, one that is published is so
  equal_hop : (most : ℕ) → n.offer ≡ Equal most → (i : ℕ) (x : Place) (S : SendsOver w p i x) → SendsEqually w p i x
  equal_hop most equal i x S = record {
    port = S.port;
    link = S.link;
    router = S.router;
    neighbour = E.neighbour;
    is_place = S.is_place;
    is_link = S.is_link;
    is_up = S.is_up;
    is_router = S.is_router;
    feasible = offers_feasible p S.router (hop_of i x S) among;
    at = E.at;
    equal = E.equal ∙ sym at_least;
    reached = (let a = E.equal in let b = E.reached in let c = at_least in omega (arith, a, b, c));
  }
    where
      among : Among (hop_of i x S) (hops_at p (offered_hops S.router))
      among = subst (Among (hop_of i x S)) (in_force i S.router S.is_router) S.published

      E : EqualAt p S.router (hop_of i x S)
      E = equal_at most p S.router (hop_of i x S) ((keeps i S.router S.is_router).offer ∙ equal) among

      shown : s.machine i ≡ machine_of S.router p
      shown = on_router-there (λ y. machine_of y p) (opening_machine None []) w.routers i S.router S.is_router

      at_least : (machine_of S.router p).rd ≡ least (ways (machine_of S.router p))
      at_least = subst (λ (m : Machine). m.rd ≡ least (ways m)) shown (((R.inv).sound i).passive_least (ap is_active shown ∙ (still n (wired n V) p w rs R (good p n ss w V runs) quiet i S.router S.is_router).passive))

  equal_chain : (most : ℕ) → n.offer ≡ Equal most → (i : ℕ) (xs : List Place) (o : ℕ) → IsHopChain w p i xs o → IsEqualChain w p i xs o
  unfolding equal_hop
  equal_chain most equal i [] o c = c
  equal_chain most equal i (x ∷ xs) o c = (equal_hop most equal i x c.0, equal_chain most equal (side (other x.end) (c.0).link).router xs o c.1)

-- in every quiet world
pub equal_hops_are_least : EqualHopsAreLeast
equal_hops_are_least n ss w most V r equal quiet p i xs o lt c = equal_chains_are_least n ss w V r quiet p i xs o lt (equal_chain n ss w V r quiet p most equal i xs o c)

pub hops_come_nearer : NextHopsComeNearer
hops_come_nearer n ss w V r quiet p i x h at a = nearer n ss w V r quiet p i x h at a

pub first_is_the_row : FirstIsTheRow
first_is_the_row n ss w V r quiet some p i x at q session row = row_first n ss w V r quiet p some i x at q session row

pub hops_are_in_force : HopsAreInForce
hops_are_in_force n ss w V r quiet p i x at = in_force n ss w V r quiet p i x at
