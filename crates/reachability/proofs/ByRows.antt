-- What is marked by rows is from where they lead home.
use Rattle.std.proofs.Common.{refl, sym, ap, subst, ◌∙◌, ◌≡◌, ℕ, ◌<◌, Bool, true, false, ◌==◌, if◌then◌else◌, set, List, [], ◌∷◌, length, Option, Some, None, is_some, slice_get, option_map, option_and_then, eqb-true, eq-eqb}
use Rattle.std.specs.{Option.option_map_or, FinMap.find as row_of}
use Rattle.std.proofs.{lemmas.Bool.and_parts, lemmas.Bool.and_from, lemmas.Bool.false≢true, lemmas.Option.slice_get_within}
use Rattle.ipv4_prefix.specs.Prefix.{Prefix, prefix_cmp}
use Rattle.network_model.specs.{declared.network.Place.Place, declared.route.Entry.Entry, declared.route.Entry.TheVariants.Local, declared.route.Entry.TheVariants.Via, Step.is_up_in, Forwarding.entry_leads}
use Rattle.network_model.specs.World.{Link, Router, World, other, side, place_at, attachment_at}
use Rattle.network_model.proofs.ListLaws.{None_not_Some, Some_injective}
use Rattle.no_packet_loops.specs.Packets.{published_entry}
use Rattle.quiet_routes.specs.Routes.{IsChain, SendsBy}
use Rattle.reachability.specs.{Ways.HasWay, Marks.is_in}
use Rattle.reachability.specs.Rounds.{AllRouted, OnlyRouted, leads_home, next_by_row, row_leads}
use Rattle.reachability.proofs.Marking.{holds_more}

-- a Via row of router i leads out of this place, over a link that is up in the row's session, to router k
record Crosses (w : World) (i q session k : ℕ) : Type 0 where
  place : Place
  link : Link
  is_place : place_at w i q ≡ Some place
  is_link : slice_get w.links place.link ≡ Some link
  is_up : link.up ≡ true
  in_session : link.session ≡ session
  far : (side (other place.end) link).router ≡ k

module _ (w : World) (i q session : ℕ) where
  -- where an entry leads to a router, it does so over a link
  crosses : (k : ℕ) → entry_leads w i (Via q session) ≡ Some k → Crosses w i q session k
  crosses k leads = by_place (place_at w i q) refl leads
    where
      by_test : (x : Place) (l : Link) → place_at w i q ≡ Some x → slice_get w.links x.link ≡ Some l → (b : Bool) → is_up_in session l ≡ b → (if b then Some (side (other x.end) l).router else None) ≡ Some k → Crosses w i q session k
      by_test x l is_place is_link false is h = absurd (None_not_Some h)
      by_test x l is_place is_link true is h =
          let parts = and_parts l.up (l.session == session) is in
          record { place = x; link = l; is_place = is_place; is_link = is_link; is_up = parts.0; in_session = eqb-true l.session session parts.1; far = Some_injective h }

      by_link : (x : Place) → place_at w i q ≡ Some x → (o : Option Link) → slice_get w.links x.link ≡ o
          → (if option_map_or (is_up_in session) o false then option_map (λ s. s.router) (option_map (side (other x.end)) o) else None) ≡ Some k → Crosses w i q session k
      by_link x is_place None is_link h = absurd (None_not_Some h)
      by_link x is_place (Some l) is_link h = by_test x l is_place is_link (is_up_in session l) refl h

      by_place : (o : Option Place) → place_at w i q ≡ o
          → (if option_map_or (is_up_in session) (option_and_then (λ p. slice_get w.links p.link) o) false then option_map (λ s. s.router) (option_and_then (λ p. option_map (side (other p.end)) (slice_get w.links p.link)) o) else None) ≡ Some k
          → Crosses w i q session k
      by_place None is_place h = absurd (None_not_Some h)
      by_place (Some x) is_place h = by_link x is_place (slice_get w.links x.link) refl h

-- a row that sends by a place leads to the router across
pub leads_across : (w : World) (p : Prefix) (i : ℕ) (x : Place) (h : SendsBy w p i x) → entry_leads w i (Via h.port (h.link).session) ≡ Some (side (other x.end) h.link).router
leads_across w p i x h =
    let session : ℕ = (h.link).session in
    ap (λ (o : Option Place). if option_map_or (is_up_in session) (option_and_then (λ y. slice_get w.links y.link) o) false then option_map (λ s. s.router) (option_and_then (λ y. option_map (side (other y.end)) (slice_get w.links y.link)) o) else None) h.is_place
    ∙ ap (λ (o : Option Link). if option_map_or (is_up_in session) o false then option_map (λ s. s.router) (option_map (side (other x.end)) o) else None) h.is_link
    ∙ ap (λ (b : Bool). if b then Some (side (other x.end) h.link).router else None) (and_from (h.link).up (session == session) h.is_up (eq-eqb session session refl))

-- a router that published a row is one of the world's
row_within : (w : World) (i : ℕ) (p : Prefix) (e : Entry) → published_entry w i p ≡ Some e → i < length w.routers
row_within w i p e h = by_router (slice_get w.routers i) refl h
  where
    by_router : (o : Option Router) → slice_get w.routers i ≡ o → option_and_then (λ (r : Router). row_of prefix_cmp p (r.table).published) o ≡ Some e → i < length w.routers
    by_router None at g = absurd (None_not_Some g)
    by_router (Some r) at g = slice_get_within w.routers i r at

-- over the row of a router a way leads on
pub way_on : (w : World) (p : Prefix) (i k : ℕ) → next_by_row w p i ≡ Some k → HasWay w p k → HasWay w p i
way_on w p i k leads W = by_row (published_entry w i p) refl leads
  where
    by_row : (o : Option Entry) → published_entry w i p ≡ o → option_and_then (entry_leads w i) o ≡ Some k → HasWay w p i
    by_row (Some (Via q session)) row h = (let C = crosses w i q session k h in record {
      home = W.home;
      chain = C.place ∷ W.chain;
      leads = (
        record { port = q; link = C.link; is_place = C.is_place; is_link = C.is_link; is_up = C.is_up; row = row ∙ ap (λ (m : ℕ). Some (Via q m)) (sym C.in_session) },
        subst (λ (j : ℕ). IsChain w p j W.chain W.home) (sym C.far) W.leads,
      );
      cost = W.cost;
      attached = W.attached;
    })
    by_row _ row h = absurd (None_not_Some h)

module _ (w : World) (p : Prefix) (marks : List Bool) where
  -- from a router whose row leads home there is a way
  pub way_from_row : (i : ℕ) → leads_home w p marks i ≡ true → OnlyRouted w p marks → HasWay w p i
  way_from_row i leads only = by_row (published_entry w i p) refl leads
    where
      at_home : published_entry w i p ≡ Some Local → (o : Option ℕ) → attachment_at w i p ≡ o → is_some o ≡ true → HasWay w p i
      at_home row None attached h = absurd (false≢true h)
      at_home row (Some cost) attached h = record { home = i; chain = []; leads = (refl, row); cost = cost; attached = attached }

      by_far : (q session : ℕ) → published_entry w i p ≡ Some (Via q session) → (o : Option ℕ) → entry_leads w i (Via q session) ≡ o → option_map_or (is_in marks) o false ≡ true → HasWay w p i
      by_far q session row None far h = absurd (false≢true h)
      by_far q session row (Some k) far h = way_on w p i k (ap (option_and_then (entry_leads w i)) row ∙ far) (only k h)

      by_row : (o : Option Entry) → published_entry w i p ≡ o → row_leads w p marks i o ≡ true → HasWay w p i
      by_row (Some Local) row h = at_home row (attachment_at w i p) refl h
      by_row (Some (Via q session)) row h = by_far q session row (entry_leads w i (Via q session)) refl h
      by_row _ row h = absurd (false≢true h)

  pub only_more : (i : ℕ) → leads_home w p marks i ≡ true → OnlyRouted w p marks → OnlyRouted w p (set marks i true)
  only_more i leads only = holds_more (HasWay w p) marks i (way_from_row i leads only) only

  -- where each router whose row leads home is marked, every router with a way is
  pub all_routed : AllRouted w p marks → (i : ℕ) → HasWay w p i → is_in marks i ≡ true
  all_routed closed i W = by_chain i W.chain W.leads
    where
      by_chain : (j : ℕ) (xs : List Place) → IsChain w p j xs W.home → is_in marks j ≡ true
      by_chain j [] (here, local) = closed j (row_within w j p Local local) (
          ap (row_leads w p marks j) local ∙ ap (λ (k : ℕ). is_some (attachment_at w k p)) here ∙ ap is_some W.attached
          )
      by_chain j (x ∷ xs) (h, rest) = closed j (row_within w j p (Via h.port (h.link).session) h.row) (
          ap (row_leads w p marks j) h.row
          ∙ ap (λ (o : Option ℕ). option_map_or (is_in marks) o false) (leads_across w p j x h)
          ∙ by_chain (side (other x.end) h.link).router xs rest
          )
