-- What every world of a run keeps besides: costs have 16 bits, and no row is published or chosen of a prefix that was not heard of.
use Rattle.std.proofs.Common.{refl, sym, ap, subst, ◌∙◌, ◌≡◌, ℕ, ◌≤◌, Bool, true, false, cond, List, [], ◌∷◌, map, Option, Some, None, slice_get, option_map}
use Rattle.no_packet_loops.proofs.Common.{find-put, slice_get-map, Prefix, prefix_cmp, prefix_eq, Machine, Reaction, reaction, changed_at, event_at_home, opening_machine, Event, Item, Held, Entry, End, A, B, Side, Link, Router, World, Network, other, place_at, neighbours, machine_of, opening_link, costs_of, opening_router_of, opening, Place, Port, LinkSpec, Lawful, next, changed_side, with_item, link_come_up, link_gone_down, with_cost, with_front_taken, with_message, entry_of, reactions, router_noticing, router_meeting, router_at_home, router_accepting, router_publishing, router_releasing, changed_router, changed_link, changed_attachments, with_notice_taken, front_at, notice_at, release_at, with_delivered, with_noticed, with_released, Runs, option_map_or-ind, Some_injective, None_not_Some, listed_within, changed_keeps, prefix_cmp_total, find-map, IsNetwork, find as row_of, put, Step, LinkUp, LinkDown, SetCost, Deliver, Publish, Release}
use Rattle.no_packet_loops.proofs.{Wiring.link_has_costs, Releasing.by_message}

-- ---- lists each of whose elements has a property

-- each element of the list has the property
abbrev pub Each : {A : Type 0} → (A → Type 0) → List A → Type 0
Each {A} P xs = (j : ℕ) (x : A) → slice_get xs j ≡ Some x → P x

-- ---- links

-- the cost of the link from each end has 16 bits
abbrev pub CheapLink : Link → Type 0
CheapLink k = ((k.a).cost ≤ 65535) × ((k.b).cost ≤ 65535)

-- a link with a side changed is cheap where both changed sides would be
cheap_side : (e : End) (f : Side → Side) (k : Link) → (f k.a).cost ≤ 65535 → (f k.b).cost ≤ 65535 → CheapLink k → CheapLink (changed_side e f k)
cheap_side A f k a b c = (a, c.1)
cheap_side B f k a b c = (c.0, b)

-- a message that is put on a link leaves it cheap
cheap_message : (h : Held) (e : End) (k : Link) → CheapLink k → CheapLink (with_message h e k)
cheap_message h e k c = by_message CheapLink h e k c (cheap_side (other e) (with_item (Item.Message h.message)) k c.0 c.1 c)

-- ---- routers

-- the prefix has no row among these
abbrev pub NoRow : {X : Type 0} → Prefix → List (Prefix × X) → Type 0
NoRow p rows = row_of prefix_cmp p rows ≡ None

-- a prefix with no machine at the router has no row there, neither chosen nor published
abbrev pub HeardRows : Prefix → Router → Type 0
HeardRows p r = NoRow p r.machines → NoRow p (r.table).control × NoRow p (r.table).published

module _ (p : Prefix) where
  -- a prefix with no row has none among the changed rows
  no_row-map : {X Y : Type 0} (h : X → Y) (rows : List (Prefix × X)) → NoRow p rows → NoRow p (map (λ e. (e.0, h e.1)) rows)
  no_row-map h rows none = find-map prefix_cmp h p rows ∙ ap (option_map h) none

  -- a prefix with no row among the changed rows has none
  pub no_row-from_map : {X Y : Type 0} (h : X → Y) (rows : List (Prefix × X)) → NoRow p (map (λ e. (e.0, h e.1)) rows) → NoRow p rows
  no_row-from_map {X} h rows none = by_row (row_of prefix_cmp p rows) (sym (find-map prefix_cmp h p rows) ∙ none)
    where
      by_row : (o : Option X) → option_map h o ≡ None → o ≡ None
      by_row None e = refl
      by_row (Some x) e = absurd (None_not_Some (sym e))

  -- a prefix with no row after a row is put had none before
  pub no_row-from_put : {X : Type 0} (k : Prefix) (v : X) (rows : List (Prefix × X)) → NoRow p (put prefix_cmp k v rows) → NoRow p rows
  no_row-from_put k v rows none = by_key (prefix_eq p k) (sym (find-put prefix_cmp prefix_cmp_total p k v rows) ∙ none)
    where
      by_key : (b : Bool) → cond b (Some v) (row_of prefix_cmp p rows) ≡ None → NoRow p rows
      by_key true e = absurd (None_not_Some (sym e))
      by_key false e = e

  -- a router that takes a notice still has no row of an unheard prefix
  heard_noticed : (e : Event) (ports : List Port) (r : Router) → HeardRows p r → HeardRows p (router_noticing e ports r)
  heard_noticed e ports r h none =
      let all : List (Prefix × Reaction) = reactions e r.machines in
      let was : NoRow p r.machines = no_row-from_map (λ (m : Machine). reaction m e) r.machines (no_row-from_map (λ (x : Reaction). x.machine) all none) in
      (no_row-map (λ (m : Machine). entry_of ports m) (map (λ x. (x.0, (x.1).machine)) all) none, (h was).1)

  -- a router where the machine of one prefix meets an event still has no row of an unheard prefix
  heard_meeting : (k : Prefix) (e : Event) (r : Router) → HeardRows p r → HeardRows p (router_meeting k e r)
  heard_meeting k e r h none =
      let x : Reaction = reaction (machine_of r k) e in
      (no_row-map (λ (y : Machine). entry_of r.ports y) (put prefix_cmp k x.machine r.machines) none, (h (no_row-from_put k x.machine r.machines none)).1)

  -- a router that takes an item still has no row of an unheard prefix
  heard_accepted : (q : ℕ) (item : Item) (r : Router) → HeardRows p r → HeardRows p (router_accepting q item r)
  heard_accepted q (Item.Up session cost) r h = heard_noticed (Event.Up q cost) (changed_at q (λ x. record { up = true; session = session; cost = cost }) r.ports) r h
  heard_accepted q (Item.Down session) r h = heard_noticed (Event.Down q) (changed_at q (λ x. record x { up = false; session = session }) r.ports) r h
  heard_accepted q (Item.Cost session cost) r h = heard_noticed (Event.Cost q cost) (changed_at q (λ x. record x { session = session; cost = cost }) r.ports) r h
  heard_accepted q (Item.Message m) r h = heard_meeting m.prefix (Event.Message q m.kind m.value) r h

  -- a router that publishes still has no row of an unheard prefix
  heard_published : (r : Router) → HeardRows p r → HeardRows p (router_publishing r)
  heard_published r h none = ((h none).0, (h none).0)

  -- ---- worlds

  -- all links of the world are cheap, and no router has a row of the prefix where it is unheard
  pub record Good (w : World) : Type 0 where
    pub cheap : Each CheapLink w.links
    pub heard : Each (HeardRows p) w.routers

  -- a change of link l that leaves it cheap keeps a world good
  good_links : (w : World) (l : ℕ) (f : Link → Link) → ((k : Link) → CheapLink k → CheapLink (f k)) → Good w → Good (record w { links = changed_at l f w.links })
  good_links w l f keeps g = record { cheap = changed_keeps CheapLink l f w.links keeps g.cheap; heard = g.heard }

  -- a change of the link at a port that leaves it cheap keeps a world good
  good_link : (w : World) (i q : ℕ) (f : End → Link → Link) → ((e : End) (k : Link) → CheapLink k → CheapLink (f e k)) → Good w → Good (changed_link i q f w)
  good_link w i q f keeps g = option_map_or-ind Good (λ (x : Place). record w { links = changed_at x.link (f x.end) w.links }) (place_at w i q) w g (λ x at. good_links w x.link (f x.end) (keeps x.end) g)

  -- a change of a router that adds no row of an unheard prefix keeps a world good
  good_router : (w : World) (i : ℕ) (f : Router → Router) → ((r : Router) → HeardRows p r → HeardRows p (f r)) → Good w → Good (changed_router i f w)
  good_router w i f keeps g = record { cheap = g.cheap; heard = changed_keeps (HeardRows p) i f w.routers keeps g.heard }

  -- a lawful step keeps a world good
  good_step : (w : World) (s : Step) → Lawful w s → Good w → Good (next w s)
  good_step w (LinkUp l) c g = good_links w l link_come_up (λ k h. h) g
  good_step w (LinkDown l) c g = good_links w l link_gone_down (λ k h. h) g
  good_step w (SetCost i q cost) c g = good_link w i q (with_cost cost) (λ e k h. cheap_side e _ k (c.5).small (c.5).small h) g
  good_step w (Deliver i q) c g = option_map_or-ind Good (with_delivered i q w) (front_at w i q) _
      (option_map_or-ind Good (with_noticed i w) (notice_at w i q) w g
      (λ x at. good_router (changed_attachments i with_notice_taken w) i (router_at_home x) (λ r h. heard_meeting x.prefix (event_at_home x.cost) r h) (record { cheap = g.cheap; heard = g.heard })))
      (λ item at. good_router (changed_link i q with_front_taken w) i (router_accepting q item) (heard_accepted q item) (good_link w i q with_front_taken (λ e k h. cheap_side e _ k h.0 h.1 h) g))
  good_step w (Publish i) c g = good_router w i router_publishing heard_published g
  good_step w (Release i) c g = option_map_or-ind Good (with_released i w) (release_at w i) w g
      (λ h at. good_router (changed_link i h.port (with_message h) w) i router_releasing (λ r x. x) (good_link w i h.port (with_message h) (cheap_message h) g))
  good_step w _ c g = record { cheap = g.cheap; heard = g.heard }

  -- the opening of a network is good
  good_opening : (n : Network) → IsNetwork n → Good (opening n)
  good_opening n S = record { cheap = cheap; heard = heard }
    where
      cheap_spec : (l : ℕ) (k : Link) (o : Option LinkSpec) → slice_get n.links l ≡ o → option_map opening_link o ≡ Some k → CheapLink k
      cheap_spec l k None at e = absurd (None_not_Some e)
      cheap_spec l k (Some s) at e = let C = link_has_costs n S l s at in subst CheapLink (Some_injective e) ((C.from_a).small, (C.from_b).small)

      cheap : Each CheapLink (opening n).links
      cheap l k at = cheap_spec l k (slice_get n.links l) refl (sym (slice_get-map opening_link n.links l) ∙ at)

      heard_first : (i : ℕ) → HeardRows p (opening_router_of n i)
      heard_first i none =
          let no_cost : NoRow p (costs_of n i) = no_row-from_map (λ c. opening_machine (Some c) (neighbours (opening_router_of n i).ports)) (costs_of n i) none in
          let row : NoRow p (map (λ a. (a.0, Entry.Local)) (costs_of n i)) = no_row-map (λ c. Entry.Local) (costs_of n i) no_cost in
          (row, row)

      heard : Each (HeardRows p) (opening n).routers
      heard i r at = let e = listed_within (opening_router_of n) n.routers i r at in subst (HeardRows p) e.1 (heard_first i)

  -- a run keeps a world good
  good_on : (w : World) (ss : List Step) (v : World) → Runs w ss v → Good w → Good v
  good_on w [] v r g = subst Good r g
  good_on w (s ∷ ss) v r g = good_on (next w s) ss v r.1 (good_step w s r.0 g)

  -- every world to which a run leads from the opening of a network is good
  pub good : (n : Network) (ss : List Step) (w : World) → IsNetwork n → Runs (opening n) ss w → Good w
  good n ss w S r = good_on (opening n) ss w r (good_opening n S)
