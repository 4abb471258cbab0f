-- A lawful step leaves a world whose ports and links fit together one that does.
use Rattle.std.proofs.Common.{refl, sym, ap, subst, ◌∙◌, ◌≡◌, ℕ, zero, suc, ◌<◌, Bool, true, false, ◌==◌, List, [], ◌∷◌, drop, length, Option, Some, None, slice_get, option_map, option_and_then, eqb-true, eq-eqb, true≢false}
use Rattle.no_packet_loops.proofs.Common.{option_map_or, Item, End, Place, Port, changed_at, Side, Link, Router, Attachments, World, place_at, link_at, side, Lawful, next, link_come_up, link_gone_down, with_cost, with_message, with_front_taken, changed_link, changed_router, changed_attachments, with_delivered, with_noticed, with_released, with_attachment, without_attachment, with_notice_taken, router_accepting, router_at_home, router_publishing, router_releasing, front_at, notice_at, release_at, length-changed_at, slice_get-changed_at, slice_get-changed_at_other, option_map_or-ind, Some_injective, None_not_Some, Step, LinkUp, LinkDown, SetCost, Deliver, Publish, Release, Attach, Detach}
use Rattle.world.specs.Kept.{ItemsLead, IsWorld}
use Rattle.world.proofs.Inboxes.{KeepsLeading, come_up-keeps, gone_down-keeps, with_cost-keeps, with_message-keeps}

-- ---- what stands at a place of a changed list

-- an element of a list changed at k: it is f of the old one at k, or the old one elsewhere
pub record IsChanged {A : Type 0} (f : A → A) (k j : ℕ) (xs : List A) (y : A) : Type 0 where
  pub old : A
  pub there : slice_get xs j ≡ Some old
  pub here : j ≡ k → y ≡ f old
  pub elsewhere : (j ≡ k → ⊥) → y ≡ old

old_of : {A : Type 0} (f : A → A) (o : Option A) (y : A) → option_map f o ≡ Some y → (x : A) × (o ≡ Some x) × (y ≡ f x)
old_of f None y e = absurd (None_not_Some e)
old_of f (Some x) y e = (x, refl, sym (Some_injective e))

pub changed_element : {A : Type 0} (f : A → A) (k j : ℕ) (xs : List A) (y : A) → slice_get (changed_at k f xs) j ≡ Some y → IsChanged f k j xs y
changed_element f k j xs y at = by_test (j == k) refl
  where
    by_test : (b : Bool) → (j == k) ≡ b → IsChanged f k j xs y
    by_test true same =
        let at_k : j ≡ k = eqb-true j k same in
        let moved : slice_get (changed_at k f xs) k ≡ Some y = subst (λ i. slice_get (changed_at k f xs) i ≡ Some y) at_k at in
        let x : _ = old_of f (slice_get xs k) y (sym (slice_get-changed_at f k xs) ∙ moved) in
        record { old = x.0; there = ap (slice_get xs) at_k ∙ x.1; here = λ _. x.2; elsewhere = λ apart. absurd (apart at_k) }
    by_test false differ =
        let apart : j ≡ k → ⊥ = λ e. true≢false (sym (eq-eqb j k e) ∙ differ) in
        record { old = y; there = sym (slice_get-changed_at_other f k j xs apart) ∙ at; here = λ e. absurd (apart e); elsewhere = λ _. refl }

-- ---- a link changes

-- the world with link l changed by f
abbrev with_link : ℕ → (Link → Link) → World → World
with_link l f w = record w { links = changed_at l f w.links }

with_link-kept : (l : ℕ) (f : Link → Link) (w : World) → ((k : Link) → slice_get w.links l ≡ Some k → KeepsLeading f k) → IsWorld w → IsWorld (with_link l f w)
with_link-kept l f w keeps h = record {
  links_known = λ i q p at. subst (λ n. p.link < n) (sym (length-changed_at f l w.links)) (h.links_known i q p at);
  places_apart = h.places_apart;
  routers_placed = h.routers_placed;
  attachments_placed = h.attachments_placed;
  ports_placed = h.ports_placed;
  inboxes = λ i q r x p k is_router is_port at is_link. by_link i q r x p k is_router is_port at (changed_element f l p.link w.links k is_link);
}
  where
    by_link : (i q : ℕ) (r : Router) (x : Port) (p : Place) (k : Link) → slice_get w.routers i ≡ Some r → slice_get r.ports q ≡ Some x → place_at w i q ≡ Some p
        → IsChanged f l p.link w.links k → ItemsLead x.up k.up (side p.end k).inbox
    by_link i q r x p k is_router is_port at c = by_test (p.link == l) refl
      where
        before : ItemsLead x.up c.old.up (side p.end c.old).inbox
        before = h.inboxes i q r x p c.old is_router is_port at c.there

        by_test : (b : Bool) → (p.link == l) ≡ b → ItemsLead x.up k.up (side p.end k).inbox
        by_test true same =
            let here : p.link ≡ l = eqb-true p.link l same in
            subst (λ (y : Link). ItemsLead x.up y.up (side p.end y).inbox) (sym (c.here here)) (keeps c.old (ap (slice_get w.links) (sym here) ∙ c.there) p.end x.up before)
        by_test false differ =
            let apart : p.link ≡ l → ⊥ = λ e. true≢false (sym (eq-eqb p.link l e) ∙ differ) in
            subst (λ (y : Link). ItemsLead x.up y.up (side p.end y).inbox) (sym (c.elsewhere apart)) before

-- the world with the link at a port changed
changed_link-kept : (i q : ℕ) (f : End → Link → Link) (w : World) → ((p : Place) (k : Link) → place_at w i q ≡ Some p → slice_get w.links p.link ≡ Some k → KeepsLeading (f p.end) k) → IsWorld w → IsWorld (changed_link i q f w)
changed_link-kept i q f w keeps h = option_map_or-ind IsWorld (λ p. record w { links = changed_at p.link (f p.end) w.links }) (place_at w i q) w h (λ p at. with_link-kept p.link (f p.end) w (λ k is. keeps p k at is) h)

-- ---- a router changes

-- a router changed by f, which leaves its ports
changed_router-kept : (i : ℕ) (f : Router → Router) (w : World) → ((r : Router) → (f r).ports ≡ r.ports) → IsWorld w → IsWorld (changed_router i f w)
changed_router-kept i f w ports h = record {
  links_known = h.links_known;
  places_apart = h.places_apart;
  routers_placed = h.routers_placed ∙ sym (length-changed_at f i w.routers);
  attachments_placed = h.attachments_placed ∙ sym (length-changed_at f i w.routers);
  ports_placed = λ j r ps is_router is_placed.
      let c : _ = changed_element f i j w.routers r is_router in
      ap length (same_ports j r c) ∙ h.ports_placed j c.old ps c.there is_placed;
  inboxes = λ j q r x p k is_router is_port at is_link.
      let c : _ = changed_element f i j w.routers r is_router in
      h.inboxes j q c.old x p k c.there (ap (λ xs. slice_get xs q) (sym (same_ports j r c)) ∙ is_port) at is_link;
}
  where
    same_ports : (j : ℕ) (r : Router) (c : IsChanged f i j w.routers r) → r.ports ≡ c.old.ports
    same_ports j r c = by_test (j == i) refl
      where
        by_test : (b : Bool) → (j == i) ≡ b → r.ports ≡ c.old.ports
        by_test true same = ap (λ (y : Router). y.ports) (c.here (eqb-true j i same)) ∙ ports c.old
        by_test false differ = ap (λ (y : Router). y.ports) (c.elsewhere (λ e. true≢false (sym (eq-eqb j i e) ∙ differ)))

-- ---- a router's attachments change

-- they are of no port and no link
changed_attachments-kept : (i : ℕ) (f : Attachments → Attachments) (w : World) → IsWorld w → IsWorld (changed_attachments i f w)
changed_attachments-kept i f w h = record {
  links_known = h.links_known;
  places_apart = h.places_apart;
  routers_placed = h.routers_placed;
  attachments_placed = length-changed_at f i w.attachments ∙ h.attachments_placed;
  ports_placed = h.ports_placed;
  inboxes = h.inboxes;
}

-- ---- a router takes an item

-- what the item makes of the port that takes it
abbrev port_taking : Item → Port → Port
port_taking (Item.Up session cost) x = record { up = true; session = session; cost = cost }
port_taking (Item.Down session) x = record x { up = false; session = session }
port_taking (Item.Cost session cost) x = record x { session = session; cost = cost }
port_taking (Item.Message m) x = x

changed_at-id : {A : Type 0} (k : ℕ) (xs : List A) → changed_at k (λ x. x) xs ≡ xs
changed_at-id k [] = refl
changed_at-id zero (x ∷ xs) = refl
changed_at-id (suc k) (x ∷ xs) = ap (λ ys. x ∷ ys) (changed_at-id k xs)

ports-accepting : (q : ℕ) (item : Item) (r : Router) → (router_accepting q item r).ports ≡ changed_at q (port_taking item) r.ports
ports-accepting q (Item.Message m) r = sym (changed_at-id q r.ports)
ports-accepting q _ r = refl

-- the rest of the items leads on from the port as it is then
leads_on : (x : Port) (link : Bool) (item : Item) (rest : List Item) → ItemsLead x.up link (item ∷ rest) → ItemsLead (port_taking item x).up link rest
leads_on x link (Item.Up session cost) rest h = h.1
leads_on x link _ rest h = h.1

-- the end of a link from which the front item is taken
front_taken-here : (e : End) (k : Link) → (side e (with_front_taken e k)).inbox ≡ drop 1 (side e k).inbox
front_taken-here End.A k = refl
front_taken-here End.B k = refl

front_taken-up : (e : End) (k : Link) → (with_front_taken e k).up ≡ k.up
front_taken-up End.A k = refl
front_taken-up End.B k = refl

-- the other end stays
front_taken-across : (e d : End) (k : Link) → (d ≡ e → ⊥) → side d (with_front_taken e k) ≡ side d k
front_taken-across End.A End.B k apart = refl
front_taken-across End.B End.A k apart = refl
front_taken-across _ _ k apart = absurd (apart refl)

-- router i takes this item, which is the front one, from its port q at place p
module _ (i q : ℕ) (p : Place) (item : Item) (w : World) (h : IsWorld w) (at : place_at w i q ≡ Some p) (front : (k : Link) → slice_get w.links p.link ≡ Some k → slice_get (side p.end k).inbox 0 ≡ Some item) where
  abbrev taking : World
  taking = record w { links = changed_at p.link (with_front_taken p.end) w.links; routers = changed_at i (router_accepting q item) w.routers }

  same_place : (x : Place) → x.link ≡ p.link → x.end ≡ p.end → x ≡ p
  same_place x links ends = λ j. record { link = links j; end = ends j }

  -- another place sees its link as before
  other_place : (port : Bool) (x : Place) (k : Link) → (x ≡ p → ⊥) → (c : IsChanged (with_front_taken p.end) p.link x.link w.links k)
      → ItemsLead port c.old.up (side x.end c.old).inbox → ItemsLead port k.up (side x.end k).inbox
  other_place port x k apart c before = by_test (x.link == p.link) refl
    where
      by_test : (b : Bool) → (x.link == p.link) ≡ b → ItemsLead port k.up (side x.end k).inbox
      by_test true same =
          let links : x.link ≡ p.link = eqb-true x.link p.link same in
          let ends : x.end ≡ p.end → ⊥ = λ e. apart (same_place x links e) in
          subst (λ (y : Link). ItemsLead port y.up (side x.end y).inbox) (sym (c.here links))
          (subst (λ b. ItemsLead port b (side x.end (with_front_taken p.end c.old)).inbox) (sym (front_taken-up p.end c.old))
          (subst (λ (s : Side). ItemsLead port c.old.up s.inbox) (sym (front_taken-across p.end x.end c.old ends)) before))
      by_test false differ =
          let elsewhere : x.link ≡ p.link → ⊥ = λ e. true≢false (sym (eq-eqb x.link p.link e) ∙ differ) in
          subst (λ (y : Link). ItemsLead port y.up (side x.end y).inbox) (sym (c.elsewhere elsewhere)) before

  -- the port itself has the rest of the items before it
  taken_rest : (x : Port) (link : Bool) (items : List Item) → slice_get items 0 ≡ Some item → ItemsLead x.up link items → ItemsLead (port_taking item x).up link (drop 1 items)
  taken_rest x link [] none leads = absurd (None_not_Some none)
  taken_rest x link (y ∷ ys) some leads = leads_on x link item ys (subst (λ (z : Item). ItemsLead x.up link (z ∷ ys)) (Some_injective some) leads)

  own_place : (x : Port) (k : Link) → (c : IsChanged (with_front_taken p.end) p.link p.link w.links k) → ItemsLead x.up c.old.up (side p.end c.old).inbox
      → ItemsLead (port_taking item x).up k.up (side p.end k).inbox
  own_place x k c before =
      subst (λ (y : Link). ItemsLead (port_taking item x).up y.up (side p.end y).inbox) (sym (c.here refl))
      (subst (λ b. ItemsLead (port_taking item x).up b (side p.end (with_front_taken p.end c.old)).inbox) (sym (front_taken-up p.end c.old))
      (subst (λ xs. ItemsLead (port_taking item x).up c.old.up xs) (sym (front_taken-here p.end c.old))
      (taken_rest x c.old.up (side p.end c.old).inbox (front c.old c.there) before)))

  taking-inboxes : (j t : ℕ) (r : Router) (x : Port) (y : Place) (k : Link) → slice_get taking.routers j ≡ Some r → slice_get r.ports t ≡ Some x
      → place_at w j t ≡ Some y → slice_get taking.links y.link ≡ Some k → ItemsLead x.up k.up (side y.end k).inbox
  taking-inboxes j t r x y k is_router is_port at_y is_link = by_router (j == i) refl
    where
      c : IsChanged (router_accepting q item) i j w.routers r
      c = changed_element (router_accepting q item) i j w.routers r is_router

      l : IsChanged (with_front_taken p.end) p.link y.link w.links k
      l = changed_element (with_front_taken p.end) p.link y.link w.links k is_link

      before : (z : Port) → slice_get c.old.ports t ≡ Some z → ItemsLead z.up l.old.up (side y.end l.old).inbox
      before z there = h.inboxes j t c.old z y l.old c.there there at_y l.there

      by_port : (here : j ≡ i) → (d : IsChanged (port_taking item) q t c.old.ports x) → (b : Bool) → (t == q) ≡ b → ItemsLead x.up k.up (side y.end k).inbox
      by_port here d true same =
          let port_is : t ≡ q = eqb-true t q same in
          let place_is : y ≡ p = Some_injective (sym at_y ∙ ap (λ n. place_at w n t) here ∙ ap (place_at w i) port_is ∙ at) in
          let own : (z : Place) → z ≡ p → (m : IsChanged (with_front_taken p.end) p.link z.link w.links k) → ItemsLead d.old.up m.old.up (side z.end m.old).inbox → ItemsLead x.up k.up (side z.end k).inbox
          = λ z is. subst (λ (v : Place). (m : IsChanged (with_front_taken p.end) p.link v.link w.links k) → ItemsLead d.old.up m.old.up (side v.end m.old).inbox → ItemsLead x.up k.up (side v.end k).inbox) (sym is)
          (λ m leads. subst (λ (z : Port). ItemsLead z.up k.up (side p.end k).inbox) (sym (d.here port_is)) (own_place d.old k m leads))
          in
          own y place_is l (before d.old d.there)
      by_port here d false differ =
          let apart : t ≡ q → ⊥ = λ e. true≢false (sym (eq-eqb t q e) ∙ differ) in
          subst (λ (z : Port). ItemsLead z.up k.up (side y.end k).inbox) (sym (d.elsewhere apart))
          (other_place d.old.up y k (λ e. apart (h.places_apart j t i q p (at_y ∙ ap Some e) at).1) l (before d.old d.there))

      by_router : (b : Bool) → (j == i) ≡ b → ItemsLead x.up k.up (side y.end k).inbox
      by_router true same =
          let here : j ≡ i = eqb-true j i same in
          let ports : slice_get (changed_at q (port_taking item) c.old.ports) t ≡ Some x
          = ap (λ xs. slice_get xs t) (sym (ap (λ (z : Router). z.ports) (c.here here) ∙ ports-accepting q item c.old)) ∙ is_port in
          by_port here (changed_element (port_taking item) q t c.old.ports x ports) (t == q) refl
      by_router false differ =
          let apart : j ≡ i → ⊥ = λ e. true≢false (sym (eq-eqb j i e) ∙ differ) in
          let port : slice_get c.old.ports t ≡ Some x = ap (λ (z : Router). slice_get z.ports t) (sym (c.elsewhere apart)) ∙ is_port in
          other_place x.up y k (λ e. apart (h.places_apart j t i q p (at_y ∙ ap Some e) at).0) l (before x port)

  taking-kept : IsWorld taking
  taking-kept = record {
    links_known = λ j t y at_y. subst (λ n. y.link < n) (sym (length-changed_at (with_front_taken p.end) p.link w.links)) (h.links_known j t y at_y);
    places_apart = h.places_apart;
    routers_placed = h.routers_placed ∙ sym (length-changed_at (router_accepting q item) i w.routers);
    attachments_placed = h.attachments_placed ∙ sym (length-changed_at (router_accepting q item) i w.routers);
    ports_placed = λ j r ps is_router is_placed.
        let c : _ = changed_element (router_accepting q item) i j w.routers r is_router in
        ports_of j r c ∙ h.ports_placed j c.old ps c.there is_placed;
    inboxes = taking-inboxes;
  }
    where
      ports_of : (j : ℕ) (r : Router) (c : IsChanged (router_accepting q item) i j w.routers r) → length r.ports ≡ length c.old.ports
      ports_of j r c = by_test (j == i) refl
        where
          by_test : (b : Bool) → (j == i) ≡ b → length r.ports ≡ length c.old.ports
          by_test true same = ap (λ (z : Router). length z.ports) (c.here (eqb-true j i same)) ∙ ap length (ports-accepting q item c.old) ∙ length-changed_at (port_taking item) q c.old.ports
          by_test false differ = ap (λ (z : Router). length z.ports) (c.elsewhere (λ e. true≢false (sym (eq-eqb j i e) ∙ differ)))

-- ---- every step

-- the place and the item of a front that is there
front_parts : (w : World) (i q : ℕ) (item : Item) → front_at w i q ≡ Some item
    → (p : Place) × (place_at w i q ≡ Some p) × ((k : Link) → slice_get w.links p.link ≡ Some k → slice_get (side p.end k).inbox 0 ≡ Some item)
front_parts w i q item is = by_place (place_at w i q) refl is
  where
    by_place : (o : Option Place) → place_at w i q ≡ o → option_and_then (λ (s : Side). slice_get s.inbox 0) (option_and_then (λ (p : Place). option_map (side p.end) (slice_get w.links p.link)) o) ≡ Some item
        → (p : Place) × (place_at w i q ≡ Some p) × ((k : Link) → slice_get w.links p.link ≡ Some k → slice_get (side p.end k).inbox 0 ≡ Some item)
    by_place None at none = absurd (None_not_Some none)
    by_place (Some p) at some = (p, at, λ k there. sym (ap (λ o. option_and_then (λ (s : Side). slice_get s.inbox 0) (option_map (side p.end) o)) there) ∙ some)

-- a lawful step keeps what every world keeps
pub next-kept : (w : World) (s : Step) → Lawful w s → IsWorld w → IsWorld (next w s)
next-kept w (LinkUp l) lawful h = with_link-kept l link_come_up w (λ k is. come_up-keeps k (ap (λ (y : Link). y.up) (Some_injective (sym is ∙ lawful.1)) ∙ lawful.2)) h
next-kept w (LinkDown l) lawful h = with_link-kept l link_gone_down w (λ k is. gone_down-keeps k (ap (λ (y : Link). y.up) (Some_injective (sym is ∙ lawful.1)) ∙ lawful.2)) h
next-kept w (SetCost i q cost) lawful h = changed_link-kept i q (with_cost cost) w (λ p k at is. with_cost-keeps cost p.end k (up_at p k at is)) h
  where
    up_at : (p : Place) (k : Link) → place_at w i q ≡ Some p → slice_get w.links p.link ≡ Some k → k.up ≡ true
    up_at p k at is =
        let here : link_at w i q ≡ Some k = ap (option_and_then (λ (x : Place). slice_get w.links x.link)) at ∙ is in
        ap (λ (y : Link). y.up) (Some_injective (sym here ∙ lawful.3)) ∙ lawful.4
next-kept w (Deliver i q) lawful h = option_map_or-ind IsWorld (with_delivered i q w) (front_at w i q) _
    (option_map_or-ind IsWorld (with_noticed i w) (notice_at w i q) w h
    (λ x _. changed_router-kept i (router_at_home x) (changed_attachments i with_notice_taken w) (λ r. refl) (changed_attachments-kept i with_notice_taken w h)))
    delivered-kept
  where
    delivered-kept : (item : Item) → front_at w i q ≡ Some item → IsWorld (with_delivered i q w item)
    delivered-kept item is =
        let f : _ = front_parts w i q item is in
        subst IsWorld (sym (ap (λ o. changed_router i (router_accepting q item) (option_map_or (λ (x : Place). record w { links = changed_at x.link (with_front_taken x.end) w.links }) o w)) f.1))
        (taking-kept i q f.0 item w h f.1 f.2)
next-kept w (Publish i) lawful h = changed_router-kept i router_publishing w (λ r. refl) h
next-kept w (Release i) lawful h = option_map_or-ind IsWorld (with_released i w) (release_at w i) w h
    (λ m e. changed_router-kept i router_releasing (changed_link i m.port (with_message m) w) (λ r. refl) (changed_link-kept i m.port (with_message m) w (λ p k at is. with_message-keeps m p.end k) h))
next-kept w (Attach i p cost) lawful h = changed_attachments-kept i (with_attachment p cost) w h
next-kept w (Detach i p) lawful h = changed_attachments-kept i (without_attachment p) w h
