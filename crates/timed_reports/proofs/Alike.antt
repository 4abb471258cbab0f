-- Steps that move no way to a prefix: links stay up or down in their sessions, and the rows that were published for it and the attachments to it stay.
use Rattle.std.proofs.Common.{refl, sym, ap, subst, ◌∙◌, inl, inr, ◌≡◌, ◌⊎◌, ℕ, ◌+◌, Bool, true, false, not, cond, List, [], ◌∷◌, map, Option, Some, None, option_map, option_and_then, slice_get}
use Rattle.no_packet_loops.proofs.Common.{find-where_key, option_map_or, option_map_or-ind, map-changed_at, slice_get-map, false≢true, None_not_Some, Some_injective, prefix_cmp, prefix_eq, Prefix, Item, Held, End, A, B, Link, Router, Attachments, World, Place, side, other, changed_at, changed_side, changed_router, changed_link, changed_attachments, with_cost, with_item, with_front_taken, with_message, with_notice_taken, with_attachment, without_attachment, with_delivered, with_noticed, with_released, router_accepting, router_at_home, router_publishing, router_releasing, front_at, notice_at, release_at, place_at, next, Entry, attachment_at, IsWalk, walk_cost, Equal, is_eq, find as row_of, Step, SetCost, Deliver, Publish, Release, Attach, Detach}
use Rattle.no_packet_loops.specs.Packets.{control_entry, published_entry}
use Rattle.no_packet_loops.proofs.{Machines.prefix_same, Releasing.by_message, WorldLaws.row_of-put_other}
use Rattle.quiet_routes.specs.Routes.{IsChain}
use Rattle.reachability.specs.Ways.{HasWay, IsCutOff}
use Rattle.timed_reports.specs.{declared.spells.Watched.Watched, Looks.IsUnmarked, Looks.MarksMoved, Records.MovesNoWay, Records.moves_ways}

-- what a way sees of a link: whether it is up, its session, and the routers at its ends
pub record Shape : Type 0 where
  pub up : Bool
  pub session : ℕ
  pub a : ℕ
  pub b : ℕ

abbrev pub shape : Link → Shape
shape k = record { up = k.up; session = k.session; a = (k.a).router; b = (k.b).router }

-- of a router: the row for the prefix that it published
abbrev pub row_in : Prefix → Router → Option Entry
row_in p r = row_of prefix_cmp p (r.table).published

-- of its attachments: the cost of the one to the prefix
abbrev pub cost_in : Prefix → Attachments → Option ℕ
cost_in p a = row_of prefix_cmp p a.costs

-- two worlds in which ways to the prefix are the same
pub record IsAlike (p : Prefix) (w v : World) : Type 0 where
  pub places : v.places ≡ w.places
  pub links : map shape v.links ≡ map shape w.links
  pub routers : map (row_in p) v.routers ≡ map (row_in p) w.routers
  pub attachments : map (cost_in p) v.attachments ≡ map (cost_in p) w.attachments

alike_itself : (p : Prefix) (w : World) → IsAlike p w w
alike_itself p w = record { places = refl; links = refl; routers = refl; attachments = refl }

pub alike_turned : (p : Prefix) (w v : World) → IsAlike p w v → IsAlike p v w
alike_turned p w v S = record { places = sym S.places; links = sym S.links; routers = sym S.routers; attachments = sym S.attachments }

-- what stands in the one stands in the other, alike
there : {X Y : Type 0} (g : X → Y) (xs ys : List X) (i : ℕ) (x : X) → map g ys ≡ map g xs → slice_get xs i ≡ Some x → (y : X) × (slice_get ys i ≡ Some y) × (g y ≡ g x)
there {X} g xs ys i x same at = by_place (slice_get ys i) refl
  where
    seen : option_map g (slice_get ys i) ≡ Some (g x)
    seen = sym (slice_get-map g ys i) ∙ ap (λ zs. slice_get zs i) same ∙ slice_get-map g xs i ∙ ap (option_map g) at

    by_place : (o : Option X) → slice_get ys i ≡ o → (y : X) × (slice_get ys i ≡ Some y) × (g y ≡ g x)
    by_place None is = absurd (None_not_Some (sym (ap (option_map g) is) ∙ seen))
    by_place (Some y) is = (y, is, Some_injective (sym (ap (option_map g) is) ∙ seen))

-- an element's view, or nothing
viewed : {X Y Z : Type 0} (g : X → Y) (f : Y → Option Z) (xs ys : List X) (i : ℕ) → map g ys ≡ map g xs → option_and_then (λ (x : X). f (g x)) (slice_get ys i) ≡ option_and_then (λ (x : X). f (g x)) (slice_get xs i)
viewed {X} {Y} {Z} g f xs ys i same = split ys ∙ ap (λ (zs : List Y). option_and_then f (slice_get zs i)) same ∙ sym (split xs)
  where
    by_place : (o : Option X) → option_and_then (λ (x : X). f (g x)) o ≡ option_and_then f (option_map g o)
    by_place None = refl
    by_place (Some x) = refl

    split : (zs : List X) → option_and_then (λ (x : X). f (g x)) (slice_get zs i) ≡ option_and_then f (slice_get (map g zs) i)
    split zs = by_place (slice_get zs i) ∙ ap (option_and_then f) (sym (slice_get-map g zs i))

module _ (p : Prefix) (w v : World) (S : IsAlike p w v) where
  row_same : (i : ℕ) → published_entry v i p ≡ published_entry w i p
  row_same i = viewed (row_in p) (λ (o : Option Entry). o) w.routers v.routers i S.routers

  attached_same : (i : ℕ) → attachment_at v i p ≡ attachment_at w i p
  attached_same i = viewed (cost_in p) (λ (o : Option ℕ). o) w.attachments v.attachments i S.attachments

  place_same : (i q : ℕ) → place_at v i q ≡ place_at w i q
  place_same i q = ap (λ (ps : List (List Place)). option_and_then (λ (xs : List Place). slice_get xs q) (slice_get ps i)) S.places

  end_same : (e : End) (k m : Link) → shape m ≡ shape k → (side e m).router ≡ (side e k).router
  end_same A k m same = ap (λ (s : Shape). s.a) same
  end_same B k m same = ap (λ (s : Shape). s.b) same

  chain_alike : (i : ℕ) (xs : List Place) (home : ℕ) → IsChain w p i xs home → IsChain v p i xs home
  chain_alike i [] home (here, is_local) = (here, row_same i ∙ is_local)
  chain_alike i (x ∷ xs) home (H, rest) =
      let (m, at, same) = there shape w.links v.links x.link H.link S.links H.is_link in (
        record {
          port = H.port;
          link = m;
          is_place = place_same i H.port ∙ H.is_place;
          is_link = at;
          is_up = ap (λ (s : Shape). s.up) same ∙ H.is_up;
          row = row_same i ∙ H.row ∙ ap (λ (s : Shape). Some (Entry.Via H.port s.session)) (sym same);
        },
        subst (λ (k : ℕ). IsChain v p k xs home) (sym (end_same (other x.end) H.link m same)) (chain_alike (side (other x.end) H.link).router xs home rest),
      )

  way_alike : (i : ℕ) → HasWay w p i → HasWay v p i
  way_alike i W = record { home = W.home; chain = W.chain; leads = chain_alike i W.chain W.home W.leads; cost = W.cost; attached = attached_same W.home ∙ W.attached }

  walk_alike : (i : ℕ) (xs : List Place) (home : ℕ) → IsWalk w i xs home → IsWalk v i xs home
  walk_alike i [] home here = here
  walk_alike i (x ∷ xs) home (k, at, up, near, rest) =
      let (m, is, same) = there shape w.links v.links x.link k S.links at in
      (m, is, ap (λ (s : Shape). s.up) same ∙ up, end_same x.end k m same ∙ near, subst (λ (j : ℕ). IsWalk v j xs home) (sym (end_same (other x.end) k m same)) (walk_alike (side (other x.end) k).router xs home rest))

pub cut_off_alike : (p : Prefix) (w v : World) → IsAlike p w v → (i : ℕ) → IsCutOff p i w → IsCutOff p i v
cut_off_alike p w v S i C =
    let (r, at, same) = there (row_in p) w.routers v.routers i C.router S.routers C.at in
    record {
      router = r;
      at = at;
      home = C.home;
      walk = C.walk;
      cost = walk_cost v C.walk + (C.reaches).attachment;
      reaches = record {
        walk = walk_alike p w v S i C.walk C.home (C.reaches).walk;
        attachment = (C.reaches).attachment;
        attached = attached_same p w v S C.home ∙ (C.reaches).attached;
        cost_is = refl;
      };
      no_way = λ (way : HasWay v p i). C.no_way (way_alike p v w (alike_turned p w v S) i way);
    }

-- ---- steps

module _ (p : Prefix) where
  alike_link : (w : World) (i q : ℕ) (f : End → Link → Link) → ((e : End) (k : Link) → shape (f e k) ≡ shape k) → IsAlike p w (changed_link i q f w)
  alike_link w i q f same = option_map_or-ind (IsAlike p w) (λ (x : Place). record w { links = changed_at x.link (f x.end) w.links }) (place_at w i q) w (alike_itself p w)
      (λ x is. record { places = refl; links = map-changed_at (f x.end) shape x.link w.links (λ k at. same x.end k); routers = refl; attachments = refl })

  alike_router : (w u : World) (i : ℕ) (f : Router → Router) → ((r : Router) → row_in p (f r) ≡ row_in p r) → IsAlike p w u → IsAlike p w (changed_router i f u)
  alike_router w u i f same S = record { places = S.places; links = S.links; routers = map-changed_at f (row_in p) i u.routers (λ r at. same r) ∙ S.routers; attachments = S.attachments }

  alike_attached : (w : World) (i : ℕ) (f : Attachments → Attachments) → ((a : Attachments) → cost_in p (f a) ≡ cost_in p a) → IsAlike p w (changed_attachments i f w)
  alike_attached w i f same = record { places = refl; links = refl; routers = refl; attachments = map-changed_at f (cost_in p) i w.attachments (λ a at. same a) }

  shape_cost : (cost : ℕ) (e : End) (k : Link) → shape (with_cost cost e k) ≡ shape k
  shape_cost cost A k = refl
  shape_cost cost B k = refl

  shape_taken : (e : End) (k : Link) → shape (with_front_taken e k) ≡ shape k
  shape_taken A k = refl
  shape_taken B k = refl

  shape_message : (h : Held) (e : End) (k : Link) → shape (with_message h e k) ≡ shape k
  shape_message h e k = by_message (λ (z : Link). shape z ≡ shape k) h e k refl (by_end (other e))
    where
      by_end : (d : End) → shape (changed_side d (with_item (Item.Message h.message)) k) ≡ shape k
      by_end A = refl
      by_end B = refl

  row_accepting : (q : ℕ) (item : Item) (r : Router) → row_in p (router_accepting q item r) ≡ row_in p r
  row_accepting q (Item.Up session cost) r = refl
  row_accepting q _ r = refl

  -- a router that publishes the row that it had published
  row_publishing : (w : World) (i : ℕ) → control_entry w i p ≡ published_entry w i p → (r : Router) → slice_get w.routers i ≡ Some r → row_in p (router_publishing r) ≡ row_in p r
  row_publishing w i kept r at =
      sym (ap (option_and_then (λ (x : Router). row_of prefix_cmp p (x.table).control)) at) ∙ kept ∙ ap (option_and_then (row_in p)) at

  -- attachments to another prefix
  cost_detaching : (q : Prefix) → prefix_eq p q ≡ false → (a : Attachments) → cost_in p (without_attachment q a) ≡ cost_in p a
  cost_detaching q apart a =
      find-where_key prefix_cmp (λ x. not (prefix_eq x q)) p tied a.costs ∙ ap (λ (b : Bool). cond (not b) (cost_in p a) None) apart
    where
      tied : (x : Prefix) → prefix_cmp p x ≡ Equal → not (prefix_eq x q) ≡ not (prefix_eq p q)
      tied x same = ap (λ (y : Prefix). not (prefix_eq y q)) (sym (prefix_same p x (ap is_eq same)))

  -- a step that moves no way to it
  pub alike_after : (w : World) (s : Step) → MovesNoWay w s p → IsAlike p w (next w s)
  alike_after w (SetCost i q cost) still = alike_link w i q (with_cost cost) (shape_cost cost)
  alike_after w (Deliver i q) still = option_map_or-ind (IsAlike p w) (with_delivered i q w) (front_at w i q) (option_map_or (with_noticed i w) (notice_at w i q) w)
      (option_map_or-ind (IsAlike p w) (with_noticed i w) (notice_at w i q) w (alike_itself p w)
      (λ n is. alike_router w (changed_attachments i with_notice_taken w) i (router_at_home n) (λ r. refl) (alike_attached w i with_notice_taken (λ a. refl))))
      (λ item is. alike_router w (changed_link i q with_front_taken w) i (router_accepting q item) (row_accepting q item) (alike_link w i q with_front_taken shape_taken))
  alike_after w (Publish i) still = record { places = refl; links = refl; routers = map-changed_at router_publishing (row_in p) i w.routers (row_publishing w i still); attachments = refl }
  alike_after w (Release i) still = option_map_or-ind (IsAlike p w) (with_released i w) (release_at w i) w (alike_itself p w)
      (λ h is. alike_router w (changed_link i h.port (with_message h) w) i router_releasing (λ r. refl) (alike_link w i h.port (with_message h) (shape_message h)))
  alike_after w (Attach i q cost) still = alike_attached w i (with_attachment q cost) (λ a. row_of-put_other p q cost a.costs still)
  alike_after w (Detach i q) still = alike_attached w i (without_attachment q) (cost_detaching q still)
  alike_after w _ still = absurd still

-- a step that moves no ways moves none to a prefix
pub still_moves_none : (w : World) (s : Step) (p : Prefix) → moves_ways s ≡ false → MovesNoWay w s p
still_moves_none w (SetCost i q cost) p none = tt
still_moves_none w (Deliver i q) p none = tt
still_moves_none w (Release i) p none = tt
still_moves_none w _ p none = absurd (false≢true (sym none))

-- so where nothing says that ways to a prefix moved, none did
pub none_moved : (w : World) (s : Step) (marks : List Bool) → (moves_ways s ≡ true → MarksMoved w s marks) → (c : Watched) → (moves_ways s ≡ false) ⊎ IsUnmarked w.prefixes marks c → MovesNoWay w s c.prefix
none_moved w s marks marked c (inl none) = still_moves_none w s c.prefix none
none_moved w s marks marked c (inr (k, at, unmarked)) = by_step (moves_ways s) refl
  where
    by_step : (b : Bool) → moves_ways s ≡ b → MovesNoWay w s c.prefix
    by_step true moves = marked moves k c.prefix at unmarked
    by_step false none = still_moves_none w s c.prefix none
