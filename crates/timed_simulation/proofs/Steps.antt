-- A step that is done at a moment leaves the moments of items and of publications on time.
use Rattle.std.proofs.Common.{refl, sym, ap, subst, ◌∙◌, arith, inl, inr, ltb-true, lt-ltb, ◌≡◌, ◌≢◌, ◌⊎◌, ℕ, ◌+◌, ◌-◌, ◌<◌, ◌≤◌, Bool, true, false, not, ◌||◌, nat_lt, if◌then◌else◌, List, [], ◌∷◌, drop, filter, length, Option, Some, None, option_map, option_and_then, slice_get}
use Rattle.no_packet_loops.proofs.Common.{option_map_or, or_cases, false≢true, length-changed_at, None_not_Some, Some_injective, routers-changed_link, changed_at, with_cost, with_delivered, with_front_taken, with_item, with_message, with_noticed, with_released, link_come_up, link_gone_down, router_accepting, router_at_home, router_publishing, router_releasing, other, place_at, front_at, notice_at, release_at, is_due, is_notice, is_up_in, next, Lawful, Held, Item, Notice, Place, End, A, B, Link, Router, World, Step, LinkUp, LinkDown, SetCost, Deliver, Publish, Release, has_changes}
use Rattle.world.specs.Steps.{is_stale}
use Rattle.timed_simulation.specs.declared.links.Motion.TheVariants.{Told, Cut, Put, Taken}
use Rattle.timed_simulation.specs.{declared.events.RouterTime.RouterTime, Timed.begins_at, Timed.is_due_at, Timed.routers_after, Due.IsTimelyLink, Due.AreTimelyLinks, Due.AreTimelyRouters}
use Rattle.timed_simulation.specs.Links.{TimedLink, last_moment, later, links_after, motion_of, link_moved, without_messages}
use Rattle.timed_simulation.proofs.Ports.{port_of_notice, port_of_place}
use Rattle.timed_simulation.proofs.Timely.{put_timely, taken_timely, cut_timely, changed_both, changed_alone, changed_from}

-- ---- links

module _ (w : World) (m : ℕ) (fits : m ≤ last_moment) (xs : List TimedLink) (T : AreTimelyLinks m w.links xs) where
  -- an end is told of a cost
  told_cost : (i q cost : ℕ) (o : Option Place) → AreTimelyLinks m (option_map_or (λ (p : Place). record w { links = changed_at p.link (with_cost cost p.end) w.links }) o w).links (links_after m (option_map (λ (p : Place). (p.link, Put p.end true)) o) xs)
  told_cost i q cost None = T
  told_cost i q cost (Some p) = changed_both m p.link w.links xs T (with_cost cost p.end) (link_moved m (Put p.end true)) (λ k x _ K. at_end p.end k x K)
    where
      at_end : (e : End) (k : Link) (x : TimedLink) → IsTimelyLink m k x → IsTimelyLink m (with_cost cost e k) (link_moved m (Put e true) x)
      at_end A k x K = record { to_a = put_timely m (k.a).inbox (Item.Cost k.session cost) x.to_a fits K.to_a; to_b = K.to_b }
      at_end B k x K = record { to_a = K.to_a; to_b = put_timely m (k.b).inbox (Item.Cost k.session cost) x.to_b fits K.to_b }

  -- an item is taken
  taken : (o : Option Place) → AreTimelyLinks m (option_map_or (λ (p : Place). record w { links = changed_at p.link (with_front_taken p.end) w.links }) o w).links (links_after m (option_map (λ (p : Place). (p.link, Taken p.end)) o) xs)
  taken None = T
  taken (Some p) = changed_both m p.link w.links xs T (with_front_taken p.end) (link_moved m (Taken p.end)) (λ k x _ K. at_end p.end k x K)
    where
      at_end : (e : End) (k : Link) (x : TimedLink) → IsTimelyLink m k x → IsTimelyLink m (with_front_taken e k) (link_moved m (Taken e) x)
      at_end A k x K = record { to_a = taken_timely m (k.a).inbox x.to_a K.to_a; to_b = K.to_b }
      at_end B k x K = record { to_a = K.to_a; to_b = taken_timely m (k.b).inbox x.to_b K.to_b }

  -- at the port of a notice there is no link
  at_home : (i q : ℕ) (n : Notice) → notice_at w i q ≡ Some n → place_at w i q ≡ None
  at_home i q n at = by_place (place_at w i q) refl
    where
      by_place : (o : Option Place) → place_at w i q ≡ o → o ≡ None
      by_place None there = refl
      by_place (Some p) there =
          let (degree, _) = port_of_notice w i q n at in
          let (d, is, below) = port_of_place w i q p there in
          let same : q ≡ d = Some_injective (sym degree ∙ is) in
          absurd (omega (arith, same, below))

  -- a notice of an attachment is taken
  told_home : (i q : ℕ) (n : Notice) → notice_at w i q ≡ Some n → (o : Option Notice) → AreTimelyLinks m (option_map_or (with_noticed i w) o w).links (links_after m (option_map (λ (p : Place). (p.link, Taken p.end)) (place_at w i q)) xs)
  told_home i q n at o = subst (λ (x : Option Place). AreTimelyLinks m (option_map_or (with_noticed i w) o w).links (links_after m (option_map (λ (p : Place). (p.link, Taken p.end)) x) xs)) (sym (at_home i q n at)) (by_notice o)
    where
      by_notice : (o : Option Notice) → AreTimelyLinks m (option_map_or (with_noticed i w) o w).links xs
      by_notice None = T
      by_notice (Some x) = T

  -- a message is put on its link, or discarded
  released : (i : ℕ) (h : Held) (o : Option Place) → AreTimelyLinks m (option_map_or (λ (p : Place). record w { links = changed_at p.link (with_message h p.end) w.links }) o w).links
      (links_after m (if not (option_map_or (is_up_in h.session) (option_and_then (λ (p : Place). slice_get w.links p.link) o) false) then None else option_map (λ (p : Place). (p.link, Put (other p.end) false)) o) xs)
  released i h None = T
  released i h (Some p) = by_link (slice_get w.links p.link) refl
    where
      put_over : (e : End) (k : Link) (x : TimedLink) → is_up_in h.session k ≡ true → IsTimelyLink m k x → IsTimelyLink m (with_message h e k) (link_moved m (Put (other e) false) x)
      put_over A k x up K = subst (λ (b : Bool). IsTimelyLink m (if b then record k { b = with_item (Item.Message h.message) k.b } else k) (link_moved m (Put B false) x)) (sym up) (record { to_a = K.to_a; to_b = put_timely m (k.b).inbox (Item.Message h.message) x.to_b fits K.to_b })
      put_over B k x up K = subst (λ (b : Bool). IsTimelyLink m (if b then record k { a = with_item (Item.Message h.message) k.a } else k) (link_moved m (Put A false) x)) (sym up) (record { to_a = put_timely m (k.a).inbox (Item.Message h.message) x.to_a fits K.to_a; to_b = K.to_b })

      left_off : (e : End) (k : Link) (x : TimedLink) → is_up_in h.session k ≡ false → IsTimelyLink m k x → IsTimelyLink m (with_message h e k) x
      left_off A k x down K = subst (λ (b : Bool). IsTimelyLink m (if b then record k { b = with_item (Item.Message h.message) k.b } else k) x) (sym down) K
      left_off B k x down K = subst (λ (b : Bool). IsTimelyLink m (if b then record k { a = with_item (Item.Message h.message) k.a } else k) x) (sym down) K

      by_session : (k : Link) → slice_get w.links p.link ≡ Some k → (b : Bool) → is_up_in h.session k ≡ b → AreTimelyLinks m (changed_at p.link (with_message h p.end) w.links) (links_after m (if not b then None else Some (p.link, Put (other p.end) false)) xs)
      by_session k at true up = changed_both m p.link w.links xs T (with_message h p.end) (link_moved m (Put (other p.end) false)) (λ y x there K. put_over p.end y x (ap (is_up_in h.session) (Some_injective (sym there ∙ at)) ∙ up) K)
      by_session k at false down = changed_alone m p.link w.links xs T (with_message h p.end) (λ y x there K. left_off p.end y x (ap (is_up_in h.session) (Some_injective (sym there ∙ at)) ∙ down) K)

      by_link : (o : Option Link) → slice_get w.links p.link ≡ o → AreTimelyLinks m (changed_at p.link (with_message h p.end) w.links) (links_after m (if not (option_map_or (is_up_in h.session) o false) then None else Some (p.link, Put (other p.end) false)) xs)
      by_link None at = changed_alone m p.link w.links xs T (with_message h p.end) (λ y x there K. absurd (None_not_Some (sym at ∙ there)))
      by_link (Some k) at = by_session k at (is_up_in h.session k) refl

  pub links_next : (s : Step) → Lawful w s → AreTimelyLinks m (next w s).links (links_after m (motion_of w s) xs)
  links_next (LinkUp l) L = changed_both m l w.links xs T link_come_up (link_moved m Told) (λ k x _ K. record {
    to_a = put_timely m (k.a).inbox (Item.Up (k.session + 1) (k.a).cost) x.to_a fits K.to_a;
    to_b = put_timely m (k.b).inbox (Item.Up (k.session + 1) (k.b).cost) x.to_b fits K.to_b;
  })
  links_next (LinkDown l) L = changed_both m l w.links xs T link_gone_down (link_moved m Cut) (λ k x _ K. record {
    to_a = put_timely m (filter is_notice (k.a).inbox) (Item.Down k.session) (without_messages x.to_a) fits (cut_timely m (k.a).inbox x.to_a K.to_a);
    to_b = put_timely m (filter is_notice (k.b).inbox) (Item.Down k.session) (without_messages x.to_b) fits (cut_timely m (k.b).inbox x.to_b K.to_b);
  })
  links_next (SetCost i q cost) L = told_cost i q cost (place_at w i q)
  links_next (Deliver i q) L = by_front (front_at w i q) refl
    where
      by_front : (o : Option Item) → front_at w i q ≡ o → AreTimelyLinks m (option_map_or (with_delivered i q w) o (option_map_or (with_noticed i w) (notice_at w i q) w)).links (links_after m (option_map (λ (p : Place). (p.link, Taken p.end)) (place_at w i q)) xs)
      by_front (Some item) front = taken (place_at w i q)
      by_front None front = by_kind L.2
        where
          by_kind : ((item : Item) × (front_at w i q ≡ Some item)) ⊎ ((n : Notice) × (notice_at w i q ≡ Some n)) → AreTimelyLinks m (option_map_or (with_noticed i w) (notice_at w i q) w).links (links_after m (option_map (λ (p : Place). (p.link, Taken p.end)) (place_at w i q)) xs)
          by_kind (inl item) = absurd (None_not_Some (sym front ∙ item.1))
          by_kind (inr n) = told_home i q n.0 n.1 (notice_at w i q)
  links_next (Release i) L = by_held (release_at w i)
    where
      by_held : (o : Option Held) → AreTimelyLinks m (option_map_or (with_released i w) o w).links (links_after m (option_and_then (λ (h : Held). if is_stale w i h then None else option_map (λ (p : Place). (p.link, Put (other p.end) false)) (place_at w i h.port)) o) xs)
      by_held None = T
      by_held (Some h) = released i h (place_at w i h.port)
  links_next _ L = T

-- ---- routers

-- of a router that releases a message nothing more is due
pub still_due : (r : Router) → is_due (router_releasing r) ≡ true → is_due r ≡ true
still_due r due = by_cause (or_cases (has_changes r) (nat_lt ((r.gate).ripe - 1) (length (drop 1 (r.gate).held))) due)
  where
    more : (held : List Held) → nat_lt ((r.gate).ripe - 1) (length (drop 1 held)) ≡ true → nat_lt (r.gate).ripe (length held) ≡ true
    more [] lt = (let less : (r.gate).ripe - 1 < 0 = ltb-true ((r.gate).ripe - 1) 0 lt in absurd (omega (arith, less)))
    more (h ∷ hs) lt = (let less : (r.gate).ripe - 1 < length hs = ltb-true ((r.gate).ripe - 1) (length hs) lt in lt-ltb (r.gate).ripe (length (h ∷ hs)) (omega (arith, less)))

    or_left : (b c : Bool) → b ≡ true → (b || c) ≡ true
    or_left true c is = refl
    or_left false c is = absurd (false≢true is)

    or_right : (b c : Bool) → c ≡ true → (b || c) ≡ true
    or_right true c is = refl
    or_right false c is = is

    by_cause : (has_changes r ≡ true) ⊎ (nat_lt ((r.gate).ripe - 1) (length (drop 1 (r.gate).held)) ≡ true) → is_due r ≡ true
    by_cause (inl changed) = or_left (has_changes r) (nat_lt (r.gate).ripe (length (r.gate).held)) changed
    by_cause (inr held) = or_right (has_changes r) (nat_lt (r.gate).ripe (length (r.gate).held)) (more (r.gate).held held)

module _ (w : World) (m : ℕ) (fits : m ≤ last_moment) (xs : List RouterTime) (T : AreTimelyRouters m w.routers xs) where
  -- a router is changed, which has something to publish only if it had before
  changed_due : (i : ℕ) (f : Router → Router) → ((r : Router) → slice_get w.routers i ≡ Some r → is_due (f r) ≡ true → is_due r ≡ true) → AreTimelyRouters m (changed_at i f w.routers) xs
  changed_due i f before = record {
    as_many = T.as_many ∙ sym (length-changed_at f i w.routers);
    each = λ j r x at there due. by_place j r x there due (changed_from f i j w.routers r at);
  }
    where
      by_place : (j : ℕ) (r : Router) (x : RouterTime) → slice_get xs j ≡ Some x → is_due r ≡ true → ((j ≡ i) × ((y : Router) × (slice_get w.routers j ≡ Some y) × (f y ≡ r))) ⊎ ((j ≢ i) × (slice_get w.routers j ≡ Some r)) → m ≤ later x.since x.delay
      by_place j r x there due (inl (here, (y, at, is))) = T.each j y x at there (before y (ap (slice_get w.routers) (sym here) ∙ at) (ap is_due is ∙ due))
      by_place j r x there due (inr (_, at)) = T.each j r x at there due

  -- a router is changed, and what it has to publish it has since now
  changed_now : (i : ℕ) (f : Router → Router) → AreTimelyRouters m (changed_at i f w.routers) (changed_at i (λ (x : RouterTime). record x { since = m }) xs)
  changed_now i f = record {
    as_many = length-changed_at (λ (x : RouterTime). record x { since = m }) i xs ∙ T.as_many ∙ sym (length-changed_at f i w.routers);
    each = λ j r x at there due. by_places j r x due (changed_from f i j w.routers r at) (changed_from (λ (x : RouterTime). record x { since = m }) i j xs x there);
  }
    where
      by_places : (j : ℕ) (r : Router) (x : RouterTime) → is_due r ≡ true → ((j ≡ i) × ((y : Router) × (slice_get w.routers j ≡ Some y) × (f y ≡ r))) ⊎ ((j ≢ i) × (slice_get w.routers j ≡ Some r))
          → ((j ≡ i) × ((y : RouterTime) × (slice_get xs j ≡ Some y) × (record y { since = m } ≡ x))) ⊎ ((j ≢ i) × (slice_get xs j ≡ Some x)) → m ≤ later x.since x.delay
      by_places j r x due at (inl (here, (y, there, is))) = subst (λ (z : RouterTime). m ≤ later z.since z.delay) is (omega (arith, fits))
      by_places j r x due (inl (here, _)) (inr (apart, _)) = absurd (apart here)
      by_places j r x due (inr (_, at)) (inr (_, there)) = T.each j r x at there due

  -- a router took an item
  accepted : (i : ℕ) (f : Router → Router) → AreTimelyRouters m (changed_at i f w.routers) (routers_after m (if is_due_at w i then None else Some i) xs)
  accepted i f = by_due (is_due_at w i) refl
    where
      by_due : (b : Bool) → is_due_at w i ≡ b → AreTimelyRouters m (changed_at i f w.routers) (routers_after m (if b then None else Some i) xs)
      by_due true due = changed_due i f (λ r at _. sym (ap (λ (o : Option Router). option_map_or is_due o false) at) ∙ due)
      by_due false _ = changed_now i f

  pub routers_next : (s : Step) → Lawful w s → AreTimelyRouters m (next w s).routers (routers_after m (begins_at w s) xs)
  routers_next (SetCost i q cost) L = subst (λ (rs : List Router). AreTimelyRouters m rs xs) (sym (routers-changed_link i q (with_cost cost) w)) T
  routers_next (Deliver i q) L = by_front (front_at w i q) refl
    where
      by_front : (o : Option Item) → front_at w i q ≡ o → AreTimelyRouters m (option_map_or (with_delivered i q w) o (option_map_or (with_noticed i w) (notice_at w i q) w)).routers (routers_after m (if is_due_at w i then None else Some i) xs)
      by_front (Some item) front = subst (λ (rs : List Router). AreTimelyRouters m (changed_at i (router_accepting q item) rs) (routers_after m (if is_due_at w i then None else Some i) xs)) (sym (routers-changed_link i q with_front_taken w)) (accepted i (router_accepting q item))
      by_front None front = by_kind L.2
        where
          by_kind : ((item : Item) × (front_at w i q ≡ Some item)) ⊎ ((n : Notice) × (notice_at w i q ≡ Some n)) → AreTimelyRouters m (option_map_or (with_noticed i w) (notice_at w i q) w).routers (routers_after m (if is_due_at w i then None else Some i) xs)
          by_kind (inl item) = absurd (None_not_Some (sym front ∙ item.1))
          by_kind (inr n) = subst (λ (o : Option Notice). AreTimelyRouters m (option_map_or (with_noticed i w) o w).routers (routers_after m (if is_due_at w i then None else Some i) xs)) (sym n.1) (accepted i (router_at_home n.0))
  routers_next (Publish i) L = changed_due i router_publishing (λ r at _. ap is_due (Some_injective (sym at ∙ L.1)) ∙ L.2)
  routers_next (Release i) L = by_held (release_at w i)
    where
      by_held : (o : Option Held) → AreTimelyRouters m (option_map_or (with_released i w) o w).routers xs
      by_held None = T
      by_held (Some h) = subst (λ (rs : List Router). AreTimelyRouters m (changed_at i router_releasing rs) xs) (sym (routers-changed_link i h.port (with_message h) w)) (changed_due i router_releasing (λ r _ due. still_due r due))
  routers_next _ L = T
