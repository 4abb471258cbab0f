-- A step that is no publication of a router ripens none of its messages.
use Rattle.std.proofs.Common.{refl, sym, ◌∙◌, ap, subst, arith, inl, inr, ◌≡◌, ℕ, ◌-◌, ◌≤◌, zero, suc, Bool, true, false, if◌then◌else◌, List, [], ◌∷◌, ◌++◌, Option, Some, None, length, slice_get, option_map, take, drop}
use Rattle.no_packet_loops.proofs.Common.{option_map_or, cases_eq, take-append-le, take-nil, Prefix, changed_at, Item, Held, Router, World, Lawful, next, router_accepting, router_at_home, router_publishing, router_releasing, with_front_taken, with_cost, with_message, with_delivered, with_noticed, with_released, front_at, notice_at, release_at, option_map_or-ind, slice_get-changed_at, slice_get-changed_at_other, routers-changed_link, LinkEnd, is_kept, held_as, kept, ripe_of, Step, SetCost, Deliver, Publish, Release}
use Rattle.network_model.specs.View.{SeenHeld}

module _ (p : Prefix) where
  -- what a router may release of the prefix at a port
  abbrev pub ripe_at : List Router → LinkEnd → List SeenHeld
  ripe_at rs e = option_map_or (λ r. kept p e.port (ripe_of r)) (slice_get rs e.router) []

  -- the one router may release no more than the other
  abbrev NoMore : Router → Router → Type 0
  NoMore r r' = (q : ℕ) → length (kept p q (ripe_of r')) ≤ length (kept p q (ripe_of r))

  -- so it is at each end of a router that is changed so
  changed_no_more : (i : ℕ) (g : Router → Router) (rs : List Router) → ((r : Router) → slice_get rs i ≡ Some r → NoMore r (g r)) → (e : LinkEnd) → length (ripe_at (changed_at i g rs) e) ≤ length (ripe_at rs e)
  changed_no_more i g rs less e = elim (cases_eq e.router i) [
    | inl at ↦ by_old (slice_get rs i) refl (ap (slice_get (changed_at i g rs)) at ∙ slice_get-changed_at g i rs) (ap (slice_get rs) at)
    | inr d ↦ (let s : ripe_at (changed_at i g rs) e ≡ ripe_at rs e = ap (λ o. option_map_or (λ r. kept p e.port (ripe_of r)) o []) (slice_get-changed_at_other g i e.router rs d) in let l = ap (λ xs. length xs) s in omega (arith, l))
  ]
    where
      by_old : (o : Option Router) → slice_get rs i ≡ o → slice_get (changed_at i g rs) e.router ≡ option_map g (slice_get rs i) → slice_get rs e.router ≡ slice_get rs i → length (ripe_at (changed_at i g rs) e) ≤ length (ripe_at rs e)
      by_old None is new old =
          let a : ripe_at (changed_at i g rs) e ≡ [] = ap (λ o. option_map_or (λ r. kept p e.port (ripe_of r)) o []) (new ∙ ap (option_map g) is) in
          let l = ap (λ xs. length xs) a in
          omega (arith, l)
      by_old (Some r) is new old =
          let a : ripe_at (changed_at i g rs) e ≡ kept p e.port (ripe_of (g r)) = ap (λ o. option_map_or (λ r. kept p e.port (ripe_of r)) o []) (new ∙ ap (option_map g) is) in
          let b : ripe_at rs e ≡ kept p e.port (ripe_of r) = ap (λ o. option_map_or (λ r. kept p e.port (ripe_of r)) o []) (old ∙ is) in
          let l = ap (λ xs. length xs) a in
          let m = ap (λ xs. length xs) b in
          let n = less r is e.port in
          omega (arith, l, m, n)

  -- what is held behind changes nothing of what may be released
  behind : (r r' : Router) (sent : List Held) → (r'.gate).ripe ≡ (r.gate).ripe → (r'.gate).held ≡ (r.gate).held ++ sent → (r.gate).ripe ≤ length (r.gate).held → NoMore r r'
  behind r r' sent ripe held within q =
      let same : ripe_of r' ≡ ripe_of r = (λ z. take (ripe z) (held z)) ∙ take-append-le (r.gate).ripe (r.gate).held sent within in
      let l = ap (λ xs. length (kept p q xs)) same in
      omega (arith, l)

  -- a router that takes an item ripens nothing
  accepting : (q : ℕ) (item : Item) (r : Router) → (r.gate).ripe ≤ length (r.gate).held → NoMore r (router_accepting q item r)
  accepting q (Item.Up session cost) r within = behind r (router_accepting q (Item.Up session cost) r) _ refl refl within
  accepting q (Item.Down session) r within = behind r (router_accepting q (Item.Down session) r) _ refl refl within
  accepting q (Item.Cost session cost) r within = behind r (router_accepting q (Item.Cost session cost) r) _ refl refl within
  accepting q (Item.Message m) r within = behind r (router_accepting q (Item.Message m) r) _ refl refl within

  -- fewer are taken once the first is gone
  fewer : (q n : ℕ) (hs : List Held) → length (kept p q (take (n - 1) (drop 1 hs))) ≤ length (kept p q (take n hs))
  fewer q zero [] = omega arith
  fewer q (suc n) [] = (let l = ap (λ hs. length (kept p q hs)) (take-nil {A = Held} (suc n - 1)) in omega (arith, l))
  fewer q zero (h ∷ hs) = omega arith
  fewer q (suc n) (h ∷ hs) = by_kept (is_kept p q h)
    where
      by_kept : (b : Bool) → length (kept p q (take (suc n - 1) hs)) ≤ length (if b then held_as h ∷ kept p q (take n hs) else kept p q (take n hs))
      by_kept b = (let e : suc n - 1 ≡ n = omega arith in let l = ap (λ m. length (kept p q (take m hs))) e in by_bool b l)
        where
          by_bool : (c : Bool) → length (kept p q (take (suc n - 1) hs)) ≡ length (kept p q (take n hs)) → length (kept p q (take (suc n - 1) hs)) ≤ length (if c then held_as h ∷ kept p q (take n hs) else kept p q (take n hs))
          by_bool true l = omega (arith, l)
          by_bool false l = omega (arith, l)

  -- a router that releases ripens nothing
  releasing : (r : Router) → NoMore r (router_releasing r)
  releasing r q = fewer q (r.gate).ripe (r.gate).held

  -- nothing ripens in a step, but at the router that publishes
  pub ripens_nothing : (w : World) (s : Step) → Lawful w s → ((i : ℕ) (r : Router) → slice_get w.routers i ≡ Some r → (r.gate).ripe ≤ length (r.gate).held)
      → (e : LinkEnd) → (s ≡ Publish e.router → ⊥) → length (ripe_at (next w s).routers e) ≤ length (ripe_at w.routers e)
  ripens_nothing w (SetCost i q c) L within e d = subst (λ (xs : List Router). length (ripe_at xs e) ≤ length (ripe_at w.routers e)) (sym (routers-changed_link i q (with_cost c) w)) (omega arith)
  ripens_nothing w (Deliver i q) L within e d = option_map_or-ind (λ (v : World). length (ripe_at v.routers e) ≤ length (ripe_at w.routers e)) (with_delivered i q w) (front_at w i q) (option_map_or (with_noticed i w) (notice_at w i q) w)
      (option_map_or-ind (λ (v : World). length (ripe_at v.routers e) ≤ length (ripe_at w.routers e)) (with_noticed i w) (notice_at w i q) w (omega arith)
      (λ x is. changed_no_more i (router_at_home x) w.routers (λ r at. behind r (router_at_home x r) _ refl refl (within i r at)) e))
      (λ item is. subst (λ (xs : List Router). length (ripe_at (changed_at i (router_accepting q item) xs) e) ≤ length (ripe_at w.routers e)) (sym (routers-changed_link i q with_front_taken w))
      (changed_no_more i (router_accepting q item) w.routers (λ r at. accepting q item r (within i r at)) e))
  ripens_nothing w (Publish i) L within e d =
      let s : ripe_at (changed_at i router_publishing w.routers) e ≡ ripe_at w.routers e = ap (λ o. option_map_or (λ r. kept p e.port (ripe_of r)) o []) (slice_get-changed_at_other router_publishing i e.router w.routers (λ k. d (ap (λ (j : ℕ). Publish j) (sym k)))) in
      let l = ap (λ xs. length xs) s in
      omega (arith, l)
  ripens_nothing w (Release i) L within e d = option_map_or-ind (λ (v : World). length (ripe_at v.routers e) ≤ length (ripe_at w.routers e)) (with_released i w) (release_at w i) w (omega arith)
      (λ h is. subst (λ (xs : List Router). length (ripe_at (changed_at i router_releasing xs) e) ≤ length (ripe_at w.routers e)) (sym (routers-changed_link i h.port (with_message h) w))
      (changed_no_more i router_releasing w.routers (λ r at. releasing r) e))
  ripens_nothing w _ L within e d = omega arith
