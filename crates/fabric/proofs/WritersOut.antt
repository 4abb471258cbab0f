-- Writers that are out: how many, and what stays due while they are.
use Rattle.std.proofs.Common.{inl, inr, refl, sym, ap, subst, ◌∙◌, arith, ◌≡◌, ◌⊎◌, ℕ, zero, suc, ◌+◌, ◌-◌, ◌<◌, ◌||◌, Bool, true, false, cond, nat_lt, List, [], ◌∷◌, drop, length, map, replicate, set, Option, Some, None, IfSome, is_some, slice_get, option_map, ltb-true, lt-ltb}
use Rattle.no_packet_loops.proofs.Common.{⊤, option_map_or, false≢true, slice_get-map, Held, changed_at, Router, World, next, changed_link, is_due, ripe_front, with_cost, with_delivered, with_front_taken, with_message, with_noticed, with_released, front_at, notice_at, release_at, router_accepting, router_at_home, router_publishing, router_releasing, Patch, None_not_Some, Some_injective, option_map_or-ind, routers-changed_link, Step, SetCost, Deliver, Publish, Release, has_changes}
use Rattle.image_patch.specs.Patches.{patched}
use Rattle.publication.specs.Lists.{Writing}
use Rattle.publication.proofs.Places.{each_there, there_each}
use Rattle.fabric.specs.{Desks.Desk, Desks.all_lent, Desks.desk_in, Writers.ArePending, Writers.IsPending}
use Rattle.fabric.specs.Fabric.{Fabric, awaits_lent, awaits_writer, count_lent, is_lent, lent_at}
use Rattle.course.specs.Images.{image_in_force}

-- ---- how many are out

abbrev pub one : Option Patch → ℕ
one o = cond (is_some o) 1 0

count-first : (o : Option Patch) (xs : List (Option Patch)) → count_lent (o ∷ xs) ≡ one o + count_lent xs
count-first None xs = omega arith
count-first (Some l) xs = omega arith

-- a writer that goes out or comes back changes the count by itself
pub count-set : (xs : List (Option Patch)) (i : ℕ) (y : Option Patch) → i < length xs → count_lent (set xs i y) + one (lent_at xs i) ≡ count_lent xs + one y
count-set [] i y within = absurd (omega (arith, within))
count-set (x ∷ xs) zero y within =
    let old = count-first x xs in
    let new = count-first y xs in
    omega (arith, old, new)
count-set (x ∷ xs) (suc i) y within =
    let old = count-first x xs in
    let new = count-first x (set xs i y) in
    let rest = count-set xs i y (omega (arith, within)) in
    omega (arith, old, new, rest)

pub none_lent : (writers : List Writing) → all_lent (map desk_in writers) ≡ replicate (length writers) None
none_lent [] = refl
none_lent (w ∷ ws) = ap (λ xs. None ∷ xs) (none_lent ws)

pub count-none : (n : ℕ) → count_lent (replicate n None) ≡ 0
count-none zero = refl
count-none (suc n) = count-none n

-- no patch is out of a writer that came back
pub lent_none : (xs : List (Option Patch)) (i : ℕ) → lent_at (set xs i None) i ≡ None
lent_none (x ∷ xs) (suc i) = lent_none xs i
lent_none _ _ = refl

-- the patch with which a writer is out is at its desk
pub lent_there : (desks : List Desk) (i : ℕ) (d : Desk) → slice_get desks i ≡ Some d → lent_at (all_lent desks) i ≡ d.out
lent_there desks i d at = ap (λ o. option_map_or (λ l. l) o None) (slice_get-map (λ (e : Desk). e.out) desks i ∙ ap (option_map (λ (e : Desk). e.out)) at)

-- a delivery and a publication wait for their router's writer
pub awaits_at : (lent : List (Option Patch)) (s : Step) (i k : ℕ) → i ≡ k → ((q : ℕ) × (s ≡ Deliver k q)) ⊎ (s ≡ Publish k) → is_some (lent_at lent i) ≡ awaits_lent lent s
awaits_at lent s i k same (inl delivers) = ap (λ (j : ℕ). is_some (lent_at lent j)) same ∙ sym (ap (awaits_lent lent) delivers.1)
awaits_at lent s i k same (inr publishes) = ap (λ (j : ℕ). is_some (lent_at lent j)) same ∙ sym (ap (awaits_lent lent) publishes)

-- a writer that is out after one went out or came back is that one, or was out
pub lent_set : (xs : List (Option Patch)) (i k : ℕ) (y : Option Patch) → is_some (lent_at (set xs i y) k) ≡ true → ((k ≡ i) × (is_some y ≡ true)) ⊎ (is_some (lent_at xs k) ≡ true)
lent_set (x ∷ xs) zero zero y out = inl (refl, out)
lent_set (x ∷ xs) (suc i) (suc k) y out = behind (lent_set xs i k y out)
  where
    behind : ((k ≡ i) × (is_some y ≡ true)) ⊎ (is_some (lent_at xs k) ≡ true) → ((suc k ≡ suc i) × (is_some y ≡ true)) ⊎ (is_some (lent_at xs k) ≡ true)
    behind (inl here) = inl (ap suc here.0, here.1)
    behind (inr there) = inr there
lent_set _ _ _ y out = inr out

-- ---- what stays due

-- the step is no delivery and no publication at router i: what is due there stays
abbrev pub Spares : Step → ℕ → Type 0
Spares (Deliver j q) i = i ≡ j → ⊥
Spares (Publish j) i = i ≡ j → ⊥
Spares _ i = ⊤

module _ {A : Type 0} (P : A → Type 0) (f : A → A) where
  -- an element of which a fact holds is there still where one is changed, and the fact holds of it
  at_changed : (k j : ℕ) (xs : List A) (x : A) → slice_get xs j ≡ Some x → P x → (j ≡ k → P (f x)) → (y : A) × (slice_get (changed_at k f xs) j ≡ Some y) × P y
  at_changed k j [] x at here changed = absurd (None_not_Some at)
  at_changed zero zero (z ∷ zs) x at here changed = (f x, ap (λ v. Some (f v)) (Some_injective at), changed refl)
  at_changed (suc k) (suc j) (z ∷ zs) x at here changed = at_changed k j zs x at here (λ same. changed (ap suc same))
  at_changed _ _ _ x at here changed = (x, at, here)

-- what is due at a router with this patch
abbrev IsDueBy : Patch → Router → Type 0
IsDueBy p r = (is_due r ≡ true) × (patched p.generation p.rows (image_in_force r) ≡ image_in_force (router_publishing r))

-- what is due stays due where a message is released
due_released : (p : Patch) (r : Router) → 0 < (r.gate).ripe → IsDueBy p r → IsDueBy p (router_releasing r)
due_released p r some due = (by_rows (has_changes r) due.0, due.1)
  where
    shorter : (hs : List Held) → nat_lt (r.gate).ripe (length hs) ≡ true → nat_lt ((r.gate).ripe - 1) (length (drop 1 hs)) ≡ true
    shorter [] less = absurd (let none = ltb-true (r.gate).ripe 0 less in omega (arith, none))
    shorter (h ∷ hs) less = let few = ltb-true (r.gate).ripe (suc (length hs)) less in lt-ltb ((r.gate).ripe - 1) (length hs) (omega (arith, few, some))

    by_rows : (b : Bool) → (b || nat_lt (r.gate).ripe (length (r.gate).held)) ≡ true → (b || nat_lt ((r.gate).ripe - 1) (length (drop 1 (r.gate).held))) ≡ true
    by_rows true _ = refl
    by_rows false less = shorter (r.gate).held less

module _ (p : Patch) (i : ℕ) where
  -- router i is there, with this patch due
  abbrev Due : List Router → Type 0
  Due rs = (r : Router) × (slice_get rs i ≡ Some r) × IsDueBy p r

  due_link : (j q : ℕ) (f : _) (w : World) → Due w.routers → Due (changed_link j q f w).routers
  due_link j q f w due = subst Due (sym (routers-changed_link j q f w)) due

  due_changed : (k : ℕ) (f : Router → Router) (rs : List Router) → (due : Due rs) → (i ≡ k → IsDueBy p (f due.0)) → Due (changed_at k f rs)
  due_changed k f rs due changed = at_changed (IsDueBy p) f k i rs due.0 due.1 due.2 changed

  -- a router of which a message is released has one that is ripe
  ripe_there : (w : World) (h : Held) (due : Due w.routers) → release_at w i ≡ Some h → 0 < ((due.0).gate).ripe
  ripe_there w h due is = by_test (nat_lt 0 ((due.0).gate).ripe) refl (sym (ap (λ o. by_router o) due.1) ∙ is)
    where
      by_router : Option Router → Option Held
      by_router None = None
      by_router (Some r) = ripe_front r

      by_test : (b : Bool) → nat_lt 0 ((due.0).gate).ripe ≡ b → cond b (slice_get ((due.0).gate).held 0) None ≡ Some h → 0 < ((due.0).gate).ripe
      by_test true some _ = ltb-true 0 ((due.0).gate).ripe some
      by_test false _ none = absurd (None_not_Some none)

  -- what is due stays due at every step that spares the router
  due_next : (w : World) (s : Step) → Spares s i → Due w.routers → Due (next w s).routers
  due_next w (SetCost j q cost) _ due = due_link j q (with_cost cost) w due
  due_next w (Deliver j q) spared due = option_map_or-ind (λ v. Due v.routers) (with_delivered j q w) (front_at w j q) (option_map_or (with_noticed j w) (notice_at w j q) w)
      (option_map_or-ind (λ v. Due v.routers) (with_noticed j w) (notice_at w j q) w due (λ n _. due_changed j (router_at_home n) w.routers due (λ same. absurd (spared same))))
      (λ item _. due_changed j (router_accepting q item) (changed_link j q with_front_taken w).routers (due_link j q with_front_taken w due) (λ same. absurd (spared same)))
  due_next w (Publish j) spared due = due_changed j router_publishing w.routers due (λ same. absurd (spared same))
  due_next w (Release j) _ due = option_map_or-ind (λ v. Due v.routers) (with_released j w) (release_at w j) w due
      (λ h is. subst (λ rs. Due (changed_at j router_releasing rs)) (sym (routers-changed_link j h.port (with_message h) w))
      (due_changed j router_releasing w.routers due (λ same. due_released p due.0 (ripe_there w h due (ap (release_at w) same ∙ is)) due.2)))
  due_next w _ _ due = due

  pub pending_next : (w : World) (s : Step) → Spares s i → IsPending w i p → IsPending (next w s) i p
  pending_next w s spared is =
      let D = due_next w s spared (is.router, is.is_router, (is.due, is.makes)) in
      record { router = D.0; is_router = D.1; due = D.2.0; makes = D.2.1 }

-- a step that waits for no writer spares each router whose writer is out
pub spared : (f : Fabric) (s : Step) → awaits_writer f s ≡ false → (i : ℕ) → is_lent f i ≡ true → Spares s i
spared f (Deliver j q) free i out = λ same. false≢true (sym free ∙ ap (is_lent f) (sym same) ∙ out)
spared f (Publish j) free i out = λ same. false≢true (sym free ∙ ap (is_lent f) (sym same) ∙ out)
spared f _ free i out = tt

-- each patch with which a writer is out is the one that is due
pub lent_due : (w : World) (desks : List Desk) → ArePending w desks → (i : ℕ) (patch : Patch) → lent_at (all_lent desks) i ≡ Some patch → IsPending w i patch
lent_due w desks pending i patch lent = by_desk (slice_get desks i) refl
  where
    by_desk : (o : Option Desk) → slice_get desks i ≡ o → IsPending w i patch
    by_desk None at = absurd (None_not_Some (sym (ap (λ o. option_map_or (λ l. l) o None) (slice_get-map (λ (d : Desk). d.out) desks i ∙ ap (option_map (λ (d : Desk). d.out)) at)) ∙ lent))
    by_desk (Some d) at = (subst (λ o. IfSome o (λ p. ((d.writing).waiting ≡ p ∷ []) × IsPending w i p)) (sym (lent_there desks i d at) ∙ lent)
        (each_there (λ k (x : Desk). IfSome x.out (λ p. ((x.writing).waiting ≡ p ∷ []) × IsPending w k p)) desks pending i d at)).1

-- so every patch with which a writer is out stays due
pub all_pending_next : (f : Fabric) (s : Step) (desks : List Desk) → f.lent ≡ all_lent desks → awaits_writer f s ≡ false → ArePending f.world desks → ArePending (next f.world s) desks
all_pending_next f s desks is free pending = there_each (λ i d. IfSome d.out (λ p. ((d.writing).waiting ≡ p ∷ []) × IsPending (next f.world s) i p)) desks each
  where
    each : (i : ℕ) (d : Desk) → slice_get desks i ≡ Some d → IfSome d.out (λ p. ((d.writing).waiting ≡ p ∷ []) × IsPending (next f.world s) i p)
    each i d at = by_out d.out refl (each_there (λ k e. IfSome e.out (λ p. ((e.writing).waiting ≡ p ∷ []) × IsPending f.world k p)) desks pending i d at)
      where
        by_out : (o : Option Patch) → d.out ≡ o → IfSome o (λ p. ((d.writing).waiting ≡ p ∷ []) × IsPending f.world i p) → IfSome o (λ p. ((d.writing).waiting ≡ p ∷ []) × IsPending (next f.world s) i p)
        by_out None _ _ = tt
        by_out (Some p) out here =
            let lent : is_lent f i ≡ true = ap (λ l. is_some (lent_at l i)) is ∙ ap is_some (lent_there desks i d at ∙ out) in
            (here.0, pending_next p i f.world s (spared f s free i lent) here.1)
