-- Lawful steps are those that can be asked and are not refused, and a run that nothing stops is lawful at each step.
use Rattle.std.proofs.Common.{refl, sym, ap, ◌∙◌, inl, inr, ◌≡◌, ◌⊎◌, Bool, true, false, cond, not, ◌&&◌, if◌then◌else◌, nat_lt, List, [], ◌∷◌, Option, Some, None, is_none, slice_get, option_map, option_and_then}
use Rattle.std.specs.{List.AllByRecursion, Option.option_map_or}
use Rattle.std.proofs.Math.Bool.{and-false}
use Rattle.std.proofs.lemmas.Bool.{not-false, ltb-true, lt-ltb, true≢false}
use Rattle.network_model.specs.{declared.item.Item.Item, declared.item.Notice.Notice, declared.network.Place.Place, declared.step.Step.Step, declared.step.Refusal.Refusal, declared.step.Refusal.TheVariants.UnknownLink, declared.step.Refusal.TheVariants.NothingToDeliver, Network.first_cause}
use Rattle.network_model.specs.declared.step.Step.TheVariants.{LinkUp, LinkDown, SetCost, Deliver, Publish, Release, Attach, Detach}
use Rattle.network_model.specs.World.{Link, World, link_at, place_at, side, attachment_at}
use Rattle.network_model.specs.Step.{Lawful, CanBeAsked, next, refusal, causes, is_up, is_due, last_session, front_at, release_at, is_at_home, notice_at}
use Rattle.network_model.specs.Run.{Runs, Ran, run, stopped_at, one_more}
use Rattle.network_model.proofs.ListLaws.{None_not_Some}

-- ---- lawful, and not refused

-- none of these causes is there
abbrev NoneThere : List (Bool × Refusal) → Type 0
NoneThere = AllByRecursion (λ c. c.0 ≡ false)

none_there : (cs : List (Bool × Refusal)) → first_cause cs ≡ None → NoneThere cs
none_there [] is = tt
none_there ((true, c) ∷ cs) is = absurd (None_not_Some (sym is))
none_there ((false, c) ∷ cs) is = (refl, none_there cs is)

none_first : (cs : List (Bool × Refusal)) → NoneThere cs → first_cause cs ≡ None
none_first [] all = refl
none_first (c ∷ cs) all = ap (λ b. cond b (Some c.1) (first_cause cs)) all.0 ∙ none_first cs all.1

some_there : {A : Type 0} (o : Option A) → is_none o ≡ false → (x : A) × (o ≡ Some x)
some_there None e = absurd (true≢false e)
some_there (Some x) e = (x, refl)

-- of two that are not both missing one is there
some_of_both : {A B : Type 0} (o : Option A) (p : Option B) → (is_none o && is_none p) ≡ false → ((x : A) × (o ≡ Some x)) ⊎ ((y : B) × (p ≡ Some y))
some_of_both None None e = absurd (true≢false e)
some_of_both None (Some y) e = inr (y, refl)
some_of_both (Some x) p e = inl (x, refl)

-- where the test fails, it holds of what is there
holds_of : {A : Type 0} (f : A → Bool) {o : Option A} {x : A} → o ≡ Some x → not (option_map_or f o false) ≡ false → f x ≡ true
holds_of f there fails = sym (ap (λ o. option_map_or f o false) there) ∙ not-false _ fails

-- a step that can be asked and is not refused is lawful
pub refusal_to_Lawful : (w : World) (s : Step) → CanBeAsked s → refusal w s ≡ None → Lawful w s
refusal_to_Lawful w s asked is = by_step s asked (none_there (causes w s) is)
  where
    by_step : (s : Step) → CanBeAsked s → NoneThere (causes w s) → Lawful w s
    by_step (LinkUp l) _ none =
        let k : _ = some_there (slice_get w.links l) none.0 in
        (k.0, k.1, sym (ap is_up k.1) ∙ none.1.0, ltb-true _ _ (holds_of (λ x. nat_lt x.session last_session) k.1 none.1.1.0))
    by_step (LinkDown l) _ none =
        let k : _ = some_there (slice_get w.links l) none.0 in
        (k.0, k.1, holds_of (λ x. x.up) k.1 none.1.0)
    by_step (SetCost i q cost) costs none =
        let r : _ = some_there (slice_get w.routers i) none.0 in
        let k : _ = some_there (link_at w i q) none.1.0 in
        (r.0, k.0, r.1, k.1, holds_of (λ x. x.up) k.1 none.1.1.0, costs)
    by_step (Deliver i q) _ none =
        let r : _ = some_there (slice_get w.routers i) none.0 in
        (r.0, r.1, some_of_both (front_at w i q) (notice_at w i q) none.1.1.0)
    by_step (Publish i) _ none =
        let r : _ = some_there (slice_get w.routers i) none.0 in
        (r.0, r.1, holds_of is_due r.1 none.1.0)
    by_step (Release i) _ none =
        let h : _ = some_there (release_at w i) none.1.0 in
        (h.0, h.1)
    by_step (Attach i p cost) costs none =
        let r : _ = some_there (slice_get w.routers i) none.0 in
        (r.0, r.1, not-false _ none.1.0, costs)
    by_step (Detach i p) _ none =
        let r : _ = some_there (slice_get w.routers i) none.0 in
        let cost : _ = some_there (attachment_at w i p) none.1.1.0 in
        (r.0, cost.0, r.1, not-false _ none.1.0, cost.1)

-- a part of an option that is there
there_before : {A B : Type 0} (f : A → Option B) (o : Option A) {y : B} → option_and_then f o ≡ Some y → is_none o ≡ false
there_before f None e = absurd (None_not_Some e)
there_before f (Some x) e = refl

link_there : (w : World) (o : Option Place) {item : Item} → option_and_then (λ s. slice_get s.inbox 0) (option_and_then (λ p. option_map (side p.end) (slice_get w.links p.link)) o) ≡ Some item → is_none (option_and_then (λ p. slice_get w.links p.link) o) ≡ false
link_there w None e = absurd (None_not_Some e)
link_there w (Some p) {item} e = by_link (slice_get w.links p.link) e
  where
    by_link : (k : Option Link) → option_and_then (λ s. slice_get s.inbox 0) (option_map (side p.end) k) ≡ Some item → is_none k ≡ false
    by_link None none = absurd (None_not_Some none)
    by_link (Some k) some = refl

-- a notice is taken at the port numbered by the degree alone
pub at_home_there : {A : Type 0} (b : Bool) (o : Option A) {x : A} → (if b then o else None) ≡ Some x → b ≡ true
at_home_there true o e = refl
at_home_there false o e = absurd (None_not_Some e)

-- a lawful step is not refused
pub Lawful_to_refusal : (w : World) (s : Step) → Lawful w s → refusal w s ≡ None
Lawful_to_refusal w s lawful = none_first (causes w s) (by_step s lawful)
  where
    by_step : (s : Step) → Lawful w s → NoneThere (causes w s)
    by_step (LinkUp l) h = (ap is_none h.1, (ap is_up h.1 ∙ h.2, (ap (λ o. not (option_map_or (λ x. nat_lt x.session last_session) o false)) h.1 ∙ ap not (lt-ltb _ _ h.3), tt)))
    by_step (LinkDown l) h = (ap is_none h.1, (ap (λ o. not (is_up o)) h.1 ∙ ap not h.2, tt))
    by_step (SetCost i q cost) h = (ap is_none h.2, (ap is_none h.3, (ap (λ o. not (is_up o)) h.3 ∙ ap not h.4, tt)))
    by_step (Deliver i q) h = (ap is_none h.1, by_front h.2)
      where
        by_front : ((item : Item) × (front_at w i q ≡ Some item)) ⊎ ((n : Notice) × (notice_at w i q ≡ Some n)) → NoneThere ((is_none (link_at w i q) && not (is_at_home w i q), UnknownLink) ∷ (is_none (front_at w i q) && is_none (notice_at w i q), NothingToDeliver) ∷ [])
        by_front (inl (item, at)) = (ap (λ b. b && not (is_at_home w i q)) (link_there w (place_at w i q) at), (ap (λ o. is_none o && is_none (notice_at w i q)) at, tt))
        by_front (inr (n, at)) = (ap (λ b. is_none (link_at w i q) && not b) (at_home_there (is_at_home w i q) _ at) ∙ and-false (is_none (link_at w i q)), (ap (λ o. is_none (front_at w i q) && is_none o) at ∙ and-false (is_none (front_at w i q)), tt))
    by_step (Publish i) h = (ap is_none h.1, (ap (λ o. not (option_map_or is_due o false)) h.1 ∙ ap not h.2, tt))
    by_step (Release i) h = (there_before _ (slice_get w.routers i) h.1, (ap is_none h.1, tt))
    by_step (Attach i p cost) h = (ap is_none h.1, (ap not h.2, tt))
    by_step (Detach i p) h = (ap is_none h.2, (ap not h.3, (ap is_none h.4, tt)))

abbrev pub AllCanBeAsked : List Step → Type 0
AllCanBeAsked = AllByRecursion CanBeAsked

-- a run that nothing stopped is lawful at each step
pub run-Runs : (w : World) (ss : List Step) → AllCanBeAsked ss → (run w ss).refused ≡ None → Runs w ss (run w ss).world
run-Runs w [] asked is = refl
run-Runs w (s ∷ ss) asked is = by_refusal (run-Runs (next w s) ss asked.1) (refusal w s) refl is
  where
    rest : Ran
    rest = one_more (run (next w s) ss)

    by_refusal : ((run (next w s) ss).refused ≡ None → Runs (next w s) ss (run (next w s) ss).world) → (o : Option Refusal) → refusal w s ≡ o → (option_map_or (stopped_at w) o rest).refused ≡ None → Lawful w s × Runs (next w s) ss (option_map_or (stopped_at w) o rest).world
    by_refusal onward None none h = (refusal_to_Lawful w s asked.0 none, onward h)
    by_refusal onward (Some c) some h = absurd (None_not_Some (sym h))
