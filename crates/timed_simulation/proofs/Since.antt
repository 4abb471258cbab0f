-- Since when a router has something to publish is written down right.
use Rattle.std.proofs.Common.{refl, sym, ap, subst, ◌∙◌, inl, inr, eq-eqb, ◌≡◌, ◌≢◌, ◌⊎◌, ℕ, Bool, true, false, if◌then◌else◌, List, [], ◌∷◌, ◌++◌, Option, Some, None, option_map, slice_get}
use Rattle.no_packet_loops.proofs.Common.{option_map_or, cases_eq, false≢true, None_not_Some, Some_injective, slice_get-changed_at, slice_get-changed_at_other, routers-changed_link, changed_at, with_cost, with_delivered, with_front_taken, with_message, with_noticed, with_released, router_accepting, router_at_home, router_publishing, router_releasing, front_at, notice_at, release_at, is_due, is_settled, next, opening, IsNetwork, Lawful, Runs, Held, Item, Notice, Network, Router, World, Step, SetCost, Deliver, Publish, Release}
use Rattle.no_packet_loops.proofs.Wiring.{few_routers}
use Rattle.convergence.proofs.AtRest.{settled_rests}
use Rattle.world.specs.Rest.{unrest}
use Rattle.world.proofs.{Degrees.few_links, Rest.settled, Rest.watched-opening}
use Rattle.timed_simulation.specs.{declared.events.Event.Event, declared.events.RouterTime.RouterTime, Timed.begins_at, Timed.is_due_at, Timed.routers_after, Since.HoldsSince, Since.Stays, Runs.steps_of}
use Rattle.timed_simulation.proofs.{Steps.still_due, Timely.mapped_from}

-- ---- one event more

module _ (test : World → Bool) where
  stays_more : (w : World) (es : List Event) (v : World) (e : Event) → Runs w (steps_of es) v → Stays test w es → test (next v e.step) ≡ true → Stays test w (es ++ e ∷ [])
  stays_more w [] v e same stays holds = (stays, subst (λ (u : World). test (next u e.step) ≡ true) (sym same) holds)
  stays_more w (x ∷ xs) v e runs stays holds = (stays.0, stays_more (next w x.step) xs v e runs.1 stays.1 holds)

  since_before : (m : ℕ) (w : World) (es : List Event) (v : World) (e : Event) → Runs w (steps_of es) v → HoldsSince test m w es → test (next v e.step) ≡ true → HoldsSince test m w (es ++ e ∷ [])
  since_before m w [] v e same since holds = absurd since
  since_before m w (x ∷ xs) v e runs (inl here) holds = inl (here.0, here.1, stays_more (next w x.step) xs v e runs.1 here.2 holds)
  since_before m w (x ∷ xs) v e runs (inr later) holds = inr (since_before m (next w x.step) xs v e runs.1 later holds)

  -- it holds now, and did not before
  since_now : (w : World) (es : List Event) (v : World) (e : Event) → Runs w (steps_of es) v → test v ≡ false → test (next v e.step) ≡ true → HoldsSince test e.moment w (es ++ e ∷ [])
  since_now w [] v e same fails holds = inl (subst (λ (u : World). test u ≡ false) (sym same) fails, refl, subst (λ (u : World). test (next u e.step) ≡ true) (sym same) holds)
  since_now w (x ∷ xs) v e runs fails holds = inr (since_now (next w x.step) xs v e runs.1 fails holds)

-- ---- what a router has to publish, it is given as it takes an item

module _ (w : World) (i : ℕ) where
  -- whether it has something to publish, if its world has these routers
  abbrev due_in : List Router → Bool
  due_in rs = option_map_or is_due (slice_get rs i) false

  -- another router is changed
  other_due : (j : ℕ) (f : Router → Router) → i ≢ j → due_in (changed_at j f w.routers) ≡ due_in w.routers
  other_due j f other = ap (λ (o : Option Router). option_map_or is_due o false) (slice_get-changed_at_other f j i w.routers other)

  delivered_other : (j q : ℕ) → i ≢ j → (o : Option Item) (n : Option Notice) → is_due_at (option_map_or (with_delivered j q w) o (option_map_or (with_noticed j w) n w)) i ≡ is_due_at w i
  delivered_other j q other (Some item) n = ap (λ (rs : List Router). due_in (changed_at j (router_accepting q item) rs)) (routers-changed_link j q with_front_taken w) ∙ other_due j (router_accepting q item) other
  delivered_other j q other None (Some n) = other_due j (router_at_home n) other
  delivered_other j q other None None = refl

  released_due : (j : ℕ) (o : Option Held) → is_due_at (option_map_or (with_released j w) o w) i ≡ true → is_due_at w i ≡ true
  released_due j None due = due
  released_due j (Some h) due = by_place (cases_eq i j) (sym (ap (λ (rs : List Router). due_in (changed_at j router_releasing rs)) (routers-changed_link j h.port (with_message h) w)) ∙ due)
    where
      here : (o : Option Router) → option_map_or is_due (option_map router_releasing o) false ≡ true → option_map_or is_due o false ≡ true
      here None never = never
      here (Some r) more = still_due r more

      by_place : (i ≡ j) ⊎ (i ≢ j) → due_in (changed_at j router_releasing w.routers) ≡ true → is_due_at w i ≡ true
      by_place (inl same) more =
          let at_it : due_in (changed_at i router_releasing w.routers) ≡ true = subst (λ (k : ℕ). due_in (changed_at k router_releasing w.routers) ≡ true) (sym same) more in
          here (slice_get w.routers i) (sym (ap (λ (o : Option Router). option_map_or is_due o false) (slice_get-changed_at router_releasing i w.routers)) ∙ at_it)
      by_place (inr other) more = sym (other_due j router_releasing other) ∙ more

  begun : (s : Step) → Lawful w s → is_due_at w i ≡ false → is_due_at (next w s) i ≡ true → begins_at w s ≡ Some i
  begun (SetCost j q cost) L none due = absurd (false≢true (sym none ∙ sym (ap due_in (routers-changed_link j q (with_cost cost) w)) ∙ due))
  begun (Deliver j q) L none due = by_place (cases_eq i j)
    where
      by_place : (i ≡ j) ⊎ (i ≢ j) → (if is_due_at w j then None else Some j) ≡ Some i
      by_place (inl same) = ap (λ (b : Bool). if b then None else Some j) (sym (ap (is_due_at w) same) ∙ none) ∙ ap Some (sym same)
      by_place (inr other) = absurd (false≢true (sym none ∙ sym (delivered_other j q other (front_at w j q) (notice_at w j q)) ∙ due))
  begun (Publish j) L none due = by_place (cases_eq i j)
    where
      by_place : (i ≡ j) ⊎ (i ≢ j) → None ≡ Some i
      by_place (inl same) = absurd (false≢true (sym none ∙ ap (λ (o : Option Router). option_map_or is_due o false) (ap (slice_get w.routers) same ∙ L.1) ∙ L.2))
      by_place (inr other) = absurd (false≢true (sym none ∙ sym (other_due j router_publishing other) ∙ due))
  begun (Release j) L none due = absurd (false≢true (sym none ∙ released_due j (release_at w j) due))
  begun _ L none due = absurd (false≢true (sym none ∙ due))

  had_nothing : (s : Step) → begins_at w s ≡ Some i → is_due_at w i ≡ false
  had_nothing (Deliver j q) is = by_due (is_due_at w j) refl is
    where
      by_due : (b : Bool) → is_due_at w j ≡ b → (if b then None else Some j) ≡ Some i → is_due_at w i ≡ false
      by_due true _ never = absurd (None_not_Some never)
      by_due false none here = ap (is_due_at w) (sym (Some_injective here)) ∙ none
  had_nothing _ is = absurd (None_not_Some is)

-- ---- what is kept

abbrev beginning : ℕ → RouterTime → RouterTime
beginning m x = record x { since = m }

-- at another router nothing is written
kept_since : (m i : ℕ) (x : RouterTime) (xs : List RouterTime) (o : Option ℕ) → (o ≡ Some i → ⊥) → slice_get (routers_after m o xs) i ≡ Some x → slice_get xs i ≡ Some x
kept_since m i x xs None never at = at
kept_since m i x xs (Some j) never at = by_place (cases_eq i j)
  where
    by_place : (i ≡ j) ⊎ (i ≢ j) → slice_get xs i ≡ Some x
    by_place (inl same) = absurd (never (ap Some (sym same)))
    by_place (inr other) = sym (slice_get-changed_at_other (beginning m) j i xs other) ∙ at

written_since : (m i : ℕ) (x : RouterTime) (xs : List RouterTime) → slice_get (routers_after m (Some i) xs) i ≡ Some x → m ≡ x.since
written_since m i x xs at = (let from = mapped_from (beginning m) (slice_get xs i) x (sym (slice_get-changed_at (beginning m) i xs) ∙ at) in ap (λ (y : RouterTime). y.since) from.2)

abbrev pub due_at : ℕ → World → Bool
due_at i w = is_due_at w i

-- since when routers have something to publish, in the world that these events made of this one
abbrev pub AreDueSince : World → List Event → World → List RouterTime → Type 0
AreDueSince v es w xs = (i : ℕ) (x : RouterTime) → slice_get xs i ≡ Some x → is_due_at w i ≡ true → HoldsSince (due_at i) x.since v es

pub since_after : (v : World) (es : List Event) (w : World) (xs : List RouterTime) (e : Event) → Runs v (steps_of es) w → Lawful w e.step → AreDueSince v es w xs → AreDueSince v (es ++ e ∷ []) (next w e.step) (routers_after e.moment (begins_at w e.step) xs)
since_after v es w xs e runs lawful each i x at due = by_due (is_due_at w i) refl
  where
    by_due : (b : Bool) → is_due_at w i ≡ b → HoldsSince (due_at i) x.since v (es ++ e ∷ [])
    by_due true had = since_before (due_at i) x.since v es w e runs (each i x (kept_since e.moment i x xs (begins_at w e.step) (λ is. false≢true (sym (had_nothing w i e.step is) ∙ had)) at) had) due
    by_due false none =
        let now : e.moment ≡ x.since = written_since e.moment i x xs (subst (λ (o : Option ℕ). slice_get (routers_after e.moment o xs) i ≡ Some x) (begun w i e.step lawful none due) at) in
        subst (λ (m : ℕ). HoldsSince (due_at i) m v (es ++ e ∷ [])) now (since_now (due_at i) v es w e runs none due)

-- a network that opens has nothing to publish
pub none_due : (n : Network) → IsNetwork n → (i : ℕ) → is_due_at (opening n) i ≡ true → ⊥
none_due n valid i due = by_router (slice_get (opening n).routers i) refl due
  where
    watched : unrest (opening n) ≡ 0
    watched = sym (watched-opening n (opening n) refl (few_links n valid.no_fault) (few_routers n valid)).counts

    at_rest : is_settled (opening n) ≡ true
    at_rest = sym (settled (opening n)) ∙ eq-eqb (unrest (opening n)) 0 watched

    by_router : (o : Option Router) → slice_get (opening n).routers i ≡ o → option_map_or is_due o false ≡ true → ⊥
    by_router None at never = false≢true never
    by_router (Some r) at here = settled_rests (opening n) at_rest (Publish i) refl (r, at, here)
