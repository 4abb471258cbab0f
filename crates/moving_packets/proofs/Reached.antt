-- What holds of each history that lawful steps make, and of one more step.
use Rattle.std.proofs.Common.{refl, sym, ap, subst, ◌∙◌, inl, inr, arith, ◌<◌, ◌≡◌, ◌⊎◌, ℕ, zero, suc, Bool, true, false, ◌==◌, if◌then◌else◌, List, [], ◌∷◌, ◌++◌, Option, Some, None, IsSome, slice_get, slice_set, option_and_then, eq-eqb}
use Rattle.no_packet_loops.proofs.Common.{option_map_or, cases_eq, false≢true, Prefix, prefix_cmp, covers, infinity, Entry, Router, World, Network, opening, machine_of, Lawful, Runs, History, history, history_from, with_step, published_after, fd_in, Some_injective, IsNetwork, find as row_of, is_sorted, longest_match-found, Item, Notice, changed_at, changed_link, router_publishing, router_releasing, router_accepting, router_at_home, with_cost, with_front_taken, with_message, with_delivered, with_noticed, with_released, front_at, notice_at, release_at, next, option_map_or-ind, routers-changed_link, Step, SetCost, Deliver, Publish, Release}
use Rattle.no_packet_loops.specs.Packets.{DistancesFall, mixture_rows}
use Rattle.no_packet_loops.proofs.{Wiring.IsWired, Wiring.wired, View.on_router-miss, View.on_router-same, Publishing.control_sorted, Runs.Reached, Runs.reached, Runs.history_world, Walks.distances_fall, Walks.match_is_row, WorldLaws.runs_more, WorldLaws.steps_more}
use Rattle.all_packets.proofs.{Matches.GoesBefore, Matches.found, Known.Fits, Known.fits_leads, Known.always_fits, Ways.rows_by}
use Rattle.moving_packets.specs.Moving.{fd_chosen, fd_published, fd_shown, entry_shown, IsSent, takes, publishes}

-- the history is one that lawful steps make from the opening of a network
pub record IsMade (h : History) : Type 0 where
  pub network : Network
  pub steps : List Step
  pub valid : IsNetwork network
  pub runs : Runs (opening network) steps h.world
  pub is : history network steps ≡ h

pub made_more : (h : History) (s : Step) → IsMade h → Lawful h.world s → IsMade (with_step h s)
made_more h s M L = record {
  network = M.network;
  steps = M.steps ++ s ∷ [];
  valid = M.valid;
  runs = runs_more (opening M.network) M.steps h.world s M.runs L;
  is = steps_more (history_from (opening M.network)) M.steps s ∙ ap (λ (x : History). with_step x s) M.is;
}

pub made : (n : Network) (ss : List Step) (w : World) → IsNetwork n → Runs (opening n) ss w → IsMade (history n ss)
made n ss w valid r = record { network = n; steps = ss; valid = valid; runs = subst (λ (v : World). Runs (opening n) ss v) (sym (history_world n ss w r)) r; is = refl }

-- ---- in such a history

-- the entry that a router shows is that of its rows
pub is_entry : (c : Bool) (h : History) (i : ℕ) (p : Prefix) → row_of prefix_cmp p (mixture_rows (λ j. c) h.world i) ≡ entry_shown c h i p
is_entry c h i p = by_router c (slice_get (h.world).routers i)
  where
    by_router : (d : Bool) (o : Option Router) → row_of prefix_cmp p (option_map_or (rows_by d) o [])
        ≡ (if d then option_and_then (λ (r : Router). row_of prefix_cmp p (r.table).control) o else option_and_then (λ (r : Router). row_of prefix_cmp p (r.table).published) o)
    by_router true None = refl
    by_router false None = refl
    by_router true (Some r) = refl
    by_router false (Some r) = refl

module _ (h : History) (M : IsMade h) where
  abbrev pub wired_is : IsWired M.network
  wired_is = wired M.network M.valid

  pub here : (p : Prefix) → Reached M.network wired_is p h.world h.published
  here p = subst (λ (x : History). Reached M.network wired_is p h.world x.published) M.is (reached M.network wired_is p M.steps h.world M.runs)

  -- along a row the feasible distances fall
  falls : DistancesFall h
  falls = subst DistancesFall M.is (distances_fall M.network M.steps h.world M.valid M.runs)

  -- the rows of router i, in the order of the prefixes
  abbrev rows : Bool → ℕ → List (Prefix × Entry)
  rows c i = mixture_rows (λ j. c) h.world i

  in_order : (c : Bool) (i : ℕ) → is_sorted prefix_cmp (rows c i) ≡ true
  in_order c i = by_router c (slice_get (h.world).routers i) refl
    where
      by_router : (d : Bool) (o : Option Router) → slice_get (h.world).routers i ≡ o → is_sorted prefix_cmp (option_map_or (rows_by d) o []) ≡ true
      by_router d None at = refl
      by_router true (Some r) at = (let Q = (here (record { addr = 0; len = 0 })).kept.routers_kept i r at in control_sorted r Q.control_is Q.sorted)
      by_router false (Some r) at = ((here (record { addr = 0; len = 0 })).kept.routers_kept i r at).published_sorted

  -- where a packet goes on, its prefix covers the address, and the router has that row
  pub covered : (c : Bool) (addr i k : ℕ) (p : Prefix) → IsSent c h addr p i k → covers p addr ≡ true
  covered c addr i k p F = (longest_match-found addr (rows c i) (p, F.entry) F.matched).covered

  pub row_is : (c : Bool) (addr i k : ℕ) (p : Prefix) → (F : IsSent c h addr p i k) → entry_shown c h i p ≡ Some F.entry
  row_is c addr i k p F = sym (is_entry c h i p) ∙ match_is_row addr p F.entry (rows c i) (in_order c i) F.matched

  -- the prefix of the row goes before each that the router has a row of
  pub goes_before : (c : Bool) (addr i k : ℕ) (p q : Prefix) → IsSent c h addr p i k → covers q addr ≡ true → IsSome (entry_shown c h i q) → GoesBefore p q
  goes_before c addr i k p q F covered_is some = by_row (entry_shown c h i q) refl some
    where
      by_row : (o : Option Entry) → entry_shown c h i q ≡ o → IsSome o → GoesBefore p q
      by_row None is none = absurd (false≢true none)
      by_row (Some e) is one =
          let D = found addr q e (rows c i) (in_order c i) (is_entry c h i q ∙ is) covered_is in
          subst (λ (x : Prefix × Entry). GoesBefore x.0 q) (Some_injective (sym D.matched ∙ F.matched)) D.before

  -- where a packet goes on, both feasible distances of the router that it comes to are below that of the row
  pub lower : (c d : Bool) (addr i k : ℕ) (p : Prefix) → IsSent c h addr p i k → fd_shown d h p k < fd_shown c h p i
  lower true true addr i k p F = (falls.by_control p i k F.entry (row_is true addr i k p F) F.leads).0
  lower true false addr i k p F = (falls.by_control p i k F.entry (row_is true addr i k p F) F.leads).1
  lower false true addr i k p F = (falls.by_published p i k F.entry (row_is false addr i k p F) F.leads).0
  lower false false addr i k p F = (falls.by_published p i k F.entry (row_is false addr i k p F) F.leads).1

  -- the feasible distance fits the row
  fits : (c : Bool) (p : Prefix) (i : ℕ) → Fits (entry_shown c h i p) (fd_shown c h p i)
  fits true p i = subst (λ (o : Option Entry). Fits o (fd_chosen h p i)) (is_entry true h i p)
      (subst (λ (x : History). Fits (row_of prefix_cmp p (mixture_rows (λ j. true) x.world i)) (fd_in (x.world).routers p i)) M.is (always_fits M.network wired_is M.steps h.world M.runs p i true))
  fits false p i = subst (λ (o : Option Entry). Fits o (fd_published h p i)) (is_entry false h i p)
      (subst (λ (x : History). Fits (row_of prefix_cmp p (mixture_rows (λ j. false) x.world i)) (fd_in x.published p i)) M.is (always_fits M.network wired_is M.steps h.world M.runs p i false))

  -- so a router whose feasible distance is below infinity has a row that goes with it
  pub has_row : (c : Bool) (p : Prefix) (i : ℕ) → fd_shown c h p i < infinity → IsSome (entry_shown c h i p)
  has_row c p i lt = by_row (entry_shown c h i p) (fits c p i)
    where
      by_row : (o : Option Entry) → Fits o (fd_shown c h p i) → IsSome o
      by_row None top = absurd (omega (arith, top, lt))
      by_row (Some e) f = refl

  -- and one that leads on has one below infinity
  pub finite : (c : Bool) (addr i k : ℕ) (p : Prefix) → IsSent c h addr p i k → fd_shown c h p i < infinity
  finite c addr i k p F = fits_leads h.world i k F.entry (fd_shown c h p i) (subst (λ (o : Option Entry). Fits o (fd_shown c h p i)) (row_is c addr i k p F) (fits c p i)) F.leads

-- ---- one step

-- what stands where one was set, or beside it
set_or_not : (rs : List Router) (j i : ℕ) (r : Router) → (slice_get (slice_set rs j r) i ≡ slice_get rs i) ⊎ ((i ≡ j) × (slice_get (slice_set rs j r) i ≡ Some r))
set_or_not (x ∷ xs) zero zero r = inr (refl, refl)
set_or_not (x ∷ xs) (suc j) (suc i) r = elim (set_or_not xs j i r) [
  | inl e ↦ inl e
  | inr e ↦ inr (ap suc e.0, e.1)
]
set_or_not _ _ _ r = inl refl

-- a step leaves a published feasible distance, or is the router's publication and makes it the one that was chosen
pub stays_or_chosen : (h : History) (s : Step) (p : Prefix) (i : ℕ) → Lawful h.world s → (fd_published (with_step h s) p i ≡ fd_published h p i) ⊎ ((s ≡ Publish i) × (fd_published (with_step h s) p i ≡ fd_chosen h p i))
stays_or_chosen h (Publish j) p i L = elim (set_or_not h.published j i L.0) [
  | inl e ↦ inl (ap fd (ap (λ (xs : List Router). slice_get xs i) is_set ∙ e))
  | inr e ↦ inr (ap (λ (x : ℕ). Publish x) (sym e.0), ap fd (ap (λ (xs : List Router). slice_get xs i) is_set ∙ e.1) ∙ sym (ap fd (ap (slice_get (h.world).routers) e.0 ∙ L.1)))
]
  where
    fd : Option Router → ℕ
    fd o = option_map_or (λ (y : Router). (machine_of y p).fd) o infinity

    is_set : published_after h.world h.published (Publish j) ≡ slice_set h.published j L.0
    is_set = ap (λ o. option_map_or (λ (y : Router). slice_set h.published j y) o h.published) L.1
stays_or_chosen h _ p i L = inl refl

-- a change of router j leaves what f says of router i, if it does so where that is j
one_changed : {X : Type 0} (f : Router → X) (d : X) (i j : ℕ) (g : Router → Router) (rs : List Router) → ((i == j) ≡ true → (r : Router) → f (g r) ≡ f r) → option_map_or f (slice_get (changed_at j g rs) i) d ≡ option_map_or f (slice_get rs i) d
one_changed f d i j g rs same = elim (cases_eq i j) [ inl e ↦ on_router-same f d rs g j i (λ r at. same (eq-eqb i j e) r) | inr a ↦ on_router-miss f d rs g j i a ]

-- so does a step, if a router that releases keeps it, one that publishes in the step, and one that takes something in it
pub stays_in : {X : Type 0} (f : Router → X) (d : X) (w : World) (s : Step) (i : ℕ) → ((r : Router) → f (router_releasing r) ≡ f r) → (publishes i s ≡ true → (r : Router) → f (router_publishing r) ≡ f r)
    → (takes i s ≡ true → ((q : ℕ) (item : Item) (r : Router) → f (router_accepting q item r) ≡ f r) × ((x : Notice) (r : Router) → f (router_at_home x r) ≡ f r)) → option_map_or f (slice_get (next w s).routers i) d ≡ option_map_or f (slice_get w.routers i) d
stays_in f d w (SetCost j q c) i releases publishing taking = ap (λ (xs : List Router). option_map_or f (slice_get xs i) d) (routers-changed_link j q (with_cost c) w)
stays_in f d w (Deliver j q) i releases publishing taking =
    option_map_or-ind (λ (v : World). option_map_or f (slice_get v.routers i) d ≡ option_map_or f (slice_get w.routers i) d) (with_delivered j q w) (front_at w j q) (option_map_or (with_noticed j w) (notice_at w j q) w)
    (option_map_or-ind (λ (v : World). option_map_or f (slice_get v.routers i) d ≡ option_map_or f (slice_get w.routers i) d) (with_noticed j w) (notice_at w j q) w refl
    (λ x is. one_changed f d i j (router_at_home x) w.routers (λ e. (taking e).1 x)))
    (λ item is. one_changed f d i j (router_accepting q item) (changed_link j q with_front_taken w).routers (λ e. (taking e).0 q item) ∙ ap (λ (xs : List Router). option_map_or f (slice_get xs i) d) (routers-changed_link j q with_front_taken w))
stays_in f d w (Publish j) i releases publishing taking = one_changed f d i j router_publishing w.routers publishing
stays_in f d w (Release j) i releases publishing taking =
    option_map_or-ind (λ (v : World). option_map_or f (slice_get v.routers i) d ≡ option_map_or f (slice_get w.routers i) d) (with_released j w) (release_at w j) w refl
    (λ h is. one_changed f d i j router_releasing (changed_link j h.port (with_message h) w).routers (λ e. releases) ∙ ap (λ (xs : List Router). option_map_or f (slice_get xs i) d) (routers-changed_link j h.port (with_message h) w))
stays_in f d w _ i releases publishing taking = refl
