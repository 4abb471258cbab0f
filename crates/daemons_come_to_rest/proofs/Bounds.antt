-- What comes to rest has a bound: at each moment only finitely much may still happen.
use Rattle.std.proofs.Common.{refl, sym, ap, subst, arith, inl, inr, ◌∙◌, ◌≡◌, ◌⊎◌, ℕ, zero, suc, ◌<◌, Bool, true, false, cond, List, [], ◌∷◌, ◌++◌, map, length, Option, Some, None, slice_get}
use Rattle.no_packet_loops.proofs.Common.{None_not_Some, Some_injective, Prefix, prefix_cmp, prefix_eq, Machine, Held, is_due, ripe_front, Topology, LinkEnd, at_port, cases_lt, find as row_of}
use Rattle.network_model.proofs.Common.{cases_Bool, both_ways}
use Rattle.no_packet_loops.proofs.Machines.{prefix_same}
use Rattle.router_core.specs.Alone.{may_forget, rows_due}
use Rattle.coming_to_rest.specs.Rest.{IsFinite}
use Rattle.coming_to_rest.proofs.Order.{lower_cases}
use Rattle.coming_to_rest.proofs.Bounds.{IsIn, in_left, in_right, bound_of_all}
use Rattle.daemon_laws.specs.Processes.{Carried, Processes}
use Rattle.daemon_laws.specs.Happenings.{Happening, Tells, Takes, Loses, Publishes, PublishesSome, Forgets, Releases, BeginsAnew, CanHappen, after_happening}
use Rattle.daemons_come_to_rest.specs.Rest.{HappensAlone, ProcessesComeToRest, rests, AllAlone, HasMostHappenings}
use Rattle.daemons_come_to_rest.proofs.{Forgets.may_machine, Kept.Kept, Kept.kept_next, Kept.link_there}

-- ---- what may still happen

-- the lists of all numbers below a bound, in a row
abbrev pub all_below : ℕ → (ℕ → List Happening) → List Happening
all_below zero f = []
all_below (suc n) f = f n ++ all_below n f

-- what is in one of them is in all together
in_all : (n : ℕ) (f : ℕ → List Happening) (i : ℕ) (h : Happening) → i < n → IsIn h (f i) → IsIn h (all_below n f)
in_all zero f i h lt here = absurd (omega (arith, lt))
in_all (suc n) f i h lt here = elim (lower_cases i n lt) [
  | inl less ↦ in_right h (f n) (all_below n f) (in_all n f i h less here)
  | inr is ↦ in_left h (f n) (all_below n f) (subst (λ k. IsIn h (f k)) is here)
]

abbrev pub at_ports : ℕ → ℕ → List Happening
at_ports i q = Takes (at_port i q) ∷ Loses (at_port i q) ∷ []

-- a publication of so many rows
abbrev pub some_rows : ℕ → ℕ → List Happening
some_rows i k = PublishesSome i k ∷ []

-- each of these prefixes forgotten
abbrev pub forgetting : ℕ → List (Prefix × Machine) → List Happening
forgetting i machines = map (λ x. Forgets i x.0) machines

-- at a router of so many ports
abbrev pub at_router : Processes → ℕ → ℕ → List Happening
at_router w d i = Publishes i ∷ Releases i ∷ (all_below (length (rows_due (w.routers i))) (some_rows i) ++ (forgetting i (w.routers i).machines ++ all_below d (at_ports i)))

module _ (w : Processes) (d i : ℕ) (h : Happening) where
  -- the publications of some rows
  abbrev parts : List Happening
  parts = all_below (length (rows_due (w.routers i))) (some_rows i)

  -- what is at a port is at its router
  of_port : (q : ℕ) → q < d → IsIn h (at_ports i q) → IsIn h (at_router w d i)
  of_port q lt here = inr (inr (in_right h parts _ (in_right h (forgetting i (w.routers i).machines) _ (in_all d (at_ports i) q h lt here))))

  -- so is a publication of some rows
  of_part : (k : ℕ) → k < length (rows_due (w.routers i)) → IsIn h (some_rows i k) → IsIn h (at_router w d i)
  of_part k lt here = inr (inr (in_left h parts _ (in_all (length (rows_due (w.routers i))) (some_rows i) k h lt here)))

  -- and a prefix that is forgotten
  of_forgotten : IsIn h (forgetting i (w.routers i).machines) → IsIn h (at_router w d i)
  of_forgotten here = inr (inr (in_right h parts _ (in_left h (forgetting i (w.routers i).machines) _ here)))

-- a prefix that has a machine is among those
in_forgetting : (i : ℕ) (p : Prefix) (machines : List (Prefix × Machine)) (m : Machine) → row_of prefix_cmp p machines ≡ Some m → IsIn (Forgets i p) (forgetting i machines)
in_forgetting i p [] m is = absurd (None_not_Some is)
in_forgetting i p (x ∷ xs) m is = by_key (in_forgetting i p xs m) (prefix_eq p x.0) refl is
  where
    by_key : (row_of prefix_cmp p xs ≡ Some m → IsIn (Forgets i p) (forgetting i xs)) → (b : Bool) → prefix_eq p x.0 ≡ b → cond b (Some x.1) (row_of prefix_cmp p xs) ≡ Some m → IsIn (Forgets i p) (forgetting i (x ∷ xs))
    by_key rest true same e = inl (ap (λ (q : Prefix). Forgets i q) (sym (prefix_same p x.0 same)))
    by_key rest false apart e = inr (rest e)

module _ (t : Topology) (F : IsFinite t) (w : Processes) (K : Kept t w) where
  -- all that may still happen, and more
  abbrev pub candidates : List Happening
  candidates = all_below F.routers (at_router w F.ports)

  -- something at an end of a link
  at_end : (e : LinkEnd) (h : Happening) → t.valid e ≡ true → IsIn h (at_ports e.router e.port) → IsIn h candidates
  at_end e h valid here = in_all F.routers (at_router w F.ports) e.router h (F.within e valid).0 (of_port w F.ports e.router h e.port (F.within e valid).1 here)

  -- whatever still happens is among them
  pub candidate : (h : Happening) → HappensAlone F.routers w h → IsIn h candidates
  candidate (Takes e) (c, at, le) = at_end e (Takes e) (link_there t w K e c at) (inl refl)
  candidate (Loses e) (c, at) = at_end e (Loses e) (link_there t w K e c at) (inr (inl refl))
  candidate (Publishes i) (within, due) = in_all F.routers (at_router w F.ports) i (Publishes i) within (inl refl)
  candidate (PublishesSome i k) (within, some, fewer) = in_all F.routers (at_router w F.ports) i (PublishesSome i k) within (of_part w F.ports i (PublishesSome i k) k fewer (inl refl))
  candidate (Forgets i p) (within, may) =
      let (m, is) = may_machine p (w.routers i) may in
      in_all F.routers (at_router w F.ports) i (Forgets i p) within (of_forgotten w F.ports i (Forgets i p) (in_forgetting i p (w.routers i).machines m is))
  candidate (Releases i) (h, within, front) = in_all F.routers (at_router w F.ports) i (Releases i) within (inr (inl refl))
  candidate _ alone = absurd alone

-- ---- whether it happens

-- whether a happening may still be
pub either : (n : ℕ) (w : Processes) (h : Happening) → HappensAlone n w h ⊎ (HappensAlone n w h → ⊥)
either n w (Takes e) = by_front (slice_get (w.coming e) 0) refl
  where
    by_front : (o : Option Carried) → slice_get (w.coming e) 0 ≡ o → HappensAlone n w (Takes e) ⊎ (HappensAlone n w (Takes e) → ⊥)
    by_front None at = inr (λ (c, f, le). None_not_Some (sym at ∙ f))
    by_front (Some c) at = elim (cases_lt (w.last e) c.session) [
      | inl lt ↦ inr (λ (x, f, le). (let same : c ≡ x = Some_injective (sym at ∙ f) in let s : c.session ≡ x.session = ap (λ (y : Carried). y.session) same in omega (arith, lt, le, s)))
      | inr le ↦ inl (c, at, le)
    ]
either n w (Loses e) = by_front (slice_get (w.coming e) 0) refl
  where
    by_front : (o : Option Carried) → slice_get (w.coming e) 0 ≡ o → HappensAlone n w (Loses e) ⊎ (HappensAlone n w (Loses e) → ⊥)
    by_front None at = inr (λ (c, f). None_not_Some (sym at ∙ f))
    by_front (Some c) at = inl (c, at)
either n w (Publishes i) = elim (cases_lt i n) [
  | inl lt ↦ elim (cases_Bool (is_due (w.routers i))) [ inl due ↦ inl (lt, due) | inr not ↦ inr (λ (l, due). both_ways (is_due (w.routers i)) not due) ]
  | inr le ↦ inr (λ (lt, due). (omega (arith, le, lt)))
]
either n w (PublishesSome i k) = elim (cases_lt i n) [
  | inr le ↦ inr (λ (lt, some, fewer). (omega (arith, le, lt)))
  | inl lt ↦ elim (cases_lt 0 k) [
    | inr none ↦ inr (λ (l, some, fewer). (omega (arith, none, some)))
    | inl some ↦ elim (cases_lt k (length (rows_due (w.routers i)))) [ inl fewer ↦ inl (lt, some, fewer) | inr all ↦ inr (λ (l, s, fewer). (omega (arith, all, fewer))) ]
  ]
]
either n w (Forgets i p) = elim (cases_lt i n) [
  | inl lt ↦ elim (cases_Bool (may_forget p (w.routers i))) [ inl may ↦ inl (lt, may) | inr not ↦ inr (λ (l, may). both_ways (may_forget p (w.routers i)) not may) ]
  | inr le ↦ inr (λ (lt, may). (omega (arith, le, lt)))
]
either n w (Releases i) = elim (cases_lt i n) [
  | inl lt ↦ by_front lt (ripe_front (w.routers i)) refl
  | inr le ↦ inr (λ (h, lt, f). (omega (arith, le, lt)))
]
  where
    by_front : i < n → (o : Option Held) → ripe_front (w.routers i) ≡ o → HappensAlone n w (Releases i) ⊎ (HappensAlone n w (Releases i) → ⊥)
    by_front lt None at = inr (λ (h, l, f). None_not_Some (sym at ∙ f))
    by_front lt (Some h) at = inl (h, lt, at)
either n w _ = inr (λ a. a)

pub alone_can : (n : ℕ) (w : Processes) (h : Happening) → HappensAlone n w h → CanHappen w h
alone_can n w (Tells i x) alone = absurd alone
alone_can n w (BeginsAnew i costs attachments) alone = absurd alone
alone_can n w _ alone = tt

-- ---- bounds

-- what comes to rest has a bound
pub has_bound : (t : Topology) (F : IsFinite t) (w : Processes) → Kept t w → ProcessesComeToRest t F.routers w → HasMostHappenings t F.routers w
has_bound t F w K (rests _ close) = bound_here (λ h alone. has_bound t F (after_happening t w h) (kept_next t w h K (alone_can F.routers w h alone)) (close h alone))
  where
    bound_here : ((h : Happening) → HappensAlone F.routers w h → HasMostHappenings t F.routers (after_happening t w h)) → HasMostHappenings t F.routers w
    bound_here then = bound_of_all (HappensAlone F.routers w) (λ h hs. AllAlone t F.routers (after_happening t w h) hs)
        (λ h. elim (either F.routers w h) [ inl alone ↦ inl (then h alone) | inr not ↦ inr not ])
        (AllAlone t F.routers w) (λ h hs all. all) (candidates t F w K) (candidate t F w K)
