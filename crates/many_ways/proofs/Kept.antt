-- Every step keeps that, whichever next hop each router shows, what every state keeps is kept.
use Rattle.std.proofs.Common.{refl, sym, ◌∙◌, ap, subst, arith, inl, inr, ◌≡◌, ◌⊎◌, ℕ, ◌≤◌, List, [], ◌∷◌, ◌++◌, Option, Some, length, slice_get, append-nil, length-append}
use Rattle.network_model.proofs.Common.{cases_eq, none-some, LinkEnd}
use Rattle.network_model.specs.declared.route.NextHop.{NextHop}
use Rattle.machine_laws.proofs.MachineLaws.{machine_laws}
use Rattle.loop_freedom.specs.Network.{Topology, Step, Takes, TakesAtHome, Publishes, Releases, LinkComes, LinkGoes, CostChanges, Skips, SamePublished, Publish, Skip}
use Rattle.loop_freedom.proofs.{Invariant.Invariant, Opened.opening_keeps, Walks.steps_keep}
use Rattle.many_ways.specs.Network.{Wide, Among, IsFeasible, StaysInForce, WideStep, WideRun, Begins, GoesOn, WideOpening}
use Rattle.many_ways.proofs.Shown.{with_hops, MayShow, shown_keeps}
use Rattle.many_ways.proofs.Moved as moved

-- a next hop that router i may show: that of its row, or one that is in force beside it
abbrev pub Pick : Wide → ℕ → Option NextHop → Type 0
Pick w i o = (o ≡ (w.state).published i) ⊎ ((h : NextHop) × (o ≡ Some h) × Among h (w.hops i))

-- whichever of them each router shows, what every state keeps is kept
abbrev pub WideInvariant : Topology → Wide → Type 0
WideInvariant t w = (c : ℕ → Option NextHop) → ((i : ℕ) → Pick w i (c i)) → Invariant t (with_hops c w.state)

-- what router i shows after a step: its row, a next hop that is feasible now, or one that was in force before and stays so
data Shows (old new : Wide) (o : Option NextHop) (i : ℕ) : Type 0 where
  Row : o ≡ (new.state).published i → Shows old new o i
  Fresh : (h : NextHop) → o ≡ Some h → IsFeasible new.state i h → Shows old new o i
  Old : (h : NextHop) → o ≡ Some h → Among h (old.hops i) → StaysInForce old.state new.state i → Shows old new o i

-- what it may have shown before the step
abbrev before : (old new : Wide) (o : Option NextHop) (i : ℕ) → Shows old new o i → Option NextHop
before old new o i (Old h e a f) = Some h
before old new o i _ = (old.state).published i

-- what it shows if the step adds no next hop
abbrev after : (old new : Wide) (o : Option NextHop) (i : ℕ) → Shows old new o i → Option NextHop
after old new o i (Old h e a f) = Some h
after old new o i _ = (new.state).published i

-- that was a next hop that it might show
picked : (old new : Wide) (o : Option NextHop) (i : ℕ) (k : Shows old new o i) → Pick old i (before old new o i k)
picked old new o i (Old h e a f) = inr (h, refl, a)
picked old new o i _ = inl refl

-- what it shows stays as long as its row does
stays : (old new : Wide) (o : Option NextHop) (i : ℕ) (k : Shows old new o i) → (new.state).published i ≡ (old.state).published i → after old new o i k ≡ before old new o i k
stays old new o i (Old h e a f) same = refl
stays old new o i _ same = same

-- where a list is no longer with another behind it, that is empty
none_behind : {A : Type 0} (xs ys : List A) → length (xs ++ ys) ≤ length xs → ys ≡ []
none_behind {A} xs [] le = refl
none_behind {A} xs (y ∷ ys) le = absurd (let a = length-append xs (y ∷ ys) in omega (arith, le, a))

module _ (t : Topology) (old new : Wide) (J : WideInvariant t old) (S : WideStep t old new) (c : ℕ → Option NextHop) (K : (i : ℕ) → Pick new i (c i)) where
  -- what each router shows
  shows : (i : ℕ) → Shows old new (c i) i
  shows i = elim (K i) [
    | inl e ↦ Row e
    | inr k ↦ elim (S.hops i k.0 k.2) [ inl f ↦ Fresh k.0 k.1 f | inr o ↦ Old k.0 k.1 o.0 o.1 ]
  ]

  -- what they may have shown before the step, and what they show if it adds no next hop
  abbrev then' : ℕ → Option NextHop
  then' i = before old new (c i) i (shows i)

  abbrev now' : ℕ → Option NextHop
  now' i = after old new (c i) i (shows i)

  same : SamePublished old.state new.state → (i : ℕ) → now' i ≡ then' i
  same P i = stays old new (c i) i (shows i) (P.published_same i)

  module _ (P : Publish t old.state new.state) where
    elsewhere : (i : ℕ) → (i ≡ P.j → ⊥) → now' i ≡ then' i
    elsewhere i d = stays old new (c i) i (shows i) (P.published_elsewhere i d)

    -- a publication that ripens nothing for the prefix, and leaves the published feasible distance, is no step for those who look at a next hop alone
    nothing : StaysInForce old.state new.state P.j → now' P.j ≡ then' P.j → Skip t (with_hops then' old.state) (with_hops now' new.state)
    nothing F here = record {
      machines = moved.machines t old.state new.state then' now' P.machines;
      inboxes = moved.inboxes t old.state new.state then' now' P.inboxes;
      holdings = record {
        ripe_same = λ e. elim (cases_eq e.router P.j) [
          | inl r ↦ P.ripe_at e r ∙ ap (λ xs. (old.state).ripe e ++ xs) (none e r) ∙ append-nil ((old.state).ripe e)
          | inr d ↦ P.ripe_elsewhere e d
        ];
        unripe_same = λ e. elim (cases_eq e.router P.j) [
          | inl r ↦ P.unripe_at e r ∙ sym (none e r)
          | inr d ↦ P.unripe_elsewhere e d
        ];
      };
      links = moved.links t old.state new.state then' now' P.links;
      costs = moved.costs t old.state new.state then' now' P.costs;
      publications = record {
        published_same = λ i. elim (cases_eq i P.j) [
          | inl p ↦ subst (λ (k : ℕ). now' k ≡ then' k) (sym p) here
          | inr d ↦ elsewhere i d
        ];
        published_fd_same = λ i. elim (cases_eq i P.j) [
          | inl p ↦ subst (λ (k : ℕ). (new.state).published_fd k ≡ (old.state).published_fd k) (sym p) F.distance
          | inr d ↦ P.published_fd_elsewhere i d
        ];
      };
    }
      where
        none : (e : LinkEnd) → e.router ≡ P.j → (old.state).unripe e ≡ []
        none e r = none_behind ((old.state).ripe e) ((old.state).unripe e) (let a = F.ripens_nothing e r in let b = ap (λ xs. length xs) (P.ripe_at e r) in omega (arith, a, b))

    publishes : (k : Shows old new (c P.j) P.j) → shows P.j ≡ k → Step t (with_hops then' old.state) (with_hops now' new.state)
    publishes (Old h e a f) is = Skips (nothing f (ap (after old new (c P.j) P.j) is ∙ sym (ap (before old new (c P.j) P.j) is)))
    publishes _ is = Publishes (moved.publish t old.state new.state then' now' P (ap (after old new (c P.j) P.j) is) elsewhere)

  -- the step is one of the network in which each router shows that
  goes : Step t old.state new.state → Step t (with_hops then' old.state) (with_hops now' new.state)
  goes (Takes P) = Takes (moved.take t old.state new.state then' now' (same P.publications) P)
  goes (TakesAtHome P) = TakesAtHome (moved.take_at_home t old.state new.state then' now' (same P.publications) P)
  goes (Publishes P) = publishes P (shows P.j) refl
  goes (Releases P) = Releases (moved.release t old.state new.state then' now' (same P.publications) P)
  goes (LinkComes P) = LinkComes (moved.link_up t old.state new.state then' now' (same P.publications) P)
  goes (LinkGoes P) = LinkGoes (moved.link_down t old.state new.state then' now' (same P.publications) P)
  goes (CostChanges P) = CostChanges (moved.set_cost t old.state new.state then' now' (same P.publications) P)
  goes (Skips P) = Skips (moved.skip t old.state new.state then' now' (same P.publications) P)

  -- so what every state keeps is kept after the step
  kept_now : Invariant t (with_hops now' new.state)
  kept_now = steps_keep machine_laws t (with_hops then' old.state) (with_hops now' new.state) (J then' (λ i. picked old new (c i) i (shows i))) (goes S.step)

  -- and with the next hops that the step adds
  may_show : (i : ℕ) → MayShow (with_hops now' new.state) i (c i)
  may_show i = by_kind (shows i) refl
    where
      by_kind : (k : Shows old new (c i) i) → shows i ≡ k → MayShow (with_hops now' new.state) i (c i)
      by_kind (Row e) is = inl (e ∙ sym (ap (after old new (c i) i) is))
      by_kind (Fresh h e f) is = inr (h, e, record { port_up = f.port_up; present = f.present; below = f.below })
      by_kind (Old h e a f) is = inl (e ∙ sym (ap (after old new (c i) i) is))

  pub wide_step_keeps : Invariant t (with_hops c new.state)
  wide_step_keeps = shown_keeps t (with_hops now' new.state) c kept_now may_show

-- before the first step it is kept
pub wide_opening_keeps : (t : Topology) (w : Wide) → WideOpening t w → WideInvariant t w
wide_opening_keeps t w O c K = shown_keeps t w.state c (opening_keeps t w.state O.opening) may
  where
    may : (i : ℕ) → MayShow w.state i (c i)
    may i = elim (K i) [
      | inl e ↦ inl e
      | inr k ↦ absurd (let a : Some k.0 ≡ slice_get [] (k.2).0 = sym (rw (O.no_hops i) at (k.2).1) in none-some k.0 (sym a))
    ]

-- after every run it is
pub wide_run_keeps : (t : Topology) (first last : Wide) → WideOpening t first → WideRun t first last → WideInvariant t last
wide_run_keeps t first last O Begins = wide_opening_keeps t first O
wide_run_keeps t first last O (GoesOn {middle = m} r s) = wide_step_keeps t m last (wide_run_keeps t first m O r) s
