-- Two packets that come back in a triangle: one for a better way, and one after a computation that ended where it was.
use Rattle.std.proofs.Common.{refl, sym, subst, inl, inr, arith, ◌≤◌, ◌≡◌, ℕ, Bool, true, false, cond, List, [], ◌∷◌, ◌++◌, All, zero, suc, Some, None, IsSome}
use Rattle.no_packet_loops.proofs.Common.{false≢true, Prefix, IsPrefix, IsCost, prefix_eq, Entry, Via, World, Network, opening, LinkSpec, HasCosts, IsNetwork, next, Runs, run, run-Runs, History, history, with_step, Step, LinkUp, LinkDown, Deliver, Publish, Release, Some_injective}
use Rattle.no_packet_loops.proofs.{Machines.prefix_same, Runs.history_world}
use Rattle.all_packets.specs.{Packets.MayGoOn, Journeys.Event, Journeys.Goes, Journeys.Does}
use Rattle.moving_packets.specs.Moving.{fd_chosen, fd_published, history_after, StaysNear, IsMoving, HasBetter, SomeComesBackForBetter, SomeComesBackAfterRise}
use Rattle.network_model.specs.declared.network.Offer.TheVariants.{One}

-- ---- a packet that waits

abbrev waiting : List Step → List Event
waiting [] = []
waiting (s ∷ ss) = Does s ∷ waiting ss

-- it waits through lawful steps, and goes on then
waits_near : (h : History) (addr : ℕ) (p : Prefix) (f k i : ℕ) (ss : List Step) (v : World) → Runs h.world ss v → StaysNear (λ x g. x ≤ g) (history_after h (waiting ss)) addr p f k (Goes i ∷ []) → StaysNear (λ x g. x ≤ g) h addr p f k (waiting ss ++ Goes i ∷ [])
waits_near h addr p f k i [] v r goes = goes
waits_near h addr p f k i (s ∷ ss) v r goes = (r.0, waits_near (with_step h s) addr p f k i ss v r.1 goes)

waits_moving : (w : World) (addr k i : ℕ) (ss : List Step) (v : World) → Runs w ss v → MayGoOn v addr k i → IsMoving w addr k (waiting ss ++ Goes i ∷ [])
waits_moving w addr k i [] v r goes = (subst (λ (u : World). MayGoOn u addr k i) (sym r) goes, tt)
waits_moving w addr k i (s ∷ ss) v r goes = (r.0, waits_moving (next w s) addr k i ss v r.1 goes)

-- ---- networks of three routers

abbrev link : ℕ → ℕ → ℕ → LinkSpec
link i k cost = record { a = i; b = k; from_a = cost; from_b = cost }

abbrev prefix : Prefix
prefix = record { addr = 0x0a000000; len = 8 }

abbrev address : ℕ
address = 0x0a010203

-- what holds of three elements holds of all
all_of_three : {A : Type 0} (P : A → Type 0) (x y z : A) → P x → P y → P z → All P (x ∷ y ∷ z ∷ [])
all_of_three P x y z one two three zero d below = one
all_of_three P x y z one two three (suc zero) d below = two
all_of_three P x y z one two three (suc (suc zero)) d below = three
all_of_three P x y z one two three (suc (suc (suc i))) d below = absurd (omega (arith, below))

all_of_one : {A : Type 0} (P : A → Type 0) (x : A) → P x → All P (x ∷ [])
all_of_one P x one zero d below = one
all_of_one P x one (suc i) d below = absurd (omega (arith, below))

cost_one : IsCost 1
cost_one = record { positive = omega arith; small = omega arith }

cost_five : IsCost 5
cost_five = record { positive = omega arith; small = omega arith }

-- the triangle, whose links 0-1 and 1-2 and 0-2 cost so much, with the prefix at a router
abbrev triangle : ℕ → ℕ → ℕ → ℕ → Network
triangle one two three at = record { routers = 3; links = link 0 1 one ∷ link 1 2 two ∷ link 0 2 three ∷ []; attachments = (prefix, at, 1) ∷ []; offer = One }

-- ---- a better way

-- the link 0-2 is down at first: router 0 has its way by router 1, over the link 1-2 that costs 5
abbrev long : Network
long = triangle 1 5 1 2

long_good : IsNetwork long
long_good = record {
  no_fault = refl;
  costs = all_of_three HasCosts (link 0 1 1) (link 1 2 5) (link 0 2 1) (record { from_a = cost_one; from_b = cost_one }) (record { from_a = cost_five; from_b = cost_five }) (record { from_a = cost_one; from_b = cost_one });
  attachment_costs = all_of_one (λ a. IsCost a.2) (prefix, 2, 1) cost_one;
  prefixes = all_of_one (λ a. IsPrefix a.0) (prefix, 2, 1) (record { short = omega arith; fits = omega arith; no_host_bits = refl });
}

-- router 2 tells router 1, which tells router 0
abbrev told : List Step
told = LinkUp 0 ∷ LinkUp 1 ∷ Deliver 0 0 ∷ Deliver 1 0 ∷ Deliver 1 1 ∷ Deliver 2 0
    ∷ Publish 2 ∷ Release 2 ∷ Deliver 1 1 ∷ Publish 1 ∷ Release 1 ∷ Deliver 0 0 ∷ Publish 0 ∷ []

-- the packet goes from router 0 to 1. Then the link 0-2 comes up: router 0 finds its way by router 2, and tells router 1, which turns round, and has yet to
-- publish that
abbrev found : List Step
found = LinkUp 2 ∷ Deliver 0 1 ∷ Deliver 2 1 ∷ Publish 2 ∷ Release 2 ∷ Deliver 0 1 ∷ Publish 0 ∷ Release 0 ∷ Release 0 ∷ Release 0 ∷ Deliver 1 0 ∷ Deliver 1 0 ∷ []

abbrev long_then : World
long_then = (run (opening long) told).world

told_runs : Runs (opening long) told long_then
told_runs = run-Runs (opening long) told (tt, (tt, (tt, (tt, (tt, (tt, (tt, (tt, (tt, (tt, (tt, (tt, (tt, tt))))))))))))) refl

found_runs : Runs long_then found (run long_then found).world
found_runs = run-Runs long_then found (tt, (tt, (tt, (tt, (tt, (tt, (tt, (tt, (tt, (tt, (tt, (tt, tt)))))))))))) refl

pub some_for_better : SomeComesBackForBetter
some_for_better = (
  long,
  told,
  long_then,
  address,
  0,
  1,
  prefix,
  waiting found,
  long_good,
  told_runs,
  (
    record { entry = Via 0 1; matched = refl; leads = refl },
    waits_near (history long told) address prefix (fd_published (history long told) prefix 0) 1 0 found (run long_then found).world (subst (λ (x : World). Runs x found (run long_then found).world) (sym (history_world long told long_then told_runs)) found_runs)
        (true, near, λ e. refl, prefix, record { entry = Via 0 1; matched = refl; leads = refl }, end),
  ),
  λ e. (let other : 2 ≡ 0 = Some_injective e in omega (arith, other)),
)
  where
    near : fd_chosen (history_after (history long told) (waiting found)) prefix 1 ≤ fd_published (history long told) prefix 0
    near =
        let now : fd_chosen (history_after (history long told) (waiting found)) prefix 1 ≡ 3 = refl in
        let was : fd_published (history long told) prefix 0 ≡ 7 = refl in
        omega (arith, now, was)

    end : fd_published (history_after (history long told) (waiting found)) prefix 0 ≤ fd_chosen (history_after (history long told) (waiting found)) prefix 1
    end =
        let here : fd_published (history_after (history long told) (waiting found)) prefix 0 ≡ 2 = refl in
        let was : fd_chosen (history_after (history long told) (waiting found)) prefix 1 ≡ 3 = refl in
        omega (arith, here, was)

-- ---- a computation that ended

-- the triangle of the examples: the way of router 2 leads by router 1
abbrev short : Network
short = triangle 1 1 5 0

short_good : IsNetwork short
short_good = record {
  no_fault = refl;
  costs = all_of_three HasCosts (link 0 1 1) (link 1 2 1) (link 0 2 5) (record { from_a = cost_one; from_b = cost_one }) (record { from_a = cost_one; from_b = cost_one }) (record { from_a = cost_five; from_b = cost_five });
  attachment_costs = all_of_one (λ a. IsCost a.2) (prefix, 0, 1) cost_one;
  prefixes = all_of_one (λ a. IsPrefix a.0) (prefix, 0, 1) (record { short = omega arith; fits = omega arith; no_host_bits = refl });
}

abbrev spread : List Step
spread = LinkUp 0 ∷ LinkUp 1 ∷ LinkUp 2 ∷ Deliver 0 0 ∷ Deliver 0 1 ∷ Deliver 1 0 ∷ Deliver 1 1 ∷ Deliver 2 0 ∷ Deliver 2 1
    ∷ Publish 0 ∷ Release 0 ∷ Release 0 ∷ Deliver 1 0 ∷ Publish 1 ∷ Release 1 ∷ Release 1 ∷ Deliver 2 1 ∷ Deliver 2 0 ∷ Publish 2 ∷ []

-- the packet goes from router 2 to 1. Then the link 0-1 goes down: router 1 asks router 2, which takes its other way and replies; so the computation ends,
-- and router 1 turns round
abbrev asked : List Step
asked = LinkDown 0 ∷ Deliver 1 0 ∷ Publish 1 ∷ Release 1 ∷ Deliver 2 0 ∷ Publish 2 ∷ Release 2 ∷ Release 2 ∷ Release 2 ∷ Release 2 ∷ Release 2
    ∷ Deliver 1 1 ∷ Deliver 1 1 ∷ Deliver 1 1 ∷ Publish 1 ∷ []

abbrev short_then : World
short_then = (run (opening short) spread).world

spread_runs : Runs (opening short) spread short_then
spread_runs = run-Runs (opening short) spread (tt, (tt, (tt, (tt, (tt, (tt, (tt, (tt, (tt, (tt, (tt, (tt, (tt, (tt, (tt, (tt, (tt, (tt, (tt, tt))))))))))))))))))) refl

asked_runs : Runs short_then asked (run short_then asked).world
asked_runs = run-Runs short_then asked (tt, (tt, (tt, (tt, (tt, (tt, (tt, (tt, (tt, (tt, (tt, (tt, (tt, (tt, (tt, tt))))))))))))))) refl

-- a router that has published a row of this prefix alone
only : (q : Prefix) (e : Entry) → IsSome (cond (prefix_eq q prefix) (Some e) None) → q ≡ prefix
only q e h = by_test (prefix_eq q prefix) refl h
  where
    by_test : (b : Bool) → prefix_eq q prefix ≡ b → IsSome (cond b (Some e) None) → q ≡ prefix
    by_test true is h = prefix_same q prefix is
    by_test false is h = absurd (false≢true h)

pub some_after_rise : SomeComesBackAfterRise
some_after_rise = (
  short,
  spread,
  short_then,
  address,
  2,
  1,
  prefix,
  waiting asked,
  short_good,
  spread_runs,
  record { entry = Via 0 1; matched = refl; leads = refl },
  waits_moving short_then address 1 2 asked (run short_then asked).world asked_runs (false, refl),
  none,
)
  where
    none : HasBetter false false address 2 prefix (history short spread) (history_after (history short spread) (waiting asked)) → ⊥
    none (inl lt) =
        let now : fd_published (history_after (history short spread) (waiting asked)) prefix 2 ≡ 3 = refl in
        let was : fd_published (history short spread) prefix 2 ≡ 3 = refl in
        omega (arith, now, was, lt)
    none (inr (q, covered, other, le, fresh, is_some)) = other (only q (Via 1 1) is_some)
