-- The awaited ports, as a set and as the definition's list.
use Rattle.std.proofs.Common.{◌⊎◌, inl, inr, get_or, refl, sym, ap, ◌∙◌, arith, ◌≡◌, ◌≢◌, ℕ, zero, suc, ◌+◌, ◌<◌, ◌≤◌, Bool, true, false, not, ◌&&◌, ◌||◌, ◌==◌, nat_lt, ◌↔◌, IsTrue, List, [], ◌∷◌, map, length, Option, slice_get, unwrap_or}
use Rattle.std.specs.{List.list_any, List.range_with_len, Option.option_map_or, FinSet.contains}
use Rattle.std.proofs.{Math.Bool.and-false, lemmas.Bool.cases_eq, lemmas.Bool.cases_lt, lemmas.Bool.ne_eqb, lemmas.Bool.Decides.nat_tests, lemmas.List.FromFn.get_or-map-range_with_len, lemmas.List.FromFn.length-map-range_with_len, lemmas.Option.slice_get_past, lemmas.Option.slice_get_read, lemmas.Option.unwrap_or-slice_get}
use Rattle.network_model.specs.{declared.machine.Neighbour.Neighbour, Machine.changed_at}
use Rattle.diffusing_replies.specs.Ports.{Ports}
use Rattle.dual_machine.specs.{Awaited.awaited_of, Awaited.AwaitsBelow, Event.is_neighbour_up}

-- ---- a port is awaited no more

and-true : (b : Bool) → (b && true) ≡ b
and-true true = refl
and-true false = refl

without_other : (f g : ℕ → Bool) (p q : ℕ) → q ≢ p → g q ≡ (f q && not (q == p)) → g q ≡ f q
without_other f g p q apart is = is ∙ ap (λ b. f q && not b) (ne_eqb q p apart) ∙ and-true (f q)

without_itself : (f g : ℕ → Bool) (p q : ℕ) → q ≡ p → g q ≡ (f q && not (q == p)) → g q ≡ false
without_itself f g p q same is = let here : q == p ≡ true = grind (arith, nat_tests) in is ∙ ap (λ b. f q && not b) here ∙ and-false (f q)

-- from a on, above the port, all is as before
above : (f g : ℕ → Bool) (p : ℕ) → ((q : ℕ) → g q ≡ (f q && not (q == p))) → (a n : ℕ) → p < a → map g (range_with_len a n) ≡ map f (range_with_len a n)
above f g p is a zero low = refl
above f g p is a (suc n) low = rw (without_other f g p a (omega arith) (is a)) (ap (λ bs. f a ∷ bs) (above f g p is (a + 1) n (omega arith)))

from_on : (f g : ℕ → Bool) (p : ℕ) → ((q : ℕ) → g q ≡ (f q && not (q == p))) → (a n k : ℕ) → a + k ≡ p
    → map g (range_with_len a n) ≡ changed_at k (λ b. false) (map f (range_with_len a n))
from_on f g p is a zero k at = refl
from_on f g p is a (suc n) zero at = rw (without_itself f g p a (omega arith) (is a)) (ap (λ bs. false ∷ bs) (above f g p is (a + 1) n (omega arith)))
from_on f g p is a (suc n) (suc k) at = rw (without_other f g p a (omega arith) (is a)) (ap (λ bs. f a ∷ bs) (from_on f g p is (a + 1) n k (omega arith)))

-- a set without a port, as a list
pub awaited_of-without : (s t : Ports) (p : ℕ) → ((q : ℕ) → contains t q ≡ (contains s q && not (q == p))) → (n : ℕ) → awaited_of n t ≡ changed_at p (λ b. false) (awaited_of n s)
awaited_of-without s t p is n = from_on (contains s) (contains t) p is 0 n p (omega arith)

-- ---- whether anyone is awaited

nobody : (f : ℕ → Bool) → ((q : ℕ) → f q ≡ false) → (a n : ℕ) → list_any (λ b. b) (map f (range_with_len a n)) ≡ false
nobody f none a zero = refl
nobody f none a (suc n) = rw (none a) (nobody f none (a + 1) n)

none_of : (f : ℕ → Bool) (a n : ℕ) → list_any (λ b. b) (map f (range_with_len a n)) ≡ false → (q : ℕ) → a ≤ q → q < a + n → f q ≡ false
none_of f a zero none q low high = absurd (omega arith)
none_of f a (suc n) none q low high = by_first (f a) refl none (λ rest later. none_of f (a + 1) n rest q later (omega arith))
  where
    by_first : (b : Bool) → f a ≡ b → (b || list_any (λ b. b) (map f (range_with_len (a + 1) n))) ≡ false
        → (list_any (λ b. b) (map f (range_with_len (a + 1) n)) ≡ false → a + 1 ≤ q → f q ≡ false) → f q ≡ false
    by_first true first h later = cc
    by_first false first h later = by_place (cases_lt a q)
      where
        by_place : (a < q) ⊎ (q ≤ a) → f q ≡ false
        by_place (inl less) = later h (omega arith)
        by_place (inr least) = let at : q ≡ a = omega arith in rw at first

-- someone is awaited exactly where not all replies are there
pub asking-done : (done : Bool) (s : Ports) (n : ℕ) → AwaitsBelow n s → (IsTrue done ↔ ((q : ℕ) → contains s q ≡ false)) → list_any (λ b. b) (awaited_of n s) ≡ not done
asking-done true s n below is = nobody (contains s) (is.0 refl) 0 n
asking-done false s n below is = by_any (list_any (λ b. b) (awaited_of n s)) refl
  where
    absent : (q : ℕ) (b : Bool) → contains s q ≡ b → list_any (λ b. b) (awaited_of n s) ≡ false → b ≡ false
    absent q false h none = refl
    absent q true h none = sym h ∙ none_of (contains s) 0 n none q (omega arith) (omega (arith, below q h))

    by_any : (b : Bool) → list_any (λ b. b) (awaited_of n s) ≡ b → b ≡ true
    by_any true h = refl
    by_any false h = is.1 (λ q. absent q (contains s q) refl h)

-- ---- everyone who is up

ups_from : (f : ℕ → Bool) (ns : List Neighbour) (a : ℕ) → ((p q : ℕ) → p ≡ a + q → f p ≡ is_neighbour_up ns q) → map f (range_with_len a (length ns)) ≡ map (λ n. n.up) ns
ups_from f [] a is = refl
ups_from f (n ∷ ns) a is = rw (is a 0 (omega arith)) (ap (λ bs. n.up ∷ bs) (ups_from f ns (a + 1) (λ p q at. is p (suc q) (omega arith))))

-- the set of those who are up, as a list
pub awaited_of-up : (s : Ports) (ns : List Neighbour) → ((q : ℕ) → contains s q ≡ is_neighbour_up ns q) → awaited_of (length ns) s ≡ map (λ n. n.up) ns
awaited_of-up s ns is = ups_from (contains s) ns 0 (λ p q at. let same : p ≡ q = omega arith in rw same (is q))

up_below : (ns : List Neighbour) (q : ℕ) → is_neighbour_up ns q ≡ true → q < length ns
up_below [] q up = cc
up_below (n ∷ ns) zero up = omega arith
up_below (n ∷ ns) (suc q) up = omega (arith, up_below ns q up)

-- they are ports of the machine
pub AwaitsBelow-up : (s : Ports) (ns : List Neighbour) → ((q : ℕ) → contains s q ≡ is_neighbour_up ns q) → AwaitsBelow (length ns) s
AwaitsBelow-up s ns is q has = up_below ns q (sym (is q) ∙ has)

-- where anyone is up, someone is awaited
pub list_any-map : (ns : List Neighbour) → list_any (λ b. b) (map (λ n. n.up) ns) ≡ list_any (λ n. n.up) ns
list_any-map [] = refl
list_any-map (n ∷ ns) = ap (λ b. n.up || b) (list_any-map ns)

-- ---- one port

-- the list has at a port what the set has
pub awaited_of-at : (s : Ports) (n q : ℕ) → AwaitsBelow n s → unwrap_or (slice_get (awaited_of n s) q) false ≡ contains s q
awaited_of-at s n q below = by_place (cases_lt q n)
  where
    absent : (b : Bool) → contains s q ≡ b → n ≤ q → false ≡ b
    absent false h out = refl
    absent true h out = absurd (omega (arith, below q h))

    by_place : (q < n) ⊎ (n ≤ q) → unwrap_or (slice_get (awaited_of n s) q) false ≡ contains s q
    by_place (inl low) = unwrap_or-slice_get (awaited_of n s) q false ∙ get_or-map-range_with_len (contains s) 0 n q q false low (omega arith)
    by_place (inr out) = ap (λ o. unwrap_or o false) (slice_get_past (awaited_of n s) q (omega (arith, length-map-range_with_len (contains s) 0 n))) ∙ absent (contains s q) refl out

-- ---- who is up, one port after the other

pub is_up_at-at : (ns : List Neighbour) (i : ℕ) (n : Neighbour) → i < length ns → n ≡ get_or ns i n → is_neighbour_up ns i ≡ n.up
is_up_at-at ns i n inside is = ap (λ (o : Option Neighbour). option_map_or (λ n. n.up) o false) (slice_get_read ns (length ns) i n refl inside is)

lt_itself : (q i : ℕ) → q ≡ i → nat_lt q (i + 1) ≡ true
lt_itself q i same = grind (arith, nat_tests)

lt_other : (q i : ℕ) → q ≢ i → nat_lt q (i + 1) ≡ nat_lt q i
lt_other q i apart = grind (arith, nat_tests)

not_lt_itself : (q i : ℕ) → q ≡ i → nat_lt q i ≡ false
not_lt_itself q i same = grind (arith, nat_tests)

eq_itself : (q i : ℕ) → q ≡ i → q == i ≡ true
eq_itself q i same = grind (arith, nat_tests)

pub more_up : (ns : List Neighbour) (q i : ℕ) → is_neighbour_up ns i ≡ true → (q == i || (nat_lt q i && is_neighbour_up ns q)) ≡ (nat_lt q (i + 1) && is_neighbour_up ns q)
more_up ns q i up = by_place (cases_eq q i)
  where
    by_place : (q ≡ i) ⊎ (q ≢ i) → (q == i || (nat_lt q i && is_neighbour_up ns q)) ≡ (nat_lt q (i + 1) && is_neighbour_up ns q)
    by_place (inl same) = ap (λ b. b || (nat_lt q i && is_neighbour_up ns q)) (eq_itself q i same) ∙ sym (ap (λ b. b && is_neighbour_up ns q) (lt_itself q i same) ∙ ap (is_neighbour_up ns) same ∙ up)
    by_place (inr apart) = ap (λ b. b || (nat_lt q i && is_neighbour_up ns q)) (ne_eqb q i apart) ∙ ap (λ b. b && is_neighbour_up ns q) (sym (lt_other q i apart))

pub more_down : (ns : List Neighbour) (q i : ℕ) → is_neighbour_up ns i ≡ false → (nat_lt q i && is_neighbour_up ns q) ≡ (nat_lt q (i + 1) && is_neighbour_up ns q)
more_down ns q i down = by_place (cases_eq q i)
  where
    by_place : (q ≡ i) ⊎ (q ≢ i) → (nat_lt q i && is_neighbour_up ns q) ≡ (nat_lt q (i + 1) && is_neighbour_up ns q)
    by_place (inl same) = ap (λ b. b && is_neighbour_up ns q) (not_lt_itself q i same) ∙ sym (ap (λ b. nat_lt q (i + 1) && b) (ap (is_neighbour_up ns) same ∙ down) ∙ and-false (nat_lt q (i + 1)))
    by_place (inr apart) = ap (λ b. b && is_neighbour_up ns q) (sym (lt_other q i apart))

-- past the last port there is no other
pub all_up : (ns : List Neighbour) (q i : ℕ) → length ns ≤ i → (nat_lt q i && is_neighbour_up ns q) ≡ is_neighbour_up ns q
all_up ns q i past = by_up (is_neighbour_up ns q) refl
  where
    inside : q < i → nat_lt q i ≡ true
    inside h = grind (arith, nat_tests)

    by_up : (b : Bool) → is_neighbour_up ns q ≡ b → (nat_lt q i && b) ≡ b
    by_up false h = and-false (nat_lt q i)
    by_up true h = ap (λ b. b && true) (inside (omega (arith, up_below ns q h)))
