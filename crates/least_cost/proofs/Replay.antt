-- What a port will be once the items that wait there are taken.
use Rattle.std.proofs.Common.{◌≡◌, ℕ, ◌<◌, ◌≤◌, Bool, true, false, List, [], ◌∷◌, ◌++◌, Option, Some, None, length, refl, sym, arith, ◌∙◌, slice_get}
use Rattle.network_model.proofs.Common.{both_ways, Machine, records_after, infinity, slice_get-changed_at, slice_get-changed_at_other, element_there, SeenItem, UpNotice, DownNotice, CostNotice, Reported}
use Rattle.network_model.specs.declared.machine.Neighbour.{Neighbour}
use Rattle.machine_laws.specs.Laws.{test_at, reported_by, Meets}
use Rattle.loop_freedom.specs.Network.{event_of, seen_after, notices}

-- what a machine keeps of a port, with the session seen there
pub record Port : Type 0 where
  pub up : Bool
  pub session : ℕ
  pub cost : ℕ
  pub reported : ℕ

-- the port after an item is taken there
abbrev pub port_after : SeenItem → Port → Port
port_after (UpNotice s c) p = record { up = true; session = s; cost = c; reported = infinity }
port_after (DownNotice s) p = record { up = false; session = p.session; cost = p.cost; reported = p.reported }
port_after (CostNotice s c) p = record { up = p.up; session = p.session; cost = c; reported = p.reported }
port_after (Reported m) p = record { up = p.up; session = p.session; cost = p.cost; reported = m.value }

-- the port after everything that waits there is taken
abbrev pub replay : List SeenItem → Port → Port
replay [] p = p
replay (x ∷ xs) p = replay xs (port_after x p)

-- an item that the port may take
abbrev pub FitsOne : SeenItem → Port → Type 0
FitsOne (UpNotice s c) p = (p.up ≡ false) × (p.session < s) × (0 < c)
FitsOne (DownNotice s) p = p.up ≡ true
FitsOne (CostNotice s c) p = (p.up ≡ true) × (0 < c)
FitsOne (Reported m) p = (p.up ≡ true) × (m.value ≤ infinity)

-- items that the port may take, one after the other
abbrev pub Fits : List SeenItem → Port → Type 0
Fits [] p = Unit {0}
Fits (x ∷ xs) p = (FitsOne x p) × (Fits xs (port_after x p))

-- two lists of items in a row are taken one after the other
pub replay_append : (xs ys : List SeenItem) (p : Port) → replay (xs ++ ys) p ≡ replay ys (replay xs p)
replay_append [] ys p = refl
replay_append (x ∷ xs) ys p = replay_append xs ys (port_after x p)

-- two lists of items fit in a row where the second fits after the first
pub fits_append : (xs ys : List SeenItem) (p : Port) → Fits xs p → Fits ys (replay xs p) → Fits (xs ++ ys) p
fits_append [] ys p f g = g
fits_append (x ∷ xs) ys p f g = (f.0, fits_append xs ys (port_after x p) f.1 g)

-- two ports that differ in what was reported at most
pub record Alike (p r : Port) : Type 0 where
  pub up : p.up ≡ r.up
  pub session : p.session ≡ r.session
  pub cost : p.cost ≡ r.cost

-- two alike ports are alike after an item
alike_after : (x : SeenItem) (p r : Port) → Alike p r → Alike (port_after x p) (port_after x r)
alike_after (UpNotice s c) p r a = record { up = refl; session = refl; cost = refl }
alike_after (DownNotice s) p r a = record { up = refl; session = a.session; cost = a.cost }
alike_after (CostNotice s c) p r a = record { up = a.up; session = a.session; cost = refl }
alike_after (Reported m) p r a = record { up = a.up; session = a.session; cost = a.cost }

-- an item that one of two alike ports may take, the other may take
alike_fits : (x : SeenItem) (p r : Port) → Alike p r → FitsOne x p → FitsOne x r
alike_fits (UpNotice s c) p r a f = (sym a.up ∙ f.0, omega (arith, f.1, a.session), f.2)
alike_fits (DownNotice s) p r a f = sym a.up ∙ f
alike_fits _ p r a f = (sym a.up ∙ f.0, f.1)

-- the notices alone leave a port alike to what all the items leave
pub notices_alike : (xs : List SeenItem) (p r : Port) → Alike p r → Alike (replay xs p) (replay (notices xs) r)
notices_alike [] p r a = a
notices_alike (UpNotice s c ∷ xs) p r a = notices_alike xs (port_after (UpNotice s c) p) (port_after (UpNotice s c) r) (alike_after (UpNotice s c) p r a)
notices_alike (DownNotice s ∷ xs) p r a = notices_alike xs (port_after (DownNotice s) p) (port_after (DownNotice s) r) (alike_after (DownNotice s) p r a)
notices_alike (CostNotice s c ∷ xs) p r a = notices_alike xs (port_after (CostNotice s c) p) (port_after (CostNotice s c) r) (alike_after (CostNotice s c) p r a)
notices_alike (Reported m ∷ xs) p r a = notices_alike xs (port_after (Reported m) p) r (record { up = a.up; session = a.session; cost = a.cost })

-- where the items fit, the notices alone do
pub notices_fit : (xs : List SeenItem) (p r : Port) → Alike p r → Fits xs p → Fits (notices xs) r
notices_fit [] p r a f = tt
notices_fit (UpNotice s c ∷ xs) p r a f = (alike_fits (UpNotice s c) p r a f.0, notices_fit xs (port_after (UpNotice s c) p) (port_after (UpNotice s c) r) (alike_after (UpNotice s c) p r a) f.1)
notices_fit (DownNotice s ∷ xs) p r a f = (alike_fits (DownNotice s) p r a f.0, notices_fit xs (port_after (DownNotice s) p) (port_after (DownNotice s) r) (alike_after (DownNotice s) p r a) f.1)
notices_fit (CostNotice s c ∷ xs) p r a f = (alike_fits (CostNotice s c) p r a f.0, notices_fit xs (port_after (CostNotice s c) p) (port_after (CostNotice s c) r) (alike_after (CostNotice s c) p r a) f.1)
notices_fit (Reported m ∷ xs) p r a f = notices_fit xs (port_after (Reported m) p) r (record { up = a.up; session = a.session; cost = a.cost }) f.1

-- no item lowers the session
pub session_one : (x : SeenItem) (p : Port) → FitsOne x p → p.session ≤ (port_after x p).session
session_one (UpNotice s c) p f = omega (arith, f.1)
session_one _ p f = omega arith

-- no items lower the session
pub session_rises : (xs : List SeenItem) (p : Port) → Fits xs p → p.session ≤ (replay xs p).session
session_rises [] p f = omega arith
session_rises (x ∷ xs) p f = omega (arith, session_one x p f.0, session_rises xs (port_after x p) f.1)

-- a port that is down now and up in the end is in an earlier session
pub session_down : (xs : List SeenItem) (p : Port) → Fits xs p → p.up ≡ false → (replay xs p).up ≡ true → p.session < (replay xs p).session
session_down [] p f d u = absurd (both_ways p.up d u)
session_down (UpNotice s c ∷ xs) p f d u = omega (arith, f.0.1, session_rises xs (port_after (UpNotice s c) p) f.1)
session_down (DownNotice s ∷ xs) p f d u = absurd (both_ways p.up d f.0)
session_down _ p f d u = absurd (both_ways p.up d f.0.0)

-- the cost kept with a neighbour; 0 where there is none
abbrev pub cost_of : Option Neighbour → ℕ
cost_of None = 0
cost_of (Some n) = n.cost

-- port q of a machine's records, with the session seen there
abbrev pub port_in : List Neighbour → ℕ → ℕ → Port
port_in ns q seen = record { up = test_at (λ n. n.up) (slice_get ns q); session = seen; cost = cost_of (slice_get ns q); reported = reported_by (slice_get ns q) }

-- the port at which an item is taken is as the item leaves it, where there is a neighbour
port_taken_at : (ns : List Neighbour) (q seen : ℕ) (x : SeenItem) (n : Neighbour) → slice_get ns q ≡ Some n → port_in (records_after (event_of q x) ns) q (seen_after x seen) ≡ port_after x (port_in ns q seen)
port_taken_at ns q seen (UpNotice s c) n h = rw (slice_get-changed_at (λ y. record { up = true; cost = c; reported = infinity }) q ns, h) refl
port_taken_at ns q seen (DownNotice s) n h = rw (slice_get-changed_at (λ y. record { up = false; cost = y.cost; reported = y.reported }) q ns, h) refl
port_taken_at ns q seen (CostNotice s c) n h = rw (slice_get-changed_at (λ y. record { up = y.up; cost = c; reported = y.reported }) q ns, h) refl
port_taken_at ns q seen (Reported m) n h = rw (slice_get-changed_at (λ y. record { up = y.up; cost = y.cost; reported = m.value }) q ns, h) refl

-- the port at which an item is taken is as the item leaves it
pub port_taken : (ns : List Neighbour) (q seen : ℕ) (x : SeenItem) → q < length ns → port_in (records_after (event_of q x) ns) q (seen_after x seen) ≡ port_after x (port_in ns q seen)
port_taken ns q seen x l = let (n, h) = element_there ns q l in port_taken_at ns q seen x n h

-- another port stays as it is
pub port_other : (ns : List Neighbour) (q p seen : ℕ) (x : SeenItem) → (p ≡ q → ⊥) → port_in (records_after (event_of q x) ns) p seen ≡ port_in ns p seen
port_other ns q p seen (UpNotice s c) ne = rw (slice_get-changed_at_other (λ y. record { up = true; cost = c; reported = infinity }) q p ns ne) refl
port_other ns q p seen (DownNotice s) ne = rw (slice_get-changed_at_other (λ y. record { up = false; cost = y.cost; reported = y.reported }) q p ns ne) refl
port_other ns q p seen (CostNotice s c) ne = rw (slice_get-changed_at_other (λ y. record { up = y.up; cost = c; reported = y.reported }) q p ns ne) refl
port_other ns q p seen (Reported m) ne = rw (slice_get-changed_at_other (λ y. record { up = y.up; cost = y.cost; reported = m.value }) q p ns ne) refl

-- an item that fits is an event that the machine meets
pub meets_item : (m : Machine) (q seen : ℕ) (x : SeenItem) → q < length m.ports → FitsOne x (port_in m.ports q seen) → Meets m (event_of q x)
meets_item m q seen (UpNotice s c) l f = (l, f.0, f.2)
meets_item m q seen _ l f = f
