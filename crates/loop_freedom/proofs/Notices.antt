-- The items towards a port: they lead from what its router has seen of the link to the link as it is.
use Rattle.std.proofs.Common.{refl, arith, ◌≡◌, ℕ, suc, ◌<◌, ◌≤◌, Bool, true, false, List, [], ◌∷◌, ◌++◌, ne_eqb}
use Rattle.network_model.proofs.Common.{false≢true, infinity, Report, SeenHeld, SeenItem, UpNotice, DownNotice, CostNotice, Reported}
use Rattle.loop_freedom.specs.{Network.notices, Facts.messages, Facts.live}

-- the items lead from a port that is up or not (u), which saw session s, to a link that is up or not, in session n
abbrev pub IsLawfulInbox : Bool → ℕ → Bool → ℕ → List SeenItem → Type 0
IsLawfulInbox u s up n [] = (u ≡ up) × (s ≡ n)
IsLawfulInbox u s up n (UpNotice k c ∷ is) = (u ≡ false) × (s < k) × (0 < c) × IsLawfulInbox true k up n is
IsLawfulInbox u s up n (DownNotice k ∷ is) = (u ≡ true) × (s ≡ k) × IsLawfulInbox false s up n is
IsLawfulInbox u s up n (CostNotice k c ∷ is) = (u ≡ true) × (s ≡ k) × (0 < c) × IsLawfulInbox u s up n is
IsLawfulInbox u s up n (Reported m ∷ is) = (u ≡ true) × (s ≡ n) × (up ≡ true) × (m.value ≤ infinity) × IsLawfulInbox u s up n is

-- no session later than the link's has been seen
pub lawful_seen : (u : Bool) (s : ℕ) (up : Bool) (n : ℕ) (is : List SeenItem) → IsLawfulInbox u s up n is → s ≤ n
lawful_seen u s up n [] h = omega (arith, h.1)
lawful_seen u s up n (UpNotice k c ∷ is) h = omega (arith, h.1, lawful_seen true k up n is h.3)
lawful_seen u s up n (DownNotice k ∷ is) h = lawful_seen false s up n is h.2
lawful_seen u s up n (CostNotice k c ∷ is) h = lawful_seen u s up n is h.3
lawful_seen u s up n (Reported m ∷ is) h = lawful_seen u s up n is h.4

-- a port that is down on a live link has yet to see its session
pub lawful_later : (s n : ℕ) (is : List SeenItem) → IsLawfulInbox false s true n is → s < n
lawful_later s n (UpNotice k c ∷ is) h = omega (arith, h.1, lawful_seen true k true n is h.3)
lawful_later s n _ h = absurd (false≢true h.0)

-- the items towards a port are lawful after its link comes up
pub lawful_up : (u : Bool) (s n c : ℕ) (is : List SeenItem) → 0 < c → IsLawfulInbox u s false n is → IsLawfulInbox u s true (suc n) (is ++ UpNotice (suc n) c ∷ [])
lawful_up u s n c [] p h = (h.0, omega (arith, h.1), p, (refl, refl))
lawful_up u s n c (UpNotice k d ∷ is) p h = (h.0, h.1, h.2, lawful_up true k n c is p h.3)
lawful_up u s n c (DownNotice k ∷ is) p h = (h.0, h.1, lawful_up false s n c is p h.2)
lawful_up u s n c (CostNotice k d ∷ is) p h = (h.0, h.1, h.2, lawful_up u s n c is p h.3)
lawful_up u s n c (Reported m ∷ is) p h = absurd (false≢true h.2)

-- the items towards a port are lawful after its link goes down
pub lawful_down : (u : Bool) (s n : ℕ) (is : List SeenItem) → IsLawfulInbox u s true n is → IsLawfulInbox u s false n (notices is ++ DownNotice n ∷ [])
lawful_down u s n [] h = (h.0, h.1, (refl, h.1))
lawful_down u s n (UpNotice k d ∷ is) h = (h.0, h.1, h.2, lawful_down true k n is h.3)
lawful_down u s n (DownNotice k ∷ is) h = (h.0, h.1, lawful_down false s n is h.2)
lawful_down u s n (CostNotice k d ∷ is) h = (h.0, h.1, h.2, lawful_down u s n is h.3)
lawful_down u s n (Reported m ∷ is) h = lawful_down u s n is h.4

-- the items towards a port are lawful after its cost is set
pub lawful_cost : (u : Bool) (s n c : ℕ) (is : List SeenItem) → 0 < c → IsLawfulInbox u s true n is → IsLawfulInbox u s true n (is ++ CostNotice n c ∷ [])
lawful_cost u s n c [] p h = (h.0, h.1, p, h)
lawful_cost u s n c (UpNotice k d ∷ is) p h = (h.0, h.1, h.2, lawful_cost true k n c is p h.3)
lawful_cost u s n c (DownNotice k ∷ is) p h = (h.0, h.1, lawful_cost false s n c is p h.2)
lawful_cost u s n c (CostNotice k d ∷ is) p h = (h.0, h.1, h.2, lawful_cost u s n c is p h.3)
lawful_cost u s n c (Reported m ∷ is) p h = (h.0, h.1, h.2, h.3, lawful_cost u s n c is p h.4)

-- the items towards a port are lawful after a message arrives on a live link
pub lawful_message : (u : Bool) (s n : ℕ) (m : Report) (is : List SeenItem) → m.value ≤ infinity → IsLawfulInbox u s true n is → IsLawfulInbox u s true n (is ++ Reported m ∷ [])
lawful_message u s n m [] p h = (h.0, h.1, refl, p, h)
lawful_message u s n m (UpNotice k d ∷ is) p h = (h.0, h.1, h.2, lawful_message true k n m is p h.3)
lawful_message u s n m (DownNotice k ∷ is) p h = (h.0, h.1, lawful_message false s n m is p h.2)
lawful_message u s n m (CostNotice k d ∷ is) p h = (h.0, h.1, h.2, lawful_message u s n m is p h.3)
lawful_message u s n m (Reported w ∷ is) p h = (h.0, h.1, h.2, h.3, lawful_message u s n m is p h.4)

-- no message is on a link that is down
pub lawful_empty : (u : Bool) (s n : ℕ) (is : List SeenItem) → IsLawfulInbox u s false n is → messages is ≡ []
lawful_empty u s n [] h = refl
lawful_empty u s n (UpNotice k d ∷ is) h = lawful_empty true k n is h.3
lawful_empty u s n (DownNotice k ∷ is) h = lawful_empty false s n is h.2
lawful_empty u s n (CostNotice k d ∷ is) h = lawful_empty u s n is h.3
lawful_empty u s n (Reported m ∷ is) h = absurd (false≢true h.2)

-- what is held is meant for sessions up to n, and no value is above infinity
abbrev pub IsLawfullyHeld : ℕ → List SeenHeld → Type 0
IsLawfullyHeld n [] = Unit {0}
IsLawfullyHeld n (h ∷ hs) = (h.session ≤ n) × (h.message.value ≤ infinity) × IsLawfullyHeld n hs

-- two lists that are lawfully held are so in a row
pub lawfully_held_append : (n : ℕ) (xs ys : List SeenHeld) → IsLawfullyHeld n xs → IsLawfullyHeld n ys → IsLawfullyHeld n (xs ++ ys)
lawfully_held_append n [] ys h g = g
lawfully_held_append n (x ∷ xs) ys h g = (h.0, h.1, lawfully_held_append n xs ys h.2 g)

-- nothing that is held for sessions up to n is meant for a later one
pub nothing_held_later : (n k : ℕ) (hs : List SeenHeld) → n < k → IsLawfullyHeld n hs → live k hs ≡ []
nothing_held_later n k [] lt h = refl
nothing_held_later n k (x ∷ xs) lt h = rw (ne_eqb x.session k (λ e. omega (arith, e, lt, h.0))) (nothing_held_later n k xs lt h.2)

-- what is lawfully held in a session is so in a later one
pub lawfully_held_later : (n k : ℕ) (hs : List SeenHeld) → n ≤ k → IsLawfullyHeld n hs → IsLawfullyHeld k hs
lawfully_held_later n k [] le h = tt
lawfully_held_later n k (x ∷ xs) le h = (omega (arith, h.0, le), h.1, lawfully_held_later n k xs le h.2)
