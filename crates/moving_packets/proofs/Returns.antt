-- When a packet comes back to a router, whatever its moments are: after steps of a network, or after what happens among processes.
use Rattle.std.proofs.Common.{refl, sym, ap, subst, ◌∙◌, inl, inr, arith, ◌<◌, ◌≤◌, ◌≡◌, ◌≢◌, ◌⊎◌, ℕ, suc, ◌+◌, Bool, true, false, ◌&&◌, ◌||◌, ◌==◌, nat_lt, if◌then◌else◌, Option, Some, None, IsSome, eqb-true, ltb-true, ltb-false}
use Rattle.no_packet_loops.proofs.Common.{Prefix, covers, infinity, Entry, or_parts}
use Rattle.all_packets.proofs.Matches.{GoesBefore}
use Rattle.moving_packets.specs.Moving.{IsBetter}

-- ---- a router where a packet is

-- its published feasible distance is below g, and so is the present one, unless it has risen
pub record IsLow (shown now : ℕ) (risen : Bool) (g : ℕ) : Type 0 where
  pub published : shown < g
  pub chosen : risen ≡ false → now < g

-- so they stay, if no rise is published where one may be: elsewhere none has begun, and the published one stays, or becomes the present one
pub stays_low : (shown now shown' now' : ℕ) (risen may : Bool) (g : ℕ) → (may ≡ false → (risen ≡ false) × ((shown' ≡ shown) ⊎ (shown' ≡ now))) → (may && nat_lt shown shown') ≡ false → IsLow shown now risen g
    → IsLow shown' now' (risen || nat_lt now now') g
stays_low shown now shown' now' risen may g same calm W = record {
  published = by_rise may refl calm;
  chosen = λ e. (
      let none = or_parts risen (nat_lt now now') e in
      let le = ltb-false now now' none.1 in
      let lt = W.chosen none.0 in
      omega (arith, le, lt));
}
  where
    by_rise : (b : Bool) → may ≡ b → (b && nat_lt shown shown') ≡ false → shown' < g
    by_rise true is c = (let le = ltb-false shown shown' c in let lt = W.published in omega (arith, le, lt))
    by_rise false is c = elim (same is).1 [
      | inl e ↦ (let lt = W.published in omega (arith, e, lt))
      | inr e ↦ (let lt = W.chosen (same is).0 in omega (arith, e, lt))
    ]

-- and so is the one that a packet meets there
pub meets_low : (risen c : Bool) (shown now g : ℕ) → (risen && nat_lt shown (if c then now else shown)) ≡ false → IsLow shown now risen g → (if c then now else shown) < g
meets_low risen false shown now g calm W = W.published
meets_low false true shown now g calm W = W.chosen refl
meets_low true true shown now g calm W = (let le = ltb-false shown now calm in let lt = W.published in omega (arith, le, lt))

-- ---- prefixes and distances along the way

-- beyond a prefix p and a distance f: a prefix that is longer, or as long and before p, or p itself with a distance g of at most f
abbrev pub Beyond : Prefix → ℕ → Prefix → ℕ → Type 0
Beyond p f q g = (p.len < q.len) ⊎ ((p.len ≡ q.len) × ((q.addr < p.addr) ⊎ ((q.addr ≡ p.addr) × (g ≤ f))))

-- where a packet goes on by a prefix that goes before, and, if it is the same, at a lower distance, it stays beyond
stays_beyond : (p : Prefix) (f : ℕ) (q q' : Prefix) (g g' : ℕ) → GoesBefore q' q → (q' ≡ q → g' ≤ g) → Beyond p f q g → Beyond p f q' g'
stays_beyond p f q q' g g' (inl longer) le (inl far) = inl (omega (arith, longer, far))
stays_beyond p f q q' g g' (inl longer) le (inr (same, rest)) = inl (omega (arith, longer, same))
stays_beyond p f q q' g g' (inr (same, low)) le (inl far) = inl (omega (arith, same, far))
stays_beyond p f q q' g g' (inr (same, low)) le (inr (as_long, inl less)) = inr (as_long ∙ same, inl (omega (arith, low, less)))
stays_beyond p f q q' g g' (inr (same, low)) le (inr (as_long, inr (one, below))) = by_addr (nat_lt q'.addr q.addr) refl
  where
    by_addr : (d : Bool) → nat_lt q'.addr q.addr ≡ d → Beyond p f q' g'
    by_addr true less = (let lt = ltb-true q'.addr q.addr less in inr (as_long ∙ same, inl (omega (arith, lt, one))))
    by_addr false least =
        let ge = ltb-false q'.addr q.addr least in
        let e : q'.addr ≡ q.addr = omega (arith, ge, low) in
        let prefix : q' ≡ q = λ z. record { addr = e z; len = sym same z } in
        let m = le prefix in
        inr (as_long ∙ same, inr (e ∙ one, omega (arith, m, below)))

-- a packet that left a router by a row of prefix p, whose feasible distance was f, came by a row of prefix q, whose feasible distance was g
pub record IsOn (addr : ℕ) (p : Prefix) (f : ℕ) (q : Prefix) (g : ℕ) : Type 0 where
  pub covered_is : covers q addr ≡ true
  pub top : g < infinity
  pub beyond : Beyond p f q g

-- ---- hops

-- a packet for the address goes on by a row of prefix p, at a feasible distance of f. The router has these rows, and those of the router to which the packet goes
-- are to: that with which it published last, and the one that it has chosen
pub record Hop (addr : ℕ) (p : Prefix) (f : ℕ) (rows : Prefix → Option Entry) (to : Bool → ℕ) : Type 0 where
  pub covered : covers p addr ≡ true
  pub finite : f < infinity
  pub before : (q : Prefix) → covers q addr ≡ true → IsSome (rows q) → GoesBefore p q
  pub lower : (d : Bool) → to d < f

module _ {addr : ℕ} {p : Prefix} {f : ℕ} {rows : Prefix → Option Entry} {to : Bool → ℕ} (H : Hop addr p f rows to) where
  -- so it is at the first router to which it goes
  pub first_on : IsOn addr p f p f
  first_on = record { covered_is = H.covered; top = H.finite; beyond = inr (refl, inr (refl, omega arith)) }

  -- and at each next one, where the router has a row of the prefix by which the packet came, and is near if it goes on by that
  pub goes_on : (p0 : Prefix) (f0 : ℕ) (q : Prefix) (g : ℕ) → IsOn addr p0 f0 q g → (g < infinity → IsSome (rows q)) → (p ≡ q → f ≤ g) → IsOn addr p0 f0 p f
  goes_on p0 f0 q g O known near = record { covered_is = H.covered; top = H.finite; beyond = stays_beyond p0 f0 q p g f (H.before q O.covered_is (known O.top)) near O.beyond }

  -- the prefix by which it comes is the one by which it left, at no greater distance, or another, of which the router that it left had no row
  pub came_by : (q : Prefix) (g : ℕ) → IsOn addr p f q g → ((q ≡ p) × (g ≤ f)) ⊎ ((q ≢ p) × (p.len ≤ q.len) × (rows q ≡ None))
  came_by q g O = by_beyond O.beyond
    where
      -- a prefix that goes strictly before was not shown
      fresh : (GoesBefore p q → ⊥) → rows q ≡ None
      fresh never = by_row (rows q) refl
        where
          by_row : (o : Option Entry) → rows q ≡ o → o ≡ None
          by_row None is = refl
          by_row (Some e) is = absurd (never (H.before q O.covered_is (subst IsSome (sym is) refl)))

      by_beyond : Beyond p f q g → ((q ≡ p) × (g ≤ f)) ⊎ ((q ≢ p) × (p.len ≤ q.len) × (rows q ≡ None))
      by_beyond (inl longer) = inr (
        λ e. (let same = ap (λ (y : Prefix). y.len) e in omega (arith, same, longer)),
        omega (arith, longer),
        fresh (λ b. elim b [ inl x ↦ omega (arith, x, longer) | inr x ↦ (let e = x.0 in omega (arith, e, longer)) ]),
      )
      by_beyond (inr (as_long, inl less)) = inr (
        λ e. (let same = ap (λ (y : Prefix). y.addr) e in omega (arith, same, less)),
        omega (arith, as_long),
        fresh (λ b. elim b [ inl x ↦ omega (arith, x, as_long) | inr x ↦ (let le = x.1 in omega (arith, le, less)) ]),
      )
      by_beyond (inr (as_long, inr (one, below))) = inl (λ z. record { addr = one z; len = sym as_long z }, below)

  -- so where the feasible distance of that router is lower now, and it has a row, it has a better way
  pub finds_better : (q : Prefix) (g : ℕ) → IsOn addr p f q g → (fd : Prefix → ℕ) (now : Prefix → Option Entry) → fd q < g → IsSome (now q) → IsBetter addr p f (fd p) rows now
  finds_better q g O fd now low some = elim (came_by q g O) [
    | inl same ↦
        let lt : fd p < g = subst (λ (x : Prefix). fd x < g) same.0 low in
        let le = same.1 in
        inl (omega (arith, lt, le))
    | inr other ↦ inr (q, O.covered_is, other.0, other.1, other.2, some)
  ]

-- ---- how often it comes back

-- a packet for the address left a router
pub record Left (addr : ℕ) : Type 0 where
  pub prefix : Prefix
  pub distance : ℕ
  pub rows : Prefix → Option Entry
  pub to : Bool → ℕ
  pub by : Hop addr prefix distance rows to

-- by this hop
abbrev pub left_by : {addr : ℕ} {p : Prefix} {f : ℕ} {rows : Prefix → Option Entry} {to : Bool → ℕ} → Hop addr p f rows to → Left addr
left_by {addr} {p} {f} {rows} {to} H = record { prefix = p; distance = f; rows = rows; to = to; by = H }

-- it is at a router to which it came by a row of prefix q. published says whether the router that it left has published since; if not, something bars its way back
pub record Away (addr : ℕ) (bars : Left addr → Type 0) (q : Prefix) (g : ℕ) : Type 0 where
  pub left : Left addr
  pub on : IsOn addr left.prefix left.distance q g
  pub published : Bool
  pub barred : published ≡ false → bars left

-- it is at router i, or away from it
abbrev pub Where : (addr : ℕ) → (Left addr → Type 0) → ℕ → Prefix → ℕ → ℕ → Type 0
Where addr bars i q k g = (k ≡ i) ⊎ Away addr bars q g

-- how often it may come without a publication
abbrev pub spare : {addr : ℕ} {bars : Left addr → Type 0} {i : ℕ} {q : Prefix} {k g : ℕ} → Where addr bars i q k g → ℕ
spare (inl e) = 0
spare (inr A) = if A.published then 1 else 0

module _ {addr : ℕ} {p : Prefix} {f : ℕ} {rows : Prefix → Option Entry} {to : Bool → ℕ} (H : Hop addr p f rows to) (bars : ℕ → Left addr → Type 0) where
  abbrev pub leaves : (i : ℕ) → bars i (left_by H) → Away addr (bars i) p f
  leaves i starts = record { left = left_by H; on = first_on H; published = false; barred = λ e. starts }

  -- a hop from router k to router l: to router i only where that has published since
  pub hop_counts : (i : ℕ) (q : Prefix) (k g : ℕ) → (w : Where addr (bars i) i q k g) → (g < infinity → IsSome (rows q)) → (p ≡ q → f ≤ g) → (l : ℕ) → bars k (left_by H) → ((L : Left addr) → bars l L → IsOn addr L.prefix L.distance p f → ⊥)
      → (w' : Where addr (bars i) i p l f) × ((if i == l then suc (spare w') else spare w') ≤ spare w)
  hop_counts i q k g (inl e) known near l starts stops = by_test (i == l) refl
    where
      by_test : (x : Bool) → (i == l) ≡ x → (w' : Where addr (bars i) i p l f) × ((if x then suc (spare w') else spare w') ≤ 0)
      by_test true is = absurd (stops (left_by H) (subst (λ (x : ℕ). bars x (left_by H)) (e ∙ eqb-true i l is) starts) (first_on H))
      by_test false is = (inr (leaves i (subst (λ (x : ℕ). bars x (left_by H)) e starts)), omega arith)
  hop_counts i q k g (inr A) known near l starts stops = by_test (i == l) refl
    where
      on : IsOn addr (A.left).prefix (A.left).distance p f
      on = goes_on H (A.left).prefix (A.left).distance q g A.on known near

      -- at router i again
      back : i ≡ l → (x : Bool) → A.published ≡ x → 1 ≤ (if x then 1 else 0)
      back e true is = omega arith
      back e false is = absurd (stops A.left (subst (λ (x : ℕ). bars x A.left) e (A.barred is)) on)

      by_test : (x : Bool) → (i == l) ≡ x → (w' : Where addr (bars i) i p l f) × ((if x then suc (spare w') else spare w') ≤ (if A.published then 1 else 0))
      by_test true is = (inl (sym (eqb-true i l is)), back (eqb-true i l is) A.published refl)
      by_test false is = (inr (record { left = A.left; on = on; published = A.published; barred = A.barred }), omega arith)

-- anything else: router i publishes, or the way stays barred
pub wait_counts : {addr : ℕ} (bars bars' : Left addr → Type 0) (i : ℕ) (q : Prefix) (k g : ℕ) (b : Bool) → ((L : Left addr) → bars L → b ≡ false → bars' L) → (w : Where addr bars i q k g)
    → (w' : Where addr bars' i q k g) × (spare w' ≤ spare w + (if b then 1 else 0))
wait_counts {addr} bars bars' i q k g b stay (inl e) = (inl e, omega arith)
wait_counts {addr} bars bars' i q k g b stay (inr A) = (inr later, by_kind A.published b)
  where
    later : Away addr bars' q g
    later = record {
      left = A.left;
      on = A.on;
      published = A.published || b;
      barred = λ e. (let none = or_parts A.published b e in stay A.left (A.barred none.0) none.1);
    }

    by_kind : (c d : Bool) → (if c || d then 1 else 0) ≤ (if c then 1 else 0) + (if d then 1 else 0)
    by_kind true d = omega arith
    by_kind false d = omega arith

pub count_hop : (b : Bool) (visits publications s' s : ℕ) → visits ≤ publications + s' → (if b then suc s' else s') ≤ s → (if b then suc visits else visits) ≤ publications + s
count_hop true visits publications s' s few le = omega (arith, few, le)
count_hop false visits publications s' s few le = omega (arith, few, le)

-- one event more
pub count_wait : (b : Bool) (visits publications s' s : ℕ) → visits ≤ publications + s' → s' ≤ s + (if b then 1 else 0) → visits ≤ (if b then suc publications else publications) + s
count_wait true visits publications s' s few le = omega (arith, few, le)
count_wait false visits publications s' s few le = omega (arith, few, le)
