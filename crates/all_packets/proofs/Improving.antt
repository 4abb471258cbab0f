-- Along a way of a packet matches get longer, or stay and feasible distances fall: so it meets no router twice. This is said
-- of any rows, whoever has them, and wherever they may lead: a row may lead to many routers.
use Rattle.std.proofs.Common.{refl, sym, ap, subst, ◌∙◌, inl, inr, arith, ◌<◌, ◌≤◌, ◌≡◌, ◌⊎◌, ℕ, Bool, true, false, ◌||◌, ◌==◌, nat_lt, List, [], ◌∷◌, length, Option, Some, None, option_and_then, eqb-true, ltb-true, ltb-false}
use Rattle.no_packet_loops.proofs.Common.{Prefix, prefix_cmp, covers, longest_match, Entry, is_met, meets_twice, None_not_Some, Some_injective, find as row_of, is_sorted, longest_match-found}
use Rattle.no_packet_loops.proofs.{Walks.match_is_row, Traces.AllBelow, Traces.few}
use Rattle.all_packets.specs.Packets.{IsWayBy}
use Rattle.all_packets.proofs.Matches.{Found, GoesBefore, found}

-- routers have rows, published and chosen, in the order of the prefixes; where a row may lead to a router, that one has rows of the
-- same prefix, at lesser feasible distances
pub record Improves (rows : Bool → ℕ → List (Prefix × Entry)) (Leads : Bool → Prefix → ℕ → ℕ → Type 0) (fd : Bool → Prefix → ℕ → ℕ) : Type 0 where
  pub in_order : (b : Bool) (i : ℕ) → is_sorted prefix_cmp (rows b i) ≡ true
  pub falls : (b c : Bool) (p : Prefix) (i k : ℕ) → Leads b p i k → fd c p k < fd b p i
  pub ahead : (b c : Bool) (p : Prefix) (i k : ℕ) → Leads b p i k → (e' : Entry) × (row_of prefix_cmp p (rows c k) ≡ Some e')

-- where one hop means another, so does a way by the one
pub way_by : (goes goes' : ℕ → ℕ → Type 0) → ((i k : ℕ) → goes i k → goes' i k) → (way : List ℕ) → IsWayBy goes way → IsWayBy goes' way
way_by goes goes' means (i ∷ k ∷ ks) h = (means i k h.0, way_by goes goes' means (k ∷ ks) h.1)
way_by goes goes' means _ h = tt

module _ (rows : Bool → ℕ → List (Prefix × Entry)) (Leads : Bool → Prefix → ℕ → ℕ → Type 0) (fd : Bool → Prefix → ℕ → ℕ) (I : Improves rows Leads fd) (addr : ℕ) where
  -- router k has rows of both kinds of a prefix that covers the address
  record Knows (q : Prefix) (k : ℕ) : Type 0 where
    covered : covers q addr ≡ true
    rows_are : (c : Bool) → (e : Entry) × (row_of prefix_cmp q (rows c k) ≡ Some e)

  -- a packet goes from router i to router k by a row of one kind: its prefix goes before each that the router has rows of both kinds of
  pub record GoesBy (b : Bool) (i k : ℕ) : Type 0 where
    pub prefix : Prefix
    pub covered : covers prefix addr ≡ true
    pub before : (q : Prefix) → covers q addr ≡ true → ((c : Bool) → (e : Entry) × (row_of prefix_cmp q (rows c i) ≡ Some e)) → GoesBefore prefix q
    pub leads_to : Leads b prefix i k

  -- by a row of either kind
  abbrev pub Goes : ℕ → ℕ → Type 0
  Goes i k = (b : Bool) × GoesBy b i k

  -- a packet goes from router i to router k, matched among all rows of one kind
  pub record Matched (b : Bool) (i k : ℕ) : Type 0 where
    pub prefix : Prefix
    pub entry : Entry
    pub matched : longest_match addr (rows b i) ≡ Some (prefix, entry)
    pub leads_to : Leads b prefix i k

  -- it goes so by the row that it matched
  went : (b : Bool) (i k : ℕ) → Matched b i k → GoesBy b i k
  went b i k M = record {
    prefix = M.prefix;
    covered = (longest_match-found addr (rows b i) (M.prefix, M.entry) M.matched).covered;
    before = λ q covered have. (
        let F = found addr q (have b).0 (rows b i) (I.in_order b i) (have b).1 covered in
        subst (λ (x : Prefix × Entry). GoesBefore x.0 q) (Some_injective (sym F.matched ∙ M.matched)) F.before);
    leads_to = M.leads_to;
  }

  -- a router to which it goes knows the prefix of the row
  knows : (b : Bool) (i k : ℕ) (W : GoesBy b i k) → Knows W.prefix k
  knows b i k W = record {
    covered = W.covered;
    rows_are = λ c. I.ahead b c W.prefix i k W.leads_to;
  }

  -- the match at a router that knows a prefix goes before it
  match_at : (c : Bool) (q : Prefix) (k : ℕ) → (K : Knows q k) → Found addr q (K.rows_are c).0 (rows c k)
  match_at c q k K = found addr q (K.rows_are c).0 (rows c k) (I.in_order c k) (K.rows_are c).1 K.covered

  -- where the packet went on, it is matched again, by a prefix that goes before
  pub next_match : (b c : Bool) (i k : ℕ) (M : Matched b i k) → (r : Prefix × Entry) × (longest_match addr (rows c k) ≡ Some r) × GoesBefore r.0 M.prefix
  unfolding went
  next_match b c i k M = let F = match_at c M.prefix k (knows b i k (went b i k M)) in (F.row, F.matched, F.before)

  -- its feasible distances for the prefix are below that of the row
  lower : (b c : Bool) (i k : ℕ) (W : GoesBy b i k) → fd c W.prefix k < fd b W.prefix i
  lower b c i k W = I.falls b c W.prefix i k W.leads_to

  -- beyond a prefix p and a distance: a prefix that is longer, or as long and before p, or p itself at router k with distances below
  Beyond : Prefix → ℕ → Prefix → ℕ → Type 0
  Beyond p f q k = (p.len < q.len) ⊎ ((p.len ≡ q.len) × ((q.addr < p.addr) ⊎ ((q.addr ≡ p.addr) × ((c : Bool) → fd c q k < f))))

  -- where the packet goes on, it stays beyond
  stays_beyond : (p : Prefix) (f : ℕ) (q : Prefix) (i k : ℕ) (b : Bool) (W : GoesBy b i k) → GoesBefore W.prefix q → Beyond p f q i → Beyond p f W.prefix k
  unfolding Beyond
  stays_beyond p f q i k b W (inl longer) (inl far) = inl (omega (arith, longer, far))
  stays_beyond p f q i k b W (inl longer) (inr (same, rest)) = inl (omega (arith, longer, same))
  stays_beyond p f q i k b W (inr (same, low)) (inl far) = inl (omega (arith, same, far))
  stays_beyond p f q i k b W (inr (same, low)) (inr (as_long, inl less)) = inr (as_long ∙ same, inl (omega (arith, low, less)))
  stays_beyond p f q i k b W (inr (same, low)) (inr (as_long, inr (one, below))) = by_addr (nat_lt (W.prefix).addr q.addr) refl
    where
      by_addr : (d : Bool) → nat_lt (W.prefix).addr q.addr ≡ d → Beyond p f W.prefix k
      by_addr true less = (let lt = ltb-true (W.prefix).addr q.addr less in inr (as_long ∙ same, inl (omega (arith, lt, one))))
      by_addr false least =
          let ge = ltb-false (W.prefix).addr q.addr least in
          let e : (W.prefix).addr ≡ q.addr = omega (arith, ge, low) in
          let prefix : q ≡ W.prefix = λ z. record { addr = sym e z; len = same z } in
          let here_below : fd b W.prefix i < f = subst (λ (x : Prefix). fd b x i < f) prefix (below b) in
          inr (as_long ∙ same, inr (e ∙ one, λ c. (let lt = lower b c i k W in omega (arith, lt, here_below))))

  -- where the packet was matched by p, among rows of that feasible distance, it does not come back beyond
  never_back : (b : Bool) (i k : ℕ) (W : GoesBy b i k) (q : Prefix) → Knows q i → Beyond W.prefix (fd b W.prefix i) q i → ⊥
  unfolding Beyond
  never_back b i k W q K B = by_before (W.before q K.covered K.rows_are) B
    where
      by_before : GoesBefore W.prefix q → Beyond W.prefix (fd b W.prefix i) q i → ⊥
      by_before (inl longer) (inl far) = omega (arith, longer, far)
      by_before (inl longer) (inr (same, rest)) = omega (arith, longer, same)
      by_before (inr (same, low)) (inl far) = omega (arith, same, far)
      by_before (inr (same, low)) (inr (as_long, inl less)) = omega (arith, low, less)
      by_before (inr (same, low)) (inr (as_long, inr (one, below))) =
          let prefix : q ≡ W.prefix = λ z. record { addr = one z; len = sym as_long z } in
          let lt : fd b W.prefix i < fd b W.prefix i = subst (λ (x : Prefix). fd b x i < fd b W.prefix i) prefix (below b) in
          omega (arith, lt)

  module _ (b : Bool) (i j : ℕ) (W : GoesBy b i j) where
    -- it is not at router i while it is beyond what matched it there
    apart : (q : Prefix) (k : ℕ) → Knows q k → Beyond W.prefix (fd b W.prefix i) q k → (i == k) ≡ false
    apart q k K B = by_test (i == k) refl
      where
        by_test : (c : Bool) → (i == k) ≡ c → (i == k) ≡ false
        by_test true is = absurd (never_back b i j W q (subst (Knows q) (sym (eqb-true i k is)) K) (subst (Beyond W.prefix (fd b W.prefix i) q) (sym (eqb-true i k is)) B))
        by_test false is = is

    -- a packet that left router i beyond what matched it there does not meet it again
    never_again : (q : Prefix) (k : ℕ) (ks : List ℕ) → Knows q k → Beyond W.prefix (fd b W.prefix i) q k → IsWayBy Goes (k ∷ ks) → is_met i (k ∷ ks) ≡ false
    never_again q k [] K B h = ap (λ c. c || false) (apart q k K B)
    never_again q k (l ∷ ls) K B h =
        let V = (h.0).1 in
        ap (λ c. c || is_met i (l ∷ ls)) (apart q k K B)
        ∙ never_again V.prefix l ls (knows (h.0).0 k l V) (stays_beyond W.prefix (fd b W.prefix i) q k l (h.0).0 V (V.before q K.covered K.rows_are) B) h.1

    -- at the first router that it goes to it is beyond
    first_beyond : Beyond W.prefix (fd b W.prefix i) W.prefix j
    unfolding Beyond
    first_beyond = inr (refl, inr (refl, λ c. lower b c i j W))

  -- no way meets a router twice
  pub none_twice : (way : List ℕ) → IsWayBy Goes way → meets_twice way ≡ false
  none_twice (i ∷ k ∷ ks) h =
      let W = (h.0).1 in
      ap (λ c. c || meets_twice (k ∷ ks)) (never_again (h.0).0 i k W W.prefix k ks (knows (h.0).0 i k W) (first_beyond (h.0).0 i k W) h.1) ∙ none_twice (k ∷ ks) h.1
  none_twice _ h = refl

  -- nor does one of a packet that is matched among all rows of either kind
  pub matched_once : (way : List ℕ) → IsWayBy (λ i k. (b : Bool) × Matched b i k) way → meets_twice way ≡ false
  matched_once way h = none_twice way (way_by (λ i k. (b : Bool) × Matched b i k) Goes (λ i k m. (m.0, went m.0 i k m.1)) way h)

  -- where each router that has a row is one of so many, no such way has more routers than that
  module _ (count : ℕ) (there : (c : Bool) (p : Prefix) (k : ℕ) (e : Entry) → row_of prefix_cmp p (rows c k) ≡ Some e → k < count) where
    all_known : (i : ℕ) (ks : List ℕ) → i < count → IsWayBy (λ i k. (b : Bool) × Matched b i k) (i ∷ ks) → AllBelow count (i ∷ ks)
    all_known i [] lt h = (lt, tt)
    all_known i (k ∷ ks) lt h =
        let M = (h.0).1 in
        let H = I.ahead (h.0).0 true M.prefix i k M.leads_to in
        (lt, all_known k ks (there true M.prefix k H.0 H.1) h.1)

    pub matched_few : (i : ℕ) (ks : List ℕ) → i < count → IsWayBy (λ i k. (b : Bool) × Matched b i k) (i ∷ ks) → length (i ∷ ks) ≤ count
    matched_few i ks lt h = few count (i ∷ ks) (all_known i ks lt h) (matched_once (i ∷ ks) h)

-- ---- rows that lead by their entries

-- the row of the prefix leads to a router by its entry
abbrev pub LeadsBy : (Bool → ℕ → List (Prefix × Entry)) → (ℕ → Entry → Option ℕ) → Bool → Prefix → ℕ → ℕ → Type 0
LeadsBy rows leads b p i k = (e : Entry) × (row_of prefix_cmp p (rows b i) ≡ Some e) × (leads i e ≡ Some k)

module _ (rows : Bool → ℕ → List (Prefix × Entry)) (leads : ℕ → Entry → Option ℕ) (fd : Bool → Prefix → ℕ → ℕ) (I : Improves rows (LeadsBy rows leads) fd) (addr : ℕ) where
  -- a packet goes from router i to router k by the entry of the row that matches it longest, among all rows of either kind
  abbrev pub Hops : ℕ → ℕ → Type 0
  Hops i k = (b : Bool) × (option_and_then (λ (r : Prefix × Entry). leads i r.1) (longest_match addr (rows b i)) ≡ Some k)

  -- it is matched so
  pub hop_match : (b : Bool) (i k : ℕ) → option_and_then (λ (r : Prefix × Entry). leads i r.1) (longest_match addr (rows b i)) ≡ Some k → Matched rows (LeadsBy rows leads) fd I addr b i k
  hop_match b i k h = by_match (longest_match addr (rows b i)) refl h
    where
      by_match : (o : Option (Prefix × Entry)) → longest_match addr (rows b i) ≡ o → option_and_then (λ (r : Prefix × Entry). leads i r.1) o ≡ Some k → Matched rows (LeadsBy rows leads) fd I addr b i k
      by_match None m g = absurd (None_not_Some g)
      by_match (Some r) m g = record { prefix = r.0; entry = r.1; matched = m; leads_to = (r.1, match_is_row addr r.0 r.1 (rows b i) (I.in_order b i) m, g) }

  matches : (way : List ℕ) → IsWayBy Hops way → IsWayBy (λ i k. (b : Bool) × Matched rows (LeadsBy rows leads) fd I addr b i k) way
  matches = way_by Hops (λ i k. (b : Bool) × Matched rows (LeadsBy rows leads) fd I addr b i k) (λ i k m. (m.0, hop_match m.0 i k m.1))

  -- so it meets no router twice
  pub hops_once : (way : List ℕ) → IsWayBy Hops way → meets_twice way ≡ false
  hops_once way h = matched_once rows (LeadsBy rows leads) fd I addr way (matches way h)

  -- nor more than there are
  pub hops_few : (count : ℕ) → ((c : Bool) (p : Prefix) (k : ℕ) (e : Entry) → row_of prefix_cmp p (rows c k) ≡ Some e → k < count) → (i : ℕ) (ks : List ℕ) → i < count → IsWayBy Hops (i ∷ ks) → length (i ∷ ks) ≤ count
  hops_few count there i ks lt h = matched_few rows (LeadsBy rows leads) fd I addr count there i ks lt (matches (i ∷ ks) h)
