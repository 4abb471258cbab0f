-- `longest_match` gives a longest match, none only where no row covers, and where the rows have distinct prefixes it gives the only one.
use Rattle.std.proofs.Common.{refl, sym, ap, subst, ◌∙◌, arith, inl, inr, eqb-true, ◌≡◌, ◌⊎◌, ℕ, zero, suc, ◌-◌, ◌/◌, ◌%◌, ◌^◌, ◌<◌, ◌≤◌, Bool, true, false, cond, nat_lt, List, [], ◌∷◌, length, Option, Some, None, Contains}
use Rattle.std.specs.List.{slice_index_or}
use Rattle.std.proofs.{Math.Nat.div-add-mod, lemmas.Option.same_Some, lemmas.Option.none-some, lemmas.List.Elements.All-contains, lemmas.List.Elements.at_from_Contains}
use Rattle.std.proofs.lemmas.Bool.{true≢false, ltb-true, ltb-false, cases_order}
use Rattle.ipv4_prefix.specs.Prefix.{Prefix, IsPrefix, covers}
use Rattle.ipv4_prefix.specs.LongestMatch.{longer_row, longest_match, IsLongestMatch, HasDistinctPrefixes, HasWritablePrefixes}

-- a number is known by its quotient and its remainder
same_by_parts : (a b m : ℕ) → a / m ≡ b / m → a % m ≡ b % m → a ≡ b
same_by_parts a b m quotient remainder = sym (div-add-mod a m) ∙ rw (quotient, remainder) (div-add-mod b m)

-- of the prefixes of one length, one covers the address at most
pub covering_same : (addr : ℕ) (p q : Prefix) → IsPrefix p → IsPrefix q → covers p addr ≡ true → covers q addr ≡ true → p.len ≡ q.len → p ≡ q
covering_same addr p q valid_p valid_q covers_p covers_q same =
    let bits_p : p.addr / 2 ^ (32 - p.len) ≡ addr / 2 ^ (32 - p.len) = eqb-true _ _ covers_p in
    let bits_q : q.addr / 2 ^ (32 - p.len) ≡ addr / 2 ^ (32 - p.len) = rw same (eqb-true _ _ covers_q) in
    let none_q : q.addr % 2 ^ (32 - p.len) ≡ 0 = rw same valid_q.no_host_bits in
    let addrs = same_by_parts p.addr q.addr (2 ^ (32 - p.len)) (bits_p ∙ sym bits_q) (valid_p.no_host_bits ∙ sym none_q) in
    λ i. record { addr = addrs i; len = same i }

-- the first row is a row
pub Contains-first : {X : Type 0} (x : X) (xs : List X) → Contains (x ∷ xs) x
Contains-first x xs = (0, omega arith, refl)

-- a later row is a row
pub Contains-later : {X : Type 0} (y : X) (xs : List X) (x : X) → Contains xs x → Contains (y ∷ xs) x
Contains-later y xs x h = (suc h.0, omega (arith, h.1), h.2)

-- a row is the first or a later one
pub Contains-cases : {X : Type 0} (y : X) (xs : List X) (x : X) → Contains (y ∷ xs) x → (y ≡ x) ⊎ Contains xs x
Contains-cases y xs x h = by_place h.0 h.1 h.2
  where
    by_place : (k : ℕ) → k < suc (length xs) → slice_index_or (y ∷ xs) k x ≡ x → (y ≡ x) ⊎ Contains xs x
    by_place zero within is = inl is
    by_place (suc k) within is = inr (k, omega (arith, within), is)

module _ {X : Type 0} (addr : ℕ) where
  -- where there is no match, no row covers the address
  pub longest_match-none : (rows : List (Prefix × X)) → longest_match addr rows ≡ None → (r : Prefix × X) → Contains rows r → covers r.0 addr ≡ false
  longest_match-none [] is r h = absurd (omega (arith, h.1))
  longest_match-none (s ∷ rows) is r h = by_test (covers s.0 addr) refl (longest_match addr rows) refl is (λ none. longest_match-none rows none r)
    where
      by_row : (s ≡ r) ⊎ Contains rows r → covers s.0 addr ≡ false → (Contains rows r → covers r.0 addr ≡ false) → covers r.0 addr ≡ false
      by_row (inl e) fails rest = ap (λ (x : Prefix × X). covers x.0 addr) (sym e) ∙ fails
      by_row (inr k) fails rest = rest k

      by_test : (b : Bool) → covers s.0 addr ≡ b → (o : Option (Prefix × X)) → longest_match addr rows ≡ o → cond b (longer_row s o) o ≡ None → (longest_match addr rows ≡ None → Contains rows r → covers r.0 addr ≡ false) → covers r.0 addr ≡ false
      by_test true covered None none e rest = absurd (none-some s (sym e))
      by_test true covered (Some t) some e rest = absurd (longer_some (nat_lt (s.0).len (t.0).len) t e)
        where
          longer_some : (b : Bool) (t : Prefix × X) → cond b (Some t) (Some s) ≡ None → ⊥
          longer_some true t e = none-some t (sym e)
          longer_some false t e = none-some s (sym e)
      by_test false fails o is e rest = by_row (Contains-cases s rows r h) fails (rest (is ∙ e))

  pub longest_match-found : (rows : List (Prefix × X)) (found : Prefix × X) → longest_match addr rows ≡ Some found → IsLongestMatch addr rows found
  longest_match-found [] found is = absurd (none-some found is)
  longest_match-found (s ∷ rows) found is = by_test (covers s.0 addr) refl (longest_match addr rows) refl is (longest_match-found rows)
    where
      later : IsLongestMatch addr rows found → (covers s.0 addr ≡ true → (s.0).len ≤ (found.0).len) → IsLongestMatch addr (s ∷ rows) found
      later m below = record {
        is_row = Contains-later s rows found m.is_row;
        covered = m.covered;
        longest = λ r h c. by_row r (Contains-cases s rows r h) c;
      }
        where
          by_row : (r : Prefix × X) → (s ≡ r) ⊎ Contains rows r → covers r.0 addr ≡ true → (r.0).len ≤ (found.0).len
          by_row r (inl e) c = subst (λ (x : Prefix × X). (x.0).len ≤ (found.0).len) e (below (ap (λ (x : Prefix × X). covers x.0 addr) e ∙ c))
          by_row r (inr k) c = m.longest r k c

      first : s ≡ found → covers s.0 addr ≡ true → ((r : Prefix × X) → Contains rows r → covers r.0 addr ≡ true → (r.0).len ≤ (s.0).len) → IsLongestMatch addr (s ∷ rows) found
      first e covered above = subst (λ (x : Prefix × X). IsLongestMatch addr (s ∷ rows) x) e (record {
        is_row = Contains-first s rows;
        covered = covered;
        longest = λ r h c. by_row r (Contains-cases s rows r h) c;
      })
        where
          by_row : (r : Prefix × X) → (s ≡ r) ⊎ Contains rows r → covers r.0 addr ≡ true → (r.0).len ≤ (s.0).len
          by_row r (inl e) c = omega (arith, ap (λ (x : Prefix × X). (x.0).len) e)
          by_row r (inr k) c = above r k c

      by_test : (b : Bool) → covers s.0 addr ≡ b → (o : Option (Prefix × X)) → longest_match addr rows ≡ o → cond b (longer_row s o) o ≡ Some found
          → ((f : Prefix × X) → longest_match addr rows ≡ Some f → IsLongestMatch addr rows f) → IsLongestMatch addr (s ∷ rows) found
      by_test false fails o is e onward = later (onward found (is ∙ e)) (λ c. absurd (true≢false (sym c ∙ fails)))
      by_test true covered None none e onward = first (same_Some _ _ e) covered (λ r h c. absurd (true≢false (sym c ∙ longest_match-none rows none r h)))
      by_test true covered (Some t) some e onward = by_length (nat_lt (s.0).len (t.0).len) refl e
        where
          by_length : (b : Bool) → nat_lt (s.0).len (t.0).len ≡ b → cond b (Some t) (Some s) ≡ Some found → IsLongestMatch addr (s ∷ rows) found
          by_length true less same = later (onward found (some ∙ same)) (λ c. omega (arith, ltb-true _ _ less, ap (λ (x : Prefix × X). (x.0).len) (same_Some _ _ same)))
          by_length false least same = first (same_Some _ _ same) covered (λ r h c. omega (arith, ltb-false _ _ least, (onward t some).longest r h c))

  -- where some row covers the address, there is a match
  pub longest_match-covered : (rows : List (Prefix × X)) (r : Prefix × X) → Contains rows r → covers r.0 addr ≡ true → (found : Prefix × X) × (longest_match addr rows ≡ Some found)
  longest_match-covered rows r is_row covered = by_match (longest_match addr rows) refl
    where
      by_match : (o : Option (Prefix × X)) → longest_match addr rows ≡ o → (found : Prefix × X) × (longest_match addr rows ≡ Some found)
      by_match None none = absurd (true≢false (sym covered ∙ longest_match-none rows none r is_row))
      by_match (Some found) some = (found, some)

pub same_row : {X : Type 0} (rows : List (Prefix × X)) (r s : Prefix × X) → HasDistinctPrefixes rows → Contains rows r → Contains rows s → r.0 ≡ s.0 → r ≡ s
same_row rows r s distinct is_row is_other same =
    let (i, i_within, at_i) = at_from_Contains rows r is_row in
    let (j, j_within, at_j) = at_from_Contains rows s is_other in
    elim (cases_order i j) [
      | inl equal ↦ sym (at_i r) ∙ rw equal (at_j r)
      | inr (inl below) ↦ absurd (distinct i j r below j_within (rw (at_i r, at_j r) same))
      | inr (inr above) ↦ absurd (distinct j i r above i_within (rw (at_i r, at_j r) (sym same)))
    ]

module _ {X : Type 0} (addr : ℕ) (rows : List (Prefix × X)) (writable : HasWritablePrefixes rows) (distinct : HasDistinctPrefixes rows) where
  pub IsLongestMatch_unique : (r s : Prefix × X) → IsLongestMatch addr rows r → IsLongestMatch addr rows s → r ≡ s
  IsLongestMatch_unique r s h k =
      let below = h.longest s k.is_row k.covered in
      let above = k.longest r h.is_row h.covered in
      let same : (r.0).len ≡ (s.0).len = omega arith in
      let prefixes = covering_same addr r.0 s.0 (All-contains (λ x. IsPrefix x.0) rows r writable h.is_row) (All-contains (λ x. IsPrefix x.0) rows s writable k.is_row) h.covered k.covered same in
      same_row rows r s distinct h.is_row k.is_row prefixes

  -- the longest match is what is found
  pub longest_match-longest : (r : Prefix × X) → IsLongestMatch addr rows r → longest_match addr rows ≡ Some r
  longest_match-longest r h =
      let (found, is) = longest_match-covered addr rows r h.is_row h.covered in
      is ∙ ap Some (IsLongestMatch_unique found r (longest_match-found addr rows found is) h)
