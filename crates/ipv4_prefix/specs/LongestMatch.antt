-- The longest match of an address in a list of rows (RFC 1812, section 5.2.4.3; RFC 4632, section 5.1).
use Rattle.std.specs.Prelude.{◌≡◌, ◌≢◌, ℕ, ◌<◌, ◌≤◌, true, nat_lt, if◌then◌else◌, List, [], ◌∷◌, Option, Some, None, Contains, All, AllPairs}
use Rattle.ipv4_prefix.specs.Prefix.{Prefix, IsPrefix, covers}

-- a row, or the other one where that has a longer prefix
abbrev pub longer_row : {X : Type 0} → Prefix × X → Option (Prefix × X) → Option (Prefix × X)
longer_row r None = Some r
longer_row r (Some s) = if nat_lt (r.0).len (s.0).len then Some s else Some r

-- of the rows that cover the address, the one with the longest prefix; none where no row covers it
abbrev pub longest_match : {X : Type 0} → ℕ → List (Prefix × X) → Option (Prefix × X)
longest_match addr [] = None
longest_match addr (r ∷ rs) = if covers r.0 addr then longer_row r (longest_match addr rs) else longest_match addr rs

-- what a longest match is: it is a row, it covers the address, and no row that covers the address has a longer prefix
pub record IsLongestMatch {X : Type 0} (addr : ℕ) (rows : List (Prefix × X)) (found : Prefix × X) : Type 0 where
  pub is_row : Contains rows found
  pub covered : covers found.0 addr ≡ true
  pub longest : (r : Prefix × X) → Contains rows r → covers r.0 addr ≡ true → (r.0).len ≤ (found.0).len

-- no two rows have one prefix
abbrev pub HasDistinctPrefixes : {X : Type 0} → List (Prefix × X) → Type 0
HasDistinctPrefixes rows = AllPairs (λ r s. r.0 ≢ s.0) rows

-- each row has a prefix that can be written
abbrev pub HasWritablePrefixes : {X : Type 0} → List (Prefix × X) → Type 0
HasWritablePrefixes rows = All (λ r. IsPrefix r.0) rows

-- a longest match in a table that is given by the entry of each prefix: it has an entry, it covers the address, and no prefix that covers the address and has an entry is longer; none only where none that covers it has an entry
abbrev pub IsLongestIn : {X : Type 0} → (Prefix → Option X) → ℕ → Option (Prefix × X) → Type 0
IsLongestIn entry addr None = (p : Prefix) → IsPrefix p → covers p addr ≡ true → entry p ≡ None
IsLongestIn entry addr (Some found) =
    IsPrefix found.0 × (covers found.0 addr ≡ true) × (entry found.0 ≡ Some found.1)
    × ((p : Prefix) → IsPrefix p → covers p addr ≡ true → (found.0).len < p.len → entry p ≡ None)
