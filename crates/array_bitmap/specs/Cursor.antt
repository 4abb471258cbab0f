-- The rows of a table in the order of their prefixes, from a prefix on.
use Rattle.std.specs.Prelude.{ℕ, ◌≡◌, ◌+◌, ◌-◌, ◌*◌, ◌%◌, ◌<◌, ◌≤◌, ◌^◌, Bool, not, true, false, List, [], ◌∷◌, Option, Some, None, slice_get}
use Rattle.std.specs.{Int.bit_at, List.filter, Ordering.is_lt}
use Rattle.ipv4_prefix.specs.Prefix.{Prefix, IsPrefix, prefix_cmp}
use Rattle.network_model.specs.declared.route.Entry.{Entry}
use Rattle.array_bitmap.specs.{Bits.depth_of, Bits.row_bit, Bits.width, declared.blocks.Head.Head, declared.cursor.Spot.Spot, declared.cursor.Found.Found, declared.cursor.Found.TheVariants.Row, declared.cursor.Found.TheVariants.NoneBefore, declared.cursor.Found.TheVariants.NoMore}

-- whether a prefix comes before another: by address, then by length
abbrev pub is_before : Prefix → Prefix → Bool
is_before p q = is_lt (prefix_cmp p q)

-- the next prefix that can be written: it comes after p, and none that can be written comes between; none only where p is the last
abbrev pub IsNextPrefix : Prefix → Option Prefix → Type 0
IsNextPrefix p None = (r : Prefix) → IsPrefix r → is_before p r ≡ false
IsNextPrefix p (Some q) = IsPrefix q × (is_before p q ≡ true) × ((r : Prefix) → IsPrefix r → is_before p r ≡ true → is_before r q ≡ false)

module _ {X : Type 0} where
  -- the rows at a prefix and after it
  abbrev pub rows_from : Prefix → List (Prefix × X) → List (Prefix × X)
  rows_from at rows = filter (λ row. not (is_before row.0 at)) rows

  -- the first of them, if there is one
  abbrev pub first_row_from : Prefix → List (Prefix × X) → Option (Prefix × X)
  first_row_from at rows = slice_get (rows_from at rows) 0

  -- the rows at a prefix and after it; no rows where there is no prefix
  abbrev pub rows_onward : Option Prefix → List (Prefix × X) → List (Prefix × X)
  rows_onward None rows = []
  rows_onward (Some at) rows = rows_from at rows

  -- a first row goes before the rows from the next prefix on: with it they are all from the prefix on
  abbrev pub IsHeadFrom : Prefix → List (Prefix × X) → Prefix × X → Type 0
  IsHeadFrom at rows row = (next : Option Prefix) → IsNextPrefix row.0 next → rows_from at rows ≡ row ∷ rows_onward next rows

-- the first prefix that can be written at an address: the shortest there; none only past the last address
abbrev pub IsFirstAt : ℕ → Option Prefix → Type 0
IsFirstAt addr None = 2 ^ 32 ≤ addr
IsFirstAt addr (Some q) = IsPrefix q × (q.addr ≡ addr) × ((r : Prefix) → IsPrefix r → r.addr ≡ addr → q.len ≤ r.len)

-- that no prefix before the next one has an entry; where there is no next one, that none from there on has one
abbrev pub none_until : Option Prefix → Found
none_until None = NoMore
none_until (Some next) = NoneBefore next

-- what was found at a prefix: its entry; or that no prefix from it on and before a later one has an entry; or that none from it on has one
abbrev pub IsFoundAt : (Prefix → Option Entry) → Prefix → Found → Type 0
IsFoundAt entry at (Row found) = entry at ≡ Some found
IsFoundAt entry at (NoneBefore q) = IsPrefix q × (is_before at q ≡ true) × ((r : Prefix) → IsPrefix r → is_before r at ≡ false → is_before r q ≡ true → entry r ≡ None)
IsFoundAt entry at NoMore = (r : Prefix) → IsPrefix r → is_before r at ≡ false → entry r ≡ None

-- the number of a place in a block: places are in the order of prefixes, by the five bits and then by the length
abbrev pub spot_number : ℕ → ℕ → ℕ
spot_number five more = five * 8 + more

-- a place comes after that of the prefix of `more + 1` further bits which begin at `five`; no prefix between has a row in the block, and at none of the fives between there is a kid
pub record IsNextSpot (head : Head) (level five more : ℕ) (spot : Spot) : Type 0 where
  pub within : spot.five ≤ 32
  pub few : spot.more ≤ 5
  pub after : spot_number five more < spot_number spot.five spot.more
  pub short : depth_of level + (spot.more + 1) ≤ 32
  pub start : spot.five % 2 ^ (4 - spot.more) ≡ 0
  pub no_row : (v m : ℕ) → m < width level → v % 2 ^ (4 - m) ≡ 0 → spot_number five more < spot_number v m → spot_number v m < spot_number spot.five spot.more → bit_at head.rows (row_bit v m) ≡ 0
  pub no_kid : level < 5 → (v : ℕ) → five ≤ v → v < spot.five → bit_at head.kids v ≡ 0
