-- Tables that are given by the entry of each prefix, as lists of rows.
use Rattle.std.specs.Prelude.{ℕ, zero, suc, ◌/◌, ◌%◌, ◌-◌, ◌^◌, Bool, cond, ◌&&◌, ◌==◌, nat_lt, nat_le, List, [], Option, Some, None}
use Rattle.std.specs.FinMap.{put}
use Rattle.ipv4_prefix.specs.Prefix.{Prefix, prefix_cmp}

-- whether the prefix can be written
abbrev pub is_writable : Prefix → Bool
is_writable p = nat_le p.len 32 && nat_lt p.addr (2 ^ 32) && (p.addr % 2 ^ (32 - p.len) == 0)

-- the k-th of all pairs of an address and a length below 64
abbrev pub numbered : ℕ → Prefix
numbered k = record { addr = k / 64; len = k % 64 }

module _ {X : Type 0} where
  -- rows with one more, where there is an entry and its prefix can be written
  abbrev pub with_entry : Prefix → Option X → List (Prefix × X) → List (Prefix × X)
  with_entry p None rows = rows
  with_entry p (Some x) rows = cond (is_writable p) (put prefix_cmp p x rows) rows

  -- the rows of the first n prefixes, in order
  unfoldable pub rows_below : (Prefix → Option X) → ℕ → List (Prefix × X)
  rows_below entry zero = []
  rows_below entry (suc k) = with_entry (numbered k) (entry (numbered k)) (rows_below entry k)

  -- the rows of a table: every prefix that can be written and has an entry, in order
  unfoldable pub table_rows : (Prefix → Option X) → List (Prefix × X)
  table_rows entry = rows_below entry (2 ^ 38)
