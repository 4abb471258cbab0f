-- Where the row of a prefix stands in a list of rows in the order of their prefixes.
use Rattle.std.specs.Prelude.{◌≡◌, ℕ, ◌<◌, ◌≤◌, List, Result, Ok, Err, length, not}
use Rattle.std.specs.{declared.cmp.Ordering.TheVariants.Less, declared.cmp.Ordering.TheVariants.Greater, List.AllWithin, List.HoldsAt, List.filter}
use Rattle.ipv4_prefix.specs.Prefix.{Prefix, prefix_cmp, prefix_eq}

-- the row of the prefix stands here; or no row has it, and a new one would go between the rows below and those above
abbrev pub IsPlace : {X : Type 0} → Prefix → List (Prefix × X) → Result ℕ ℕ → Type 0
IsPlace p rows (Ok i) = (i < length rows) × HoldsAt (λ r. r.0 ≡ p) rows i
IsPlace p rows (Err i) =
    (i ≤ length rows)
    × AllWithin (λ r. prefix_cmp r.0 p ≡ Less) rows 0 i
    × AllWithin (λ r. prefix_cmp r.0 p ≡ Greater) rows i (length rows)

-- the rows without that of a prefix
abbrev pub without : {X : Type 0} → Prefix → List (Prefix × X) → List (Prefix × X)
without p rows = filter (λ r. not (prefix_eq p r.0)) rows
