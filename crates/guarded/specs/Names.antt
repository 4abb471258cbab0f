-- The name of a control.
use Rattle.std.specs.Prelude.{◌≡◌, ℕ}
use Rattle.guarded.specs.declared.share.Opening.{Opening}

-- the names of an opening's three ledgers
abbrev pub high_name : Opening → ℕ
high_name o = (o.high).name

-- the name of the book of the low halves
abbrev pub low_name : Opening → ℕ
low_name o = (o.low).name

-- the name of the book of the writers that are out
abbrev pub out_name : Opening → ℕ
out_name o = (o.out).name

-- an opening of so many shares has this name
abbrev pub IsNamed : Opening → ℕ → ℕ → ℕ → ℕ → Type 0
IsNamed o high low out shares = (high_name o ≡ high) × (low_name o ≡ low) × (out_name o ≡ out) × (o.shares ≡ shares)
