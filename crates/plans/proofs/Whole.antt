-- A text that a limit does not cut.
use Rattle.std.proofs.Common.{◌≡◌, ℕ, ◌<◌, List, [], ◌∷◌, ◌++◌, length, take, zero, suc, Option, Some, None, IfSome, inl, option_map, refl, ap, ◌∙◌, arith, length-take}
use Rattle.faults.specs.declared.kind.FaultKind.{FaultKind}
use Rattle.plans.specs.Faults.{Gives, IsUnreadFrom}

-- what a limit does not reach is whole
take_short : (n : ℕ) (xs : List ℕ) → length (take n xs) < n → take n xs ≡ xs
take_short zero xs lt = absurd (omega (arith, lt))
take_short (suc n) [] lt = refl
take_short (suc n) (x ∷ xs) lt = ap (λ t. x ∷ t) (take_short n xs (omega (arith, lt)))

pub read_whole : (rem : Option (List ℕ)) (n : ℕ) (old bs text : List ℕ) → old ≡ [] → IfSome (option_map (take n) rem) (λ xs. bs ≡ old ++ xs) → length bs < n
    → text ≡ bs → IfSome rem (λ xs. text ≡ xs)
read_whole None n old bs text nothing h lt e = tt
read_whole (Some xs) n old bs text nothing h lt e =
    let is : bs ≡ take n xs = h ∙ ap (λ t. t ++ take n xs) nothing in
    e ∙ is ∙ take_short n xs (rw (← is) lt)

-- what holds of all bytes holds of those that a reader gives
pub any_bytes : (known : Option (List ℕ)) (P : List ℕ → Type 0) → ((xs : List ℕ) → P xs) → (bytes : List ℕ) × Gives known bytes × P bytes
any_bytes None P holds = ([], tt, holds [])
any_bytes (Some xs) P holds = (xs, refl, holds xs)

-- a reader that gives more than was wanted
pub read_longer : (rem : Option (List ℕ)) (n most : ℕ) (old bs : List ℕ) → old ≡ [] → IfSome (option_map (take n) rem) (λ xs. bs ≡ old ++ xs) → most < length bs
    → (bytes : List ℕ) × Gives rem bytes × IsUnreadFrom most bytes FaultKind.TooLarge
read_longer None n most old bs nothing h longer = (bs, tt, inl (refl, longer))
read_longer (Some xs) n most old bs nothing h longer =
    let is : bs ≡ take n xs = h ∙ ap (λ t. t ++ take n xs) nothing in
    let same : length bs ≡ length (take n xs) = ap length is in
    let more : most < length xs = omega (arith, longer, same, length-take n xs) in
    (xs, refl, inl (refl, more))
