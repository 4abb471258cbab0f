-- A journal's sum tells its length.
use Rattle.std.proofs.Common.{refl, sym, ap, ◌∙◌, arith, ◌≡◌, ℕ, ◌+◌, ◌*◌, ◌/◌, ◌^◌, ◌<◌, ◌≤◌, List, [], ◌∷◌, length, ◌==◌, if◌then◌else◌}
use Rattle.std.specs.List.{AllByRecursion}
use Rattle.network_model.specs.declared.step.Step.{Step}
use Rattle.network_model.specs.declared.step.Step.TheVariants.{LinkUp, LinkDown, SetCost, Deliver, Publish, Release, Attach, Detach}
use Rattle.network_model.specs.Journal.{Code, IsCode, Fits, packed, step_code, step_number, journal_sum, steps_in_sum, most_steps}
use Rattle.std.proofs.{lemmas.List.Sums.sum_by-cons, lemmas.Nat.div-mul-add}

pub packed_below : (c : Code) → IsCode c → packed c < 2 ^ 84
packed_below c h = omega (arith, h.kind, h.subject, h.port, h.cost, h.addr, h.len)

-- two digits, each below its base, are told from their number
digits_8 : (a b c d : ℕ) → b < 2 ^ 8 → d < 2 ^ 8 → a * 2 ^ 8 + b ≡ c * 2 ^ 8 + d → (a ≡ c) × (b ≡ d)
digits_8 a b c d h k e = (omega (arith, h, k, e), omega (arith, h, k, e))

digits_16 : (a b c d : ℕ) → b < 2 ^ 16 → d < 2 ^ 16 → a * 2 ^ 16 + b ≡ c * 2 ^ 16 + d → (a ≡ c) × (b ≡ d)
digits_16 a b c d h k e = (omega (arith, h, k, e), omega (arith, h, k, e))

digits_32 : (a b c d : ℕ) → b < 2 ^ 32 → d < 2 ^ 32 → a * 2 ^ 32 + b ≡ c * 2 ^ 32 + d → (a ≡ c) × (b ≡ d)
digits_32 a b c d h k e = (omega (arith, h, k, e), omega (arith, h, k, e))

pub packed_injective : (c d : Code) → IsCode c → IsCode d → packed c ≡ packed d → c ≡ d
packed_injective c d h k e =
    let five : _ = digits_8 _ c.len _ d.len h.len k.len e in
    let four : _ = digits_32 _ c.addr _ d.addr h.addr k.addr five.0 in
    let three : _ = digits_16 _ c.cost _ d.cost h.cost k.cost four.0 in
    let two : _ = digits_8 _ c.port _ d.port h.port k.port three.0 in
    let one : _ = digits_16 c.kind c.subject d.kind d.subject h.subject k.subject two.0 in
    λ i. record { kind = one.0 i; subject = one.1 i; port = two.1 i; cost = three.1 i; addr = four.1 i; len = five.1 i }

abbrev step_of_code : Code → Step
step_of_code c =
    if c.kind == 0 then LinkUp c.subject
    else if c.kind == 1 then LinkDown c.subject
    else if c.kind == 2 then SetCost c.subject c.port c.cost
    else if c.kind == 3 then Deliver c.subject c.port
    else if c.kind == 4 then Publish c.subject
    else if c.kind == 5 then Release c.subject
    else if c.kind == 6 then Attach c.subject (record { addr = c.addr; len = c.len }) c.cost
    else Detach c.subject (record { addr = c.addr; len = c.len })

step_of_code-step_code : (s : Step) → step_of_code (step_code s) ≡ s
step_of_code-step_code (LinkUp l) = refl
step_of_code-step_code _ = refl

-- distinct steps have distinct numbers
pub step_number_injective : (s t : Step) → Fits s → Fits t → step_number s ≡ step_number t → s ≡ t
step_number_injective s t h k e =
    let same : packed (step_code s) ≡ packed (step_code t) = omega (arith, e) in
    sym (step_of_code-step_code s) ∙ ap step_of_code (packed_injective (step_code s) (step_code t) h k same) ∙ step_of_code-step_code t

-- the codes of these steps, added up
codes : List Step → ℕ
codes [] = 0
codes (s ∷ ss) = packed (step_code s) + codes ss

codes_below : (ss : List Step) → AllByRecursion Fits ss → codes ss ≤ length ss * 2 ^ 84
unfolding codes
codes_below [] all = omega arith
codes_below (s ∷ ss) all = omega (arith, packed_below (step_code s) all.0, codes_below ss all.1)

sum_is : (ss : List Step) → journal_sum ss ≡ length ss * 2 ^ 104 + codes ss
unfolding codes
sum_is [] = refl
sum_is (s ∷ ss) =
    let first : journal_sum (s ∷ ss) ≡ step_number s + journal_sum ss = sum_by-cons step_number s ss in
    omega (arith, first, sum_is ss)

-- a journal of at most a million steps has the length that its sum tells
pub journal_length : (ss : List Step) → AllByRecursion Fits ss → length ss ≤ most_steps → steps_in_sum (journal_sum ss) ≡ length ss
journal_length ss all short =
    let below : codes ss < 2 ^ 104 = omega (arith, codes_below ss all, short) in
    ap (λ n. n / 2 ^ 104) (sum_is ss) ∙ div-mul-add (length ss) (2 ^ 104) (codes ss) below
