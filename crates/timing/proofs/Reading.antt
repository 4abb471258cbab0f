-- Lines that are read to the last.
use Rattle.std.proofs.Common.{◌≡◌, ℕ, ◌≤◌, zero, suc, List, [], ◌∷◌, All, length, String, string_bytes, Bool, true, false, not, true≢false, refl, ap, subst, arith, take_all}
use Rattle.script.proofs.Common.{length-map, Text, texts, ReadsFirst, AllZip}

pub all_read : {X Z : Type 0} (Says : Text → X → Type 0) (lines : List (String Z)) (items : List X) (i : ℕ) → ReadsFirst Says (texts lines) items → length items ≡ i → length lines ≤ i
    → AllZip Says (texts lines) items
all_read Says lines items i reads count past =
    subst (λ ls. AllZip Says ls items) (take_all (length items) (texts lines) (omega (arith, count, past, length-map lines string_bytes))) reads

-- what holds of each item that a line says holds of all items
pub all_said : {X : Type 0} (Says : Text → X → Type 0) (P : X → Type 0) (lines : List Text) (items : List X) → ((line : Text) (x : X) → Says line x → P x) → AllZip Says lines items → All P items
all_said Says P [] [] each says i d within = absurd (omega (arith, within))
all_said Says P (line ∷ lines) (x ∷ xs) each says zero d within = each line x says.0
all_said Says P (line ∷ lines) (x ∷ xs) each says (suc i) d within = all_said Says P lines xs each says.1 i d (omega (arith, within))
all_said Says P _ _ each says i d within = absurd says

pub not_so : (b : Bool) → true ≡ not b → b ≡ false
not_so false is = refl
not_so true is = absurd (true≢false is)

-- as many are read as there are lines
pub zip_length : {X Y : Type 0} (R : X → Y → Type 0) (xs : List X) (ys : List Y) → AllZip R xs ys → length ys ≡ length xs
zip_length R [] [] all = refl
zip_length R (x ∷ xs) (y ∷ ys) all = ap suc (zip_length R xs ys all.1)
zip_length R _ _ all = absurd all
