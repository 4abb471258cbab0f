-- Each number has one decimal text without a sign or a leading zero, and `parse` reads just that text so.
use Rattle.std.proofs.Common.{◌≡◌, ℕ, ◌^◌, ◌<◌, List, length, decimal, Result, Ok, Err, Some, IfSome, refl, sym, ap, subst, ◌∙◌, arith, inl, inr}
use Rattle.std.specs.{Str.Parse.ParsesUnsigned, Str.Parse.digits_value, Str.Parse.AllDigits, Result.OkIff, Result.result_ok}
use Rattle.std.proofs.lemmas.Bool.{cases_lt}
use Rattle.std.proofs.lemmas.Fmt.{decimal_is_IsNumeral, decimal_digit, first_decimal, decimal-digits_value, decimal_injective, parse-decimal}
use Rattle.std.proofs.lemmas.Str.Parse.{numerals_by_value, tells_digits, digit_at, parse_plain}
use Rattle.texts.specs.Number.{Spells, SpellsLong, HasCanonicalStart}

-- a text spells one number
pub Spells_unique : (text : List ℕ) (m n : ℕ) → Spells text m → Spells text n → m ≡ n
Spells_unique text m n h k = decimal_injective m n (omega (arith, h.0)) (omega (arith, k.0)) (sym h.1 ∙ k.1)

-- the first byte of a decimal text is a digit, and it is zero only for the number zero
pub HasCanonicalStart-decimal : (n : ℕ) → n < 2 ^ 64 → HasCanonicalStart (decimal n)
HasCanonicalStart-decimal n small =
    let numeral = decimal_is_IsNumeral n small in
    let first = digit_at (decimal n) 0 numeral.0.1 numeral.0.0 in (
      omega (arith, first),
      λ zero_first. elim (cases_lt n 1) [
        | inl none ↦ ap length (decimal_digit n (omega arith))
        | inr some ↦ absurd (omega (arith, first_decimal n some small))
      ],
    )

module _ {E : Type 0} (text : List ℕ) (r : Result ℕ E) (parsed : ParsesUnsigned 32 10 text r) where
  -- what is read is spelled
  pub parsed_spells : (n : ℕ) → r ≡ Ok n → HasCanonicalStart text → Spells text n
  parsed_spells n is start =
      let own = numerals_by_value _ tells_digits in
      let plain = parse_plain own 32 text r parsed start.0 in
      let read = subst (λ q. OkIff q (AllDigits 10 text × (0 < length text) × (digits_value 10 text < 2 ^ 32)) (digits_value 10 text)) is plain in
      (rw read.1 read.0.2, sym (ap decimal read.1 ∙ decimal-digits_value own text read.0.0 read.0.1 start.1 (omega (arith, read.0.2))))

  -- what is spelled is read
  pub spelled_parses : (n : ℕ) → Spells text n → r ≡ Ok n
  spelled_parses n spells = parse-decimal 32 n text r spells.0 (omega (arith, spells.0)) spells.1 parsed

-- `parse().ok()` of a text that starts as a number does
pub some_spelled : {E : Type 0} (text : List ℕ) (r : Result ℕ E) → ParsesUnsigned 32 10 text r → HasCanonicalStart text → IfSome (result_ok r) (Spells text)
some_spelled {E} text (Ok n) parsed start = parsed_spells {E = E} text (Ok n) parsed n refl start
some_spelled {E} text (Err e) parsed start = tt

pub spelled_some : {E : Type 0} (text : List ℕ) (r : Result ℕ E) → ParsesUnsigned 32 10 text r → (n : ℕ) → Spells text n → result_ok r ≡ Some n
spelled_some text r parsed n spells = ap result_ok (spelled_parses text r parsed n spells)

-- a text that starts otherwise spells nothing
pub HasCanonicalStart-spelled : (text : List ℕ) (n : ℕ) → Spells text n → HasCanonicalStart text
HasCanonicalStart-spelled text n spells = rw spells.1 (HasCanonicalStart-decimal n (omega (arith, spells.0)))

module _ {E : Type 0} (text : List ℕ) (r : Result ℕ E) (parsed : ParsesUnsigned 64 10 text r) where
  -- what is read of 64 bits is spelled
  long_spells : (n : ℕ) → r ≡ Ok n → HasCanonicalStart text → SpellsLong text n
  long_spells n is start =
      let own = numerals_by_value _ tells_digits in
      let plain = parse_plain own 64 text r parsed start.0 in
      let read = subst (λ q. OkIff q (AllDigits 10 text × (0 < length text) × (digits_value 10 text < 2 ^ 64)) (digits_value 10 text)) is plain in
      (rw read.1 read.0.2, sym (ap decimal read.1 ∙ decimal-digits_value own text read.0.0 read.0.1 start.1 (omega (arith, read.0.2))))

pub some_long : {E : Type 0} (text : List ℕ) (r : Result ℕ E) → ParsesUnsigned 64 10 text r → HasCanonicalStart text → IfSome (result_ok r) (SpellsLong text)
some_long {E} text (Ok n) parsed start = long_spells {E = E} text (Ok n) parsed n refl start
some_long {E} text (Err e) parsed start = tt
