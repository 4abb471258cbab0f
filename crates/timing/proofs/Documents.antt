-- What a document's table says of times.
use Rattle.std.proofs.Common.{◌≡◌, ◌<◌, ℕ, ℤ, List, [], Option, Some, None, option_and_then, refl, ap, codes, ne_eqb, eq-eqb, arith, Result, Ok, Err, pos, negsuc, nat_abs, SFits}
use Rattle.std.specs.{Int.w64, Int.FitsUnsignedBits, Option.option_map_or, Result.OkIff, Result.result_ok}
use lib.Signed.{mag}
use Rattle.toml.specs.Data.{Data, integer, as_integer, Members}
use Rattle.texts.specs.Words.{Text}
use Rattle.plans.specs.Document.{array_texts, key_count}
use Rattle.timing.specs.Document.{delay_at, delay_of, natural, known_keys, list_at, times_in}

pub read_all : (doc : Option Members) (t : Members) (l r c : List Text) (link router : ℕ) → doc ≡ Some t → key_count t ≡ known_keys t
    → list_at (codes "links") t ≡ Some l → list_at (codes "routers") t ≡ Some r → list_at (codes "changes") t ≡ Some c
    → delay_at (codes "link") t ≡ Some link → delay_at (codes "router") t ≡ Some router
    → option_and_then times_in doc ≡ Some (record { links = l; routers = r; changes = c; link = link; router = router })
read_all doc t l r c link router is n el er ec elink erouter = rw (is, eq-eqb (key_count t) (known_keys t) n, el, er, ec, elink, erouter) refl

pub other_count : (t : Members) → (key_count t ≡ known_keys t → ⊥) → times_in t ≡ None
other_count t n = rw (ne_eqb (key_count t) (known_keys t) n) refl

-- ---- a key that is left out

abbrev counted : Option Data → ℕ
counted o = option_map_or (λ d. 1) o 0

pub list_absent : (o : Option Data) → counted o ≡ 0 → option_map_or array_texts o (Some []) ≡ Some []
list_absent None none = refl
list_absent (Some d) none = absurd (omega (arith, none))

pub list_there : (o : Option Data) → (counted o ≡ 0 → ⊥) → option_map_or array_texts o (Some []) ≡ option_and_then array_texts o
list_there None there = absurd (there refl)
list_there (Some d) there = refl

-- ---- numbers

pub delay_is : (d : Data) (z : ℤ) → as_integer d ≡ Some z → delay_of d ≡ natural z
delay_is (integer y) z is = ap natural (ap (λ o. elim o [ Some v ↦ v | None ↦ y ]) is)
delay_is _ z is = cc

pub delay_none : (d : Data) → as_integer d ≡ None → delay_of d ≡ None
delay_none (integer y) is = cc
delay_none _ is = refl

-- what `try_from` makes of a number that is 0 or more
pub natural_read : {E : Type 0} (z : ℤ) (r : Result ℕ E) → SFits w64 z → OkIff r (FitsUnsignedBits 64 z) (nat_abs z) → result_ok r ≡ natural z
natural_read (pos n) (Ok x) fits is = ap Some is.1
natural_read (pos n) (Err e) fits is = absurd (is (omega (arith, fits)))
natural_read (negsuc n) (Ok x) fits is = absurd is.0
natural_read (negsuc n) (Err e) fits is = refl

-- a number of the signed type, by its size
pub fits_by_size : (z : ℤ) → mag z < 9223372036854775808 → SFits w64 z
fits_by_size z small = record { sfits = small }
