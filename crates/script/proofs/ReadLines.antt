-- One more line read.
use Rattle.std.proofs.Common.{◌≡◌, ℕ, ◌+◌, ◌<◌, min, inl, inr, List, [], ◌∷◌, ◌++◌, length, get_or, take, Some, String, string_bytes, refl, sym, ap, ◌∙◌, arith, slice_get, None, take_all}
use Rattle.script.proofs.Common.{cases_lt, take_more, length_push, slice_get-map, slice_get_read, slice_get_within, get_or_from_slice_get, all_zipped_more, Text, texts, ReadsFirst, StopsHere}
use Rattle.script.specs.{declared.fault.LineFault.LineFault, declared.place.Key.Key, declared.place.Located.Located}

pub reads_none : {X : Type 0} (Says : Text → X → Type 0) (lines : List Text) (items : List X) → items ≡ [] → ReadsFirst Says lines items
reads_none Says lines items none = rw none tt

take_line : (lines : List Text) (i : ℕ) (line : Text) → slice_get lines i ≡ Some line → take (i + 1) lines ≡ take i lines ++ line ∷ []
take_line lines i line is =
    take_more lines i line (slice_get_within lines i line is) ∙ ap (λ t. take i lines ++ t ∷ []) (get_or_from_slice_get lines i line line is)

pub reads_more : {X : Type 0} (Says : Text → X → Type 0) (lines : List Text) (items : List X) (line : Text) (item : X)
    → ReadsFirst Says lines items → slice_get lines (length items) ≡ Some line → Says line item → ReadsFirst Says lines (items ++ item ∷ [])
reads_more Says lines items line item reads is says =
    rw (length_push items item, take_line lines (length items) line is) (all_zipped_more Says (take (length items) lines) items line item reads says)

-- the line at a place, as its text
pub text_at : {Z : Type 0} (lines : List (String Z)) (i : ℕ) (line : String Z) → i < length lines → line ≡ get_or lines i line → slice_get (texts lines) i ≡ Some (string_bytes line)
text_at lines i line within is = slice_get-map string_bytes lines i ∙ ap (λ o. elim o [ Some s ↦ Some (string_bytes s) | None ↦ None ]) (slice_get_read lines (length lines) i line refl within is)

-- the line that a loop is at, read
pub reads_line : {X Z : Type 0} (Says : Text → X → Type 0) (lines : List (String Z)) (items more : List X) (i : ℕ) (line : String Z) (text : Text) (item : X)
    → ReadsFirst Says (texts lines) items → length items ≡ i → i < length lines → line ≡ get_or lines i line → text ≡ string_bytes line
    → Says text item → more ≡ items ++ item ∷ [] → ReadsFirst Says (texts lines) more
reads_line Says lines items more i line text item reads count within is spelled says new =
    rw new (reads_more Says (texts lines) items text item reads (rw (count, spelled) (text_at lines i line within is)) says)

-- the line that a loop is at, with a fault
pub stops_line : {X Z : Type 0} (IsFault : Text → LineFault → Type 0) (key : Key) (lines : List (String Z)) (items : List X) (i : ℕ) (line : String Z) (text : Text) (fault : LineFault) (at : Located)
    → length items ≡ i → i < length lines → line ≡ get_or lines i line → text ≡ string_bytes line
    → IsFault text fault → at.fault ≡ fault → at.place ≡ Some (record { key = key; position = i }) → StopsHere IsFault key (texts lines) items at
stops_line IsFault key lines items i line text fault at count within is spelled has_fault fault_is place_is = record {
  position = i;
  place = place_is;
  stopped = record { line = text; is_line = rw spelled (text_at lines i line within is); has_fault = rw fault_is has_fault; first = count };
}

-- the first elements of a list, as many as there are
pub first_is : {X : Type 0} (xs : List X) (most n : ℕ) → n ≡ min (length xs) most → take n xs ≡ take most xs
first_is xs most n is = rw is (elim (cases_lt most (length xs)) [
  | inl more ↦ ap (λ k. take k xs) (omega arith)
  | inr fits ↦ take_all (min (length xs) most) xs (omega arith) ∙ sym (take_all most xs fits)
])

-- the line that a loop is at, added to those before it
pub takes_line : {Z : Type 0} (lines : List (String Z)) (i : ℕ) (line : String Z) (text : Text) (names more : List Text)
    → names ≡ take i (texts lines) → i < length lines → line ≡ get_or lines i line → text ≡ string_bytes line
    → more ≡ names ++ text ∷ [] → more ≡ take (i + 1) (texts lines)
takes_line lines i line text names more so_far within is spelled new =
    new ∙ ap (λ ns. ns ++ text ∷ []) so_far ∙ sym (take_line (texts lines) i text (rw spelled (text_at lines i line within is)))
