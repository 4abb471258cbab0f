-- How a text falls into lines.
use Rattle.std.proofs.Common.{◌≡◌, ◌≢◌, ℕ, ◌<◌, ◌≤◌, ◌-◌, ◌==◌, take, drop, inl, inr, Bool, false, if◌then◌else◌, [], ◌∷◌, length, Some, None, position, cond, refl, sym, ap, ◌∙◌, arith, List, take_all, length-drop}
use Rattle.std.specs.List.{slice_split, position_or_len, before_first, after_first}
use Rattle.std.proofs.{lemmas.Bool.cases_lt, lemmas.Bool.lt-ltb, Math.Seq.drop-length, lemmas.Option.none-some, lemmas.List.Sums.fails_before_first, lemmas.List.Sums.position_or_len_is, lemmas.List.Quantifiers.position-Some, lemmas.List.Splits.slice_split_first, lemmas.List.Splits.slice_split_none, lemmas.List.Splits.length-slice_split}
use Rattle.texts.specs.{Words.Text, Lines.is_line_feed, Lines.but_empty_last, Lines.lines_of}

parts_some : (text : Text) → slice_split is_line_feed text ≢ []
parts_some text none = absurd (omega (arith, length-slice_split is_line_feed text, ap length none))

more : (t : Text) (us : List Text) → us ≢ [] → but_empty_last (t ∷ us) ≡ t ∷ but_empty_last us
more t [] some = absurd (some refl)
more t (u ∷ us) some = refl

-- a text that is cut at its first line feed
pub line_first : (text line rest : Text) → line ≡ before_first is_line_feed text → rest ≡ after_first is_line_feed text → position_or_len is_line_feed text < length text
    → lines_of text ≡ line ∷ lines_of rest
line_first text line rest is after within =
    ap but_empty_last (slice_split_first is_line_feed text 0 within ∙ ap (λ t. t ∷ slice_split is_line_feed (after_first is_line_feed text)) (sym is)
    ∙ ap (λ t. line ∷ slice_split is_line_feed t) (sym after))
    ∙ more line (slice_split is_line_feed rest) (parts_some rest)

-- a text that has no line feed, and is not empty
pub line_last : (text : Text) (b : Bool) → b ≡ (length text == 0) → b ≡ false → length text ≤ position_or_len is_line_feed text → lines_of text ≡ text ∷ lines_of []
line_last text b is wrong none =
    ap but_empty_last (slice_split_none is_line_feed text (λ k d within. fails_before_first is_line_feed text k d (omega (arith, none, within))))
    ∙ ap (λ (c : Bool). if c then [] else text ∷ []) (sym is ∙ wrong)

-- where a search finds nothing
pub found_none : (xs : Text) → position is_line_feed xs ≡ None → length xs ≤ position_or_len is_line_feed xs
found_none xs none = elim (cases_lt (position_or_len is_line_feed xs) (length xs)) [
  | inl less ↦ absurd (none-some (position_or_len is_line_feed xs) (sym none ∙ ap (λ b. cond b (Some (position_or_len is_line_feed xs)) None) (lt-ltb (position_or_len is_line_feed xs) (length xs) less)))
  | inr past ↦ past
]

-- where it finds a place
pub found_some : (xs : Text) (n : ℕ) → position is_line_feed xs ≡ Some n → position_or_len is_line_feed xs ≡ n
found_some xs n is =
    let at = position-Some is_line_feed xs n 0 is in
    let within : n < length xs = at.0 in
    position_or_len_is is_line_feed xs n 0 (omega (arith, within)) at.2 (λ _. at.1)

-- what stands after a place, to the end
pub rest_is : (xs : Text) (n m : ℕ) → n ≡ m → take (length xs - n) (drop n xs) ≡ drop m xs
rest_is xs n m same = take_all (length xs - n) (drop n xs) (omega (arith, length-drop n xs)) ∙ ap (λ k. drop k xs) same

-- nothing stands after the end
pub rest_none : (xs : Text) → take (length xs - length xs) (drop (length xs) xs) ≡ []
rest_none xs = rest_is xs (length xs) (length xs) refl ∙ drop-length xs
