-- Lines that are written one after another.
use Rattle.std.proofs.Common.{◌≡◌, ℕ, ◌+◌, ◌<◌, List, [], ◌∷◌, ◌++◌, length, take, Option, refl, sym, ap, subst, ◌∙◌, add-one, append_assoc, append-nil, get_or}
use Rattle.std.specs.{Io.KnownBytes.Appends, List.flat_map}
use Rattle.std.proofs.{KnownBytes.Appends-trans, lemmas.List.flat_map_more, Math.Seq.take-suc}
use Rattle.texts.specs.{Words.Text, Lines.lines_text}

module _ {A : Type 0} (part : A → Text) where
  pub part_more : (xs : List A) (x : A) (old mid new : Option Text) → Appends old mid (flat_map part xs) → Appends mid new (part x) → Appends old new (flat_map part (xs ++ x ∷ []))
  part_more xs x old mid new before more = subst (Appends old new) (flat_map_more part [] xs x) (Appends-trans old mid new (flat_map part xs) (part x) before more)

  -- the part of the next element of a list
  pub part_next : (xs : List A) (k : ℕ) (x : A) (old mid new : Option Text) → k < length xs → x ≡ get_or xs k x
      → Appends old mid (flat_map part (take k xs)) → Appends mid new (part x) → Appends old new (flat_map part (take (k + 1) xs))
  part_next xs k x old mid new within is before more =
      subst (λ ys. Appends old new (flat_map part ys))
      (sym (ap (λ n. take n xs) (add-one k) ∙ take-suc xs k x within ∙ ap (λ y. take k xs ++ y ∷ []) (sym is)))
      (part_more (take k xs) x old mid new before more)

module _ {A : Type 0} (line : A → Text) where
  lines_text-append : (xs ys : List A) → lines_text line (xs ++ ys) ≡ lines_text line xs ++ lines_text line ys
  lines_text-append [] ys = refl
  lines_text-append (x ∷ xs) ys =
      ap (λ t. (line x ++ 10 ∷ []) ++ t) (lines_text-append xs ys)
      ∙ sym (append_assoc (line x ++ 10 ∷ []) (lines_text line xs) (lines_text line ys))

  pub line_more : (xs : List A) (x : A) (old mid new : Option Text) → Appends old mid (lines_text line xs) → Appends mid new (line x ++ 10 ∷ []) → Appends old new (lines_text line (xs ++ x ∷ []))
  line_more xs x old mid new before more =
      subst (Appends old new) (sym (lines_text-append xs (x ∷ [])))
      (Appends-trans old mid new (lines_text line xs) (lines_text line (x ∷ [])) before (subst (Appends mid new) (sym (append-nil (line x ++ 10 ∷ []))) more))

  -- the line of the next element of a list
  pub line_next : (xs : List A) (k : ℕ) (x : A) (old mid new : Option Text) → k < length xs → x ≡ get_or xs k x
      → Appends old mid (lines_text line (take k xs)) → Appends mid new (line x ++ 10 ∷ []) → Appends old new (lines_text line (take (k + 1) xs))
  line_next xs k x old mid new within is before more =
      subst (λ ys. Appends old new (lines_text line ys))
      (sym (ap (λ n. take n xs) (add-one k) ∙ take-suc xs k x within ∙ ap (λ y. take k xs ++ y ∷ []) (sym is)))
      (line_more (take k xs) x old mid new before more)
