-- Beginnings of lists.
use Rattle.std.proofs.Common.{◌≡◌, ◌∙◌, ◌≤◌, List, [], ◌∷◌, ◌++◌, length, refl, ap, sym, arith, append_assoc, length-append, append-nil}
use mathlib.Core.List.{IsPrefix}

module _ {A : Type 0} where
  -- each list begins with itself
  pub prefix_self : (xs : List A) → IsPrefix xs xs
  prefix_self xs = ([], append-nil xs)

  -- a beginning of a beginning is a beginning
  pub prefix_trans : (xs ys zs : List A) → IsPrefix xs ys → IsPrefix ys zs → IsPrefix xs zs
  prefix_trans xs ys zs a b = (a.0 ++ b.0, sym (append_assoc xs a.0 b.0) ∙ ap (λ l. l ++ b.0) a.1 ∙ b.1)

  shorter : (xs ys more rest whole : List A) → xs ++ more ≡ whole → ys ++ rest ≡ whole → length xs ≤ length ys → IsPrefix xs ys
  shorter [] ys more rest whole a b less = (ys, refl)
  shorter (x ∷ xs) [] more rest whole a b less = absurd (omega arith)
  shorter (x ∷ xs) (y ∷ ys) more rest [] a b less = absurd cc
  shorter (x ∷ xs) (y ∷ ys) more rest (z ∷ zs) a b less =
      let first : x ≡ y = cc in
      let xs_more : xs ++ more ≡ zs = cc in
      let ys_rest : ys ++ rest ≡ zs = cc in
      let tail = shorter xs ys more rest zs xs_more ys_rest (omega arith) in
      (tail.0, ap (λ k. k ∷ (xs ++ tail.0)) first ∙ ap (λ l. y ∷ l) tail.1)

  -- of two beginnings of one list the shorter begins the longer
  pub prefix_shorter : (xs ys whole : List A) → IsPrefix xs whole → IsPrefix ys whole → length xs ≤ length ys → IsPrefix xs ys
  prefix_shorter xs ys whole a b less = shorter xs ys a.0 b.0 whole a.1 b.1 less

  all_there : (xs ys more : List A) → xs ++ more ≡ ys → length xs ≡ length ys → xs ≡ ys
  all_there xs ys [] is len = sym (append-nil xs) ∙ is
  all_there xs ys (m ∷ more) is len = absurd (omega (arith, length-append xs (m ∷ more), ap length is, len))

  -- a beginning as long as the whole is the whole
  pub prefix_whole : (xs ys : List A) → IsPrefix xs ys → length xs ≡ length ys → xs ≡ ys
  prefix_whole xs ys a len = all_there xs ys a.0 a.1 len
