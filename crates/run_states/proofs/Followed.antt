-- Books that are shown one after another.
use Rattle.std.proofs.Common.{ap, sym, subst, ◌∙◌, ◌≡◌, ◌≢◌, ◌⊎◌, inl, inr, ℕ, ◌+◌, ◌<◌, ◌≤◌, Bool, false, List, [], ◌∷◌, ◌++◌, Some, length, set, slice_get, arith}
use Rattle.std.proofs.{lemmas.Bool.cases_eq, lemmas.Option.same_Some, lemmas.Option.slice_get_within}
use Rattle.run_states.specs.Recorders.{BooksFollow}
use Rattle.run_states.proofs.Lists.{slice_get-set_other, slice_get-set_same}

-- one more change is made last
pub follow_last : {C B : Type 0} (Becomes : C → B → B → Type 0) (cs : List (ℕ × C)) (n : ℕ) (c : C) (first books : List B) (old new : B)
    → BooksFollow Becomes cs first books → slice_get books n ≡ Some old → Becomes c old new → BooksFollow Becomes (cs ++ (n, c) ∷ []) first (set books n new)
follow_last Becomes [] n c first books old new follows at becomes = (old, new, ap (λ xs. slice_get xs n) (sym follows) ∙ at, becomes, ap (λ xs. set xs n new) follows)
follow_last Becomes (d ∷ ds) n c first books old new follows at becomes =
    (follows.0, follows.1, follows.2, follows.3, follow_last Becomes ds n c (set first d.0 follows.1) books old new follows.4 at becomes)

module _ {B : Type 0} (is_marked : B → Bool) (Shows : ℕ → B → Type 0) where
  -- the books that are not marked show what they are of, and so do those before this number
  pub record AreShownBelow (n : ℕ) (books : List B) : Type 0 where
    pub current : (j : ℕ) (b : B) → slice_get books j ≡ Some b → is_marked b ≡ false → Shows j b
    pub below : (j : ℕ) (b : B) → j < n → slice_get books j ≡ Some b → Shows j b

  -- the next book shows what it is of from now on
  pub shown_next : (n : ℕ) (books : List B) (new : B) → n < length books → Shows n new → AreShownBelow n books → AreShownBelow (n + 1) (set books n new)
  shown_next n books new within shows all = record {
    current = λ j b at unmarked. by_place j b at (cases_eq j n) (λ d old. all.current j b old unmarked);
    below = λ j b less at. by_place j b at (cases_eq j n) (λ d old. all.below j b (omega arith) old);
  }
    where
      by_place : (j : ℕ) (b : B) → slice_get (set books n new) j ≡ Some b → (j ≡ n) ⊎ (j ≢ n) → (j ≢ n → slice_get books j ≡ Some b → Shows j b) → Shows j b
      by_place j b at (inl e) old =
          let same : new ≡ b = same_Some new b (sym (slice_get-set_same books n new within) ∙ ap (slice_get (set books n new)) (sym e) ∙ at) in
          subst (λ k. Shows k b) (sym e) (subst (Shows n) same shows)
      by_place j b at (inr d) old = old d (sym (slice_get-set_other books n j new d) ∙ at)

  -- the next book is not marked
  pub shown_still : (n : ℕ) (books : List B) (b : B) → slice_get books n ≡ Some b → is_marked b ≡ false → AreShownBelow n books → AreShownBelow (n + 1) books
  shown_still n books b here unmarked all = record {
    current = all.current;
    below = λ j x less at. by_place j x less at (cases_eq j n);
  }
    where
      by_place : (j : ℕ) (x : B) → j < n + 1 → slice_get books j ≡ Some x → (j ≡ n) ⊎ (j ≢ n) → Shows j x
      by_place j x less at (inl e) =
          let same : b ≡ x = same_Some b x (sym here ∙ ap (slice_get books) (sym e) ∙ at) in
          all.current j x at (ap is_marked (sym same) ∙ unmarked)
      by_place j x less at (inr d) = all.below j x (omega arith) at

  pub shown_all : (n : ℕ) (books : List B) → length books ≤ n → AreShownBelow n books → (j : ℕ) (b : B) → slice_get books j ≡ Some b → Shows j b
  shown_all n books past all j b at = let within = slice_get_within books j b at in all.below j b (omega (arith, within)) at
