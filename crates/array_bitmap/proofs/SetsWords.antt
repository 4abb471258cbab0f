-- One word is set, or taken out, and what that leaves of all words.
use Rattle.std.proofs.Common.{ℕ, ◌≡◌, ◌⊎◌, inl, inr, ◌^◌, ◌<◌, ◌≤◌, Option, Some, None, sym, ap, subst, ◌∙◌}
use Rattle.std.proofs.lemmas.Bool.{cases_eq}
use Rattle.array_bitmap.specs.{Bits.path_start, Words.IsRowWord, Tree.SetsWord}
use Rattle.bitmaps.specs.Greatest.{GreatestBelow}

pub row_words_stay : (old new : ℕ → ℕ → Option ℕ) (path len : ℕ) (word : Option ℕ) → SetsWord old new path len word
    → ((w : ℕ) → word ≡ Some w → IsRowWord len w)
    → ((q m w : ℕ) → q < 2 ^ 34 → m ≤ 32 → old q m ≡ Some w → IsRowWord m w)
    → (q m w : ℕ) → q < 2 ^ 34 → m ≤ 32 → new q m ≡ Some w → IsRowWord m w
row_words_stay old new path len word sets own before q m w fits short e = by (cases_eq m len) (cases_eq (path_start q m) (path_start path m))
  where
    by : (m ≡ len) ⊎ (m ≡ len → ⊥) → (path_start q m ≡ path_start path m) ⊎ (path_start q m ≡ path_start path m → ⊥) → IsRowWord m w
    by (inl a) (inl b) =
        let hit : new q len ≡ word = sets.hit q (subst (λ l. path_start q l ≡ path_start path l) a b) in
        subst (λ l. IsRowWord l w) (sym a) (own w (sym hit ∙ ap (new q) (sym a) ∙ e))
    by (inl a) (inr b) = before q m w fits short (sym (sets.miss q m fits short (λ x y. b y)) ∙ e)
    by (inr a) y = before q m w fits short (sym (sets.miss q m fits short (λ x z. a x)) ∙ e)

-- the greatest stays where nothing below changes
pub GreatestBelow-same : {X : Type 0} (f g : ℕ → Option X) (n : ℕ) (best : Option (ℕ × X)) → ((k : ℕ) → k < n → g k ≡ f k) → GreatestBelow f n best → GreatestBelow g n best
GreatestBelow-same f g n None same b = λ k l. same k l ∙ b k l
GreatestBelow-same f g n (Some r) same b = (b.0, same r.0 b.0 ∙ b.1, λ k l h. same k h ∙ b.2 k l h)

-- the same words before the change
pub sets_from : (f g h : ℕ → ℕ → Option ℕ) (path len len' : ℕ) (word : Option ℕ) → ((q m : ℕ) → g q m ≡ f q m) → len' ≡ len → SetsWord g h path len' word → SetsWord f h path len word
sets_from f g h path len len' word same e w = record {
  hit = λ q p. subst (λ m. path_start q m ≡ path_start path m → h q m ≡ word) e (w.hit q) p;
  miss = λ q m l b out. w.miss q m l b (λ x. out (x ∙ e)) ∙ same q m;
}

-- the same words after the change
pub sets_to : (f g h : ℕ → ℕ → Option ℕ) (path len len' : ℕ) (word : Option ℕ) → ((q m : ℕ) → h q m ≡ g q m) → len' ≡ len → SetsWord f g path len' word → SetsWord f h path len word
sets_to f g h path len len' word same e w = record {
  hit = λ q p. same q len ∙ subst (λ m. path_start q m ≡ path_start path m → g q m ≡ word) e (w.hit q) p;
  miss = λ q m l b out. same q m ∙ w.miss q m l b (λ x. out (x ∙ e));
}
