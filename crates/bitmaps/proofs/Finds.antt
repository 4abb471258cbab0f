-- The greatest find stays the greatest, or gives way to a greater one.
use Rattle.std.proofs.Common.{ℕ, ◌≡◌, ⊎_elim, ◌+◌, ◌-◌, ◌<◌, ◌≤◌, Option, Some, None, arith, refl, sym, ap, ◌∙◌}
use Rattle.std.proofs.lemmas.Bool.{cases_lt}
use Rattle.bitmaps.specs.Greatest.{GreatestBelow, longer}

-- where nothing is among the next w numbers, there is nothing
longer-none : {X : Type 0} (f g : ℕ → Option X) (n w : ℕ) → ((k : ℕ) → k < w → f (n + k) ≡ g k) → ((k : ℕ) → k < w → g k ≡ None)
    → (k : ℕ) → n ≤ k → k < n + w → f k ≡ None
longer-none f g n w s o k l h =
    let e : n + (k - n) ≡ k = omega arith in
    ap f (sym e) ∙ s (k - n) (omega arith) ∙ o (k - n) (omega arith)

-- what is found within the next w bits, where there is any, is the longest so far
pub GreatestBelow-longer : {X : Type 0} (f g : ℕ → Option X) (n w : ℕ) (own above : Option (ℕ × X)) → ((k : ℕ) → k < w → f (n + k) ≡ g k)
    → GreatestBelow g w own → (own ≡ None → GreatestBelow f n above) → GreatestBelow f (n + w) (longer own n above)
GreatestBelow-longer f g n w None None s o a = λ k h.
    ⊎_elim (λ l. a refl k l) (λ l. longer-none f g n w s o k l h) (cases_lt k n)
GreatestBelow-longer f g n w None (Some r) s o a =
    let b = a refl in
    (omega (arith, b.0), b.1, λ k l h. ⊎_elim (λ below. b.2 k l below) (λ past. longer-none f g n w s o k past h) (cases_lt k n))
GreatestBelow-longer f g n w (Some own) above s o a = (
  omega (arith, o.0),
  s own.0 o.0 ∙ o.1,
  λ k l h. let e : n + (k - n) ≡ k = omega arith in
      ap f (sym e) ∙ s (k - n) (omega arith) ∙ o.2 (k - n) (omega arith) (omega arith),
)

-- the greatest find stays the greatest where nothing comes after
pub GreatestBelow-end : {X : Type 0} (f : ℕ → Option X) (n m : ℕ) (best : Option (ℕ × X)) → n ≤ m → ((k : ℕ) → n ≤ k → k < m → f k ≡ None) → GreatestBelow f n best → GreatestBelow f m best
GreatestBelow-end f n m None h e b = λ k l. ⊎_elim (λ q. b k q) (λ q. e k q l) (cases_lt k n)
GreatestBelow-end f n m (Some r) h e b = (omega (arith, b.0), b.1, λ k l q. ⊎_elim (λ below. b.2 k l below) (λ past. e k past q) (cases_lt k n))
