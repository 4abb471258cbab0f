-- One more number in a range.
use Rattle.std.proofs.Common.{◌≡◌, ℕ, ◌+◌, [], ◌∷◌, ◌++◌, List, Vec, get_or, map, sym, ap, ◌∙◌, arith, take_all}
use Rattle.script.proofs.Common.{range_with_len, take_more, map_push, length-map-range_with_len, take-map-range_with_len, get_or-map-range_with_len}

pub map-range_more : {X : Type 0} (f : ℕ → X) (k : ℕ) → map f (range_with_len 0 (k + 1)) ≡ map f (range_with_len 0 k) ++ f k ∷ []
map-range_more {X} f k =
    let more = map f (range_with_len 0 (k + 1)) in
    let count = length-map-range_with_len f 0 (k + 1) in
    sym (take_all (k + 1) more (omega (arith, count))) ∙ take_more more k (f k) (omega (arith, count))
    ∙ ap (λ xs. xs ++ get_or more k (f k) ∷ []) (take-map-range_with_len f 0 (k + 1) k (omega arith))
    ∙ ap (λ x. map f (range_with_len 0 k) ++ x ∷ []) (get_or-map-range_with_len f 0 (k + 1) k k (f k) (omega arith) (omega arith))

-- a vector for one more number
pub vectors_more : {Z : Type 0} (f : ℕ → List ℕ) (vs more : List (Vec ℕ Z)) (v : Vec ℕ Z) (k : ℕ)
    → map (λ (w : Vec ℕ Z). w.items) vs ≡ map f (range_with_len 0 k) → v.items ≡ f k → more ≡ vs ++ v ∷ []
    → map (λ (w : Vec ℕ Z). w.items) more ≡ map f (range_with_len 0 (k + 1))
vectors_more {Z} f vs more v k so_far is new =
    ap (map (λ (w : Vec ℕ Z). w.items)) new ∙ map_push (λ (w : Vec ℕ Z). w.items) vs v
    ∙ ap (λ xs. xs ++ v.items ∷ []) so_far ∙ ap (λ x. map f (range_with_len 0 k) ++ x ∷ []) is ∙ sym (map-range_more f k)
