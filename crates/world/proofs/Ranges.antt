-- A list that grows by what a function makes of one number after another.
use Rattle.std.proofs.Common.{sym, ap, ◌∙◌, arith, append_assoc, ◌≡◌, ℕ, suc, ◌+◌, ◌-◌, ◌<◌, ◌≤◌, List, [], ◌∷◌, ◌++◌, map, append-nil}
use Rattle.no_packet_loops.proofs.Common.{range_with_len}

-- the numbers from k to e, the first of them apart
range_from : (k e : ℕ) → k < e → range_with_len k (e - k) ≡ k ∷ range_with_len (k + 1) (e - (k + 1))
range_from k e below =
    let one : e - k ≡ suc (e - (k + 1)) = omega (arith, below) in
    ap (range_with_len k) one

-- what is made of one number more
pub one_made : {B : Type 0} (g : ℕ → B) (made longer all : List B) (x : B) (k e : ℕ) → k < e → x ≡ g k → longer ≡ made ++ x ∷ []
    → made ++ map g (range_with_len k (e - k)) ≡ all → longer ++ map g (range_with_len (k + 1) (e - (k + 1))) ≡ all
one_made g made longer all x k e below is grown before =
    ap (λ ys. ys ++ map g (range_with_len (k + 1) (e - (k + 1)))) (grown ∙ ap (λ y. made ++ y ∷ []) is)
    ∙ append_assoc made (g k ∷ []) (map g (range_with_len (k + 1) (e - (k + 1))))
    ∙ ap (λ ns. made ++ map g ns) (sym (range_from k e below))
    ∙ before

pub all_made : {B : Type 0} (g : ℕ → B) (made all : List B) (k e : ℕ) → e ≤ k → made ++ map g (range_with_len k (e - k)) ≡ all → made ≡ all
all_made g made all k e past before =
    let none : e - k ≡ 0 = omega (arith, past) in
    sym (append-nil made) ∙ ap (λ n. made ++ map g (range_with_len k n)) (sym none) ∙ before
