-- A new pool: of 128 words, four are in use, and the others are free blocks of five sizes.
use Rattle.std.proofs.Common.{ℕ, ◌≡◌, ⊎_elim, ◌+◌, ◌%◌, ◌<◌, List, [], ◌∷◌, length, set, replicate, arith, refl, sym, subst, get_or-set_same, get_or-set_other}
use Rattle.std.proofs.{lemmas.List.get_or-replicate, lemmas.List.get_or_past, lemmas.Bool.cases_lt}
use Rattle.word_pool.specs.Layout.{entry, noted, free_size, IsLaid}
use Rattle.word_pool.proofs.{Blocks.noted_here, Blocks.noted_start, Laid.laid_start, Laid.laid_more}

-- a free block behind the others, the first of its size
more : (words : ℕ → ℕ) (count : ℕ) (free counts : List ℕ) (used : ℕ → ℕ) (i s : ℕ) → length free ≡ 6 → length counts ≡ 6 → i < 6 → s ≡ free_size i → count % s ≡ 0 → words count ≡ entry free i → entry counts i ≡ 0
    → IsLaid words count (entry free) (entry counts) used → IsLaid words (count + s) (entry (set free i count)) (entry (set counts i 1)) used
more words count free counts used i s l m few size fits next none w =
    laid_more words count (entry free) (entry counts) used (entry (set free i count)) (entry (set counts i 1)) i s w few size fits next
    (get_or-set_same free i count 0 (omega (arith, l, few))) (λ j n. get_or-set_other free i j count 0 n)
    (let e = get_or-set_same counts i 1 0 (omega (arith, m, few)) in omega (arith, e, none)) (λ j n. get_or-set_other counts i j 1 0 n)

laid_first : (xs numbers : List ℕ) → ((k : ℕ) → k < 128 → entry xs k ≡ 0) → numbers ≡ 0 ∷ 4 ∷ []
    → IsLaid (entry xs) 128 (entry (4 ∷ 8 ∷ 16 ∷ 32 ∷ 64 ∷ 0 ∷ [])) (entry (1 ∷ 1 ∷ 1 ∷ 1 ∷ 1 ∷ 0 ∷ [])) (noted numbers)
laid_first xs numbers zeros e =
    let none : List ℕ = replicate 6 0 in
    let empty : (i : ℕ) → entry none i ≡ 0 = λ i. ⊎_elim (λ l. get_or-replicate 6 i 0 0 l) (λ l. get_or_past none i 0 l) (cases_lt i 6) in
    let w0 = laid_start (entry xs) 4 (entry none) (entry none) (noted numbers) (omega arith) (λ k l. zeros k (omega arith)) (λ i l. empty i) empty (noted_here numbers [] 0 4 e) (λ b n. noted_start numbers b e n) in
    let w1 = more (entry xs) 4 none none (noted numbers) 0 4 refl refl (omega arith) refl refl (zeros 4 (omega arith)) refl w0 in
    let w2 = more (entry xs) 8 (4 ∷ 0 ∷ 0 ∷ 0 ∷ 0 ∷ 0 ∷ []) (1 ∷ 0 ∷ 0 ∷ 0 ∷ 0 ∷ 0 ∷ []) (noted numbers) 1 8 refl refl (omega arith) refl refl (zeros 8 (omega arith)) refl w1 in
    let w3 = more (entry xs) 16 (4 ∷ 8 ∷ 0 ∷ 0 ∷ 0 ∷ 0 ∷ []) (1 ∷ 1 ∷ 0 ∷ 0 ∷ 0 ∷ 0 ∷ []) (noted numbers) 2 16 refl refl (omega arith) refl refl (zeros 16 (omega arith)) refl w2 in
    let w4 = more (entry xs) 32 (4 ∷ 8 ∷ 16 ∷ 0 ∷ 0 ∷ 0 ∷ []) (1 ∷ 1 ∷ 1 ∷ 0 ∷ 0 ∷ 0 ∷ []) (noted numbers) 3 32 refl refl (omega arith) refl refl (zeros 32 (omega arith)) refl w3 in
    more (entry xs) 64 (4 ∷ 8 ∷ 16 ∷ 32 ∷ 0 ∷ 0 ∷ []) (1 ∷ 1 ∷ 1 ∷ 1 ∷ 0 ∷ 0 ∷ []) (noted numbers) 4 64 refl refl (omega arith) refl refl (zeros 64 (omega arith)) refl w4

pub start_laid : (xs : List ℕ) (count : ℕ) (counts numbers : List ℕ) → count ≡ 128 → ((k : ℕ) → k < 128 → entry xs k ≡ 0) → counts ≡ 1 ∷ 1 ∷ 1 ∷ 1 ∷ 1 ∷ 0 ∷ [] → numbers ≡ 0 ∷ 4 ∷ []
    → ∥ IsLaid (entry xs) count (entry (4 ∷ 8 ∷ 16 ∷ 32 ∷ 64 ∷ 0 ∷ [])) (entry counts) (noted numbers) ∥₁
start_laid xs count counts numbers c zeros d e =
    subst (λ n. ∥ IsLaid (entry xs) n (entry (4 ∷ 8 ∷ 16 ∷ 32 ∷ 64 ∷ 0 ∷ [])) (entry counts) (noted numbers) ∥₁) (sym c)
    (subst (λ l. ∥ IsLaid (entry xs) 128 (entry (4 ∷ 8 ∷ 16 ∷ 32 ∷ 64 ∷ 0 ∷ [])) (entry l) (noted numbers) ∥₁) (sym d) ∣ laid_first xs numbers zeros e ∣₁)
