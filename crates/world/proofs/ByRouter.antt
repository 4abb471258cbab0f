-- Lists by router, of which one or two grow.
use Rattle.std.proofs.Common.{refl, sym, ap, subst, ◌∙◌, arith, ◌≡◌, ℕ, zero, suc, ◌+◌, ◌<◌, ◌≤◌, Bool, true, false, ◌==◌, if◌then◌else◌, List, [], ◌∷◌, map, length, get_or, eqb-true, eq-eqb, true≢false}
use Rattle.no_packet_loops.proofs.Common.{range_with_len, changed_at, length-map-range_with_len, Some_injective, listed_at, false_from_ne_true}
use Rattle.link_fifo.proofs.Changes.{slice_get-read_in}

-- ---- a function of the numbers

-- functions that agree make the same of the numbers from l on
pub same_range : {B : Type 0} (f h : ℕ → B) (l n : ℕ) → ((i : ℕ) → l ≤ i → h i ≡ f i) → map f (range_with_len l n) ≡ map h (range_with_len l n)
same_range f h l zero same = refl
same_range f h l (suc n) same =
    ap (λ x. x ∷ map f (range_with_len (l + 1) n)) (sym (same l (omega arith)))
    ∙ ap (λ xs. h l ∷ xs) (same_range f h (l + 1) n (λ i le. same i (omega (arith, le))))

-- a function that differs at one number makes another of that number alone
changed_range : {B : Type 0} (f h : ℕ → B) (g : B → B) (l n k : ℕ) → k < n → h (l + k) ≡ g (f (l + k)) → ((i : ℕ) → (i ≡ l + k → ⊥) → h i ≡ f i)
    → changed_at k g (map f (range_with_len l n)) ≡ map h (range_with_len l n)
changed_range f h g l zero k below here others = absurd (omega (arith, below))
changed_range f h g l (suc n) zero below here others =
    let at : l + 0 ≡ l = omega arith in
    ap (λ x. x ∷ map f (range_with_len (l + 1) n)) (sym (subst (λ m. h m ≡ g (f m)) at here))
    ∙ ap (λ xs. h l ∷ xs) (same_range f h (l + 1) n (λ i le. others i (λ e. omega (arith, le, e))))
changed_range f h g l (suc n) (suc k) below here others =
    let at : (l + 1) + k ≡ l + suc k = omega arith in
    ap (λ x. x ∷ changed_at k g (map f (range_with_len (l + 1) n))) (sym (others l (λ e. omega (arith, e))))
    ∙ ap (λ xs. h l ∷ xs) (changed_range f h g (l + 1) n k (omega (arith, below)) (subst (λ m. h m ≡ g (f m)) (sym at) here) (λ i apart. others i (λ e. apart (e ∙ sym at))))

pub changed_one : {B : Type 0} (f h : ℕ → B) (g : B → B) (n k : ℕ) → k < n → h k ≡ g (f k) → ((i : ℕ) → (i ≡ k → ⊥) → h i ≡ f i)
    → changed_at k g (map f (range_with_len 0 n)) ≡ map h (range_with_len 0 n)
changed_one f h g n k below here others =
    let at : 0 + k ≡ k = omega arith in
    changed_range f h g 0 n k below (subst (λ m. h m ≡ g (f m)) (sym at) here) (λ i apart. others i (λ e. apart (e ∙ sym at)))

-- the function, changed at one number
abbrev changed_value : {B : Type 0} → (ℕ → B) → (B → B) → ℕ → ℕ → B
changed_value f g a i = if i == a then g (f i) else f i

value_here : {B : Type 0} (f : ℕ → B) (g : B → B) (a : ℕ) → changed_value f g a a ≡ g (f a)
value_here f g a = ap (λ t. if t then g (f a) else f a) (eq-eqb a a refl)

value_elsewhere : {B : Type 0} (f : ℕ → B) (g : B → B) (a i : ℕ) → (i ≡ a → ⊥) → changed_value f g a i ≡ f i
value_elsewhere f g a i apart = ap (λ t. if t then g (f i) else f i) (false_from_ne_true (i == a) (λ e. apart (eqb-true i a e)))

-- the same at two numbers
pub changed_two : {B : Type 0} (f h : ℕ → B) (g1 g2 : B → B) (n a b : ℕ) → a < n → b < n → (a ≡ b → ⊥) → h a ≡ g1 (f a) → h b ≡ g2 (f b) → ((i : ℕ) → (i ≡ a → ⊥) → (i ≡ b → ⊥) → h i ≡ f i)
    → changed_at b g2 (changed_at a g1 (map f (range_with_len 0 n))) ≡ map h (range_with_len 0 n)
changed_two f h g1 g2 n a b below_a below_b differ here_a here_b others =
    ap (changed_at b g2) (changed_one f (changed_value f g1 a) g1 n a below_a (value_here f g1 a) (value_elsewhere f g1 a))
    ∙ changed_one (changed_value f g1 a) h g2 n b below_b (here_b ∙ ap g2 (sym (value_elsewhere f g1 a b (λ e. differ (sym e))))) (λ i apart. by_test i apart (i == a) refl)
  where
    by_test : (i : ℕ) → (i ≡ b → ⊥) → (t : Bool) → (i == a) ≡ t → h i ≡ changed_value f g1 a i
    by_test i apart true same =
        let is : i ≡ a = eqb-true i a same in
        subst (λ k. h k ≡ g1 (f k)) (sym is) here_a ∙ sym (ap (λ t. if t then g1 (f i) else f i) same)
    by_test i apart false same =
        others i (λ e. true≢false (sym (eq-eqb i a e) ∙ same)) apart ∙ sym (ap (λ t. if t then g1 (f i) else f i) same)

-- ---- one of the lists

-- what stands at a number is what is made of it
pub made_at : {X Y : Type 0} (g : X → Y) (f : ℕ → Y) (xs : List X) (n i : ℕ) (x : X) → map g xs ≡ map f (range_with_len 0 n) → i < n → x ≡ get_or xs i x → g x ≡ f i
made_at g f xs n i x made below at =
    Some_injective (sym (slice_get-read_in g xs refl at made (subst (λ m. i < m) (sym (length-map-range_with_len f 0 n)) below)) ∙ listed_at f n i below)

-- there are as many as there are numbers
pub made_count : {X Y : Type 0} (g : X → Y) (f : ℕ → Y) (xs : List X) (n : ℕ) → map g xs ≡ map f (range_with_len 0 n) → length xs ≡ n
made_count g f xs n made = sym (length_map g xs) ∙ ap length made ∙ length-map-range_with_len f 0 n
  where
    length_map : {X Y : Type 0} (g : X → Y) (xs : List X) → length (map g xs) ≡ length xs
    length_map g [] = refl
    length_map g (x ∷ xs) = ap suc (length_map g xs)
