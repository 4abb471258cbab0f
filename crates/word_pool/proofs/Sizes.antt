-- The six sizes of blocks, their lists, and the words of the free blocks.
use Rattle.std.proofs.Common.{ℕ, ◌≡◌, ◌≢◌, ◌⊎◌, ⊎_elim, ◌+◌, ◌-◌, ◌*◌, ◌<◌, ◌≤◌, List, length, set, IsTrue, arith, refl, sym, ap, subst, ◌∙◌, vec_len, get_or-set_same, get_or-set_other}
use Rattle.std.proofs.{lemmas.Bool.cases_lt, lemmas.Bool.Decides.nat_tests}
use Rattle.word_pool.specs.{Heap.is_size, Layout.entry, Layout.noted, Layout.free_size, Pool.list_of_size, Pool.spare, Pool.HasSpare, declared.pool.Pool.Pool}
use Rattle.word_pool.proofs.Laid.{head_none}

six : (n : ℕ) → IsTrue (is_size n) → (n ≡ 4) ⊎ (n ≡ 8) ⊎ (n ≡ 16) ⊎ (n ≡ 32) ⊎ (n ≡ 64) ⊎ (n ≡ 128)
six n h = grind (arith, nat_tests)

-- what holds of each size
by_six : (P : ℕ → Type 0) → P 4 → P 8 → P 16 → P 32 → P 64 → P 128 → (n : ℕ) → IsTrue (is_size n) → P n
by_six P a b c d e f n h =
    ⊎_elim (λ x. subst P (sym x) a) (⊎_elim (λ x. subst P (sym x) b) (⊎_elim (λ x. subst P (sym x) c)
    (⊎_elim (λ x. subst P (sym x) d) (⊎_elim (λ x. subst P (sym x) e) (λ x. subst P (sym x) f))))) (six n h)

-- the blocks of a list have its size
pub width_of : (n : ℕ) → IsTrue (is_size n) → n ≡ free_size (list_of_size n)
width_of = by_six (λ n. n ≡ free_size (list_of_size n)) refl refl refl refl refl refl

pub few_lists : (n : ℕ) → IsTrue (is_size n) → list_of_size n < 6
few_lists = by_six (λ n. list_of_size n < 6) (omega arith) (omega arith) (omega arith) (omega arith) (omega arith) (omega arith)

-- each size has a list of its own
pub own_list : (s n : ℕ) → IsTrue (is_size s) → IsTrue (is_size n) → s ≢ n → list_of_size s ≢ list_of_size n
own_list s n h k d e = d (width_of s h ∙ ap free_size e ∙ sym (width_of n k))

-- a larger size is twice as large
pub twice : (s n : ℕ) → IsTrue (is_size s) → IsTrue (is_size n) → s < n → s + s ≤ n
twice s n h k l = ⊎_elim (λ x. omega (arith, x, six n k)) (λ x. omega (arith, x, six n k)) (six s h)

-- the words of free blocks, by how many there are in each list
abbrev pub total : (ℕ → ℕ) → ℕ
total f = 4 * f 0 + 8 * f 1 + 16 * f 2 + 32 * f 3 + 64 * f 4 + 128 * f 5

pub total_more : (f g : ℕ → ℕ) (size : ℕ) → IsTrue (is_size size) → g (list_of_size size) ≡ f (list_of_size size) + 1 → ((j : ℕ) → j ≢ list_of_size size → g j ≡ f j) → total g ≡ total f + size
total_more f g size h = by_six (λ n. g (list_of_size n) ≡ f (list_of_size n) + 1 → ((j : ℕ) → j ≢ list_of_size n → g j ≡ f j) → total g ≡ total f + n)
    (λ e o. omega (arith, e, o 1 (λ x. omega (arith, x)), o 2 (λ x. omega (arith, x)), o 3 (λ x. omega (arith, x)), o 4 (λ x. omega (arith, x)), o 5 (λ x. omega (arith, x))))
    (λ e o. omega (arith, e, o 0 (λ x. omega (arith, x)), o 2 (λ x. omega (arith, x)), o 3 (λ x. omega (arith, x)), o 4 (λ x. omega (arith, x)), o 5 (λ x. omega (arith, x))))
    (λ e o. omega (arith, e, o 0 (λ x. omega (arith, x)), o 1 (λ x. omega (arith, x)), o 3 (λ x. omega (arith, x)), o 4 (λ x. omega (arith, x)), o 5 (λ x. omega (arith, x))))
    (λ e o. omega (arith, e, o 0 (λ x. omega (arith, x)), o 1 (λ x. omega (arith, x)), o 2 (λ x. omega (arith, x)), o 4 (λ x. omega (arith, x)), o 5 (λ x. omega (arith, x))))
    (λ e o. omega (arith, e, o 0 (λ x. omega (arith, x)), o 1 (λ x. omega (arith, x)), o 2 (λ x. omega (arith, x)), o 3 (λ x. omega (arith, x)), o 5 (λ x. omega (arith, x))))
    (λ e o. omega (arith, e, o 0 (λ x. omega (arith, x)), o 1 (λ x. omega (arith, x)), o 2 (λ x. omega (arith, x)), o 3 (λ x. omega (arith, x)), o 4 (λ x. omega (arith, x)))) size h

-- a list has one free block more, or one fewer
module _ (ns ms : List ℕ) (size i : ℕ) (h : IsTrue (is_size size)) (list : i ≡ list_of_size size) (len : length ns ≡ 6) where
  set_here : (v : ℕ) → ms ≡ set ns i v → entry ms (list_of_size size) ≡ v
  set_here v e = ap (λ l. entry l (list_of_size size)) e ∙ ap (λ j. entry (set ns i v) j) (sym list) ∙ get_or-set_same ns i v 0 (omega (arith, len, list, few_lists size h))

  set_other : (v : ℕ) → ms ≡ set ns i v → (j : ℕ) → j ≢ list_of_size size → entry ms j ≡ entry ns j
  set_other v e j n = ap (λ l. entry l j) e ∙ get_or-set_other ns i j v 0 (λ x. n (x ∙ list))

  pub count_more : ms ≡ set ns i (entry ns i + 1) → entry ms (list_of_size size) ≡ entry ns (list_of_size size) + 1
  count_more e = set_here (entry ns i + 1) e ∙ ap (λ j. entry ns j + 1) list

  pub count_other : ms ≡ set ns i (entry ns i + 1) → (s : ℕ) → IsTrue (is_size s) → s ≢ size → entry ms (list_of_size s) ≡ entry ns (list_of_size s)
  count_other e s k n = set_other (entry ns i + 1) e (list_of_size s) (own_list s size k h n)

  pub words_more : ms ≡ set ns i (entry ns i + 1) → total (entry ms) ≡ total (entry ns) + size
  words_more e = total_more (entry ns) (entry ms) size h (count_more e) (set_other (entry ns i + 1) e)

  pub words_fewer : 0 < entry ns i → ms ≡ set ns i (entry ns i - 1) → total (entry ns) ≡ total (entry ms) + size
  words_fewer p e = total_more (entry ms) (entry ns) size h
      (let f = set_here (entry ns i - 1) e in let l = ap (entry ns) list in omega (arith, f, l, p)) (λ j n. sym (set_other (entry ns i - 1) e j n))

-- where a list is empty, a free block of its size or more has twice the size or more
pub spare_larger : {A : Type 0} (pool : Pool A) (size : ℕ) → IsTrue (is_size size) → entry pool.free (list_of_size size) ≡ 0 → HasSpare pool size → (size < 128) × HasSpare pool (2 * size)
unfolding spare
spare_larger pool size h none (s, k, l, p) =
    let z = head_none (entry pool.words.items) (vec_len pool.words) (entry pool.free) (entry pool.spare.numbers) (noted pool.used.numbers) pool.laid (list_of_size size) (few_lists size h) none in
    let n : s ≢ size = λ e. let q = ap (λ x. entry pool.spare.numbers (list_of_size x)) e in omega (arith, q, z, p) in
    let t = twice size s h k (⊎_elim (λ x. x) (λ x. absurd (n (omega arith))) (cases_lt size s)) in
    (let q = six s k in omega (arith, t, q), (s, k, omega (arith, t), p))
