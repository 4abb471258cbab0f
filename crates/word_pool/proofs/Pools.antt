-- What a pool's blocks are by its words and by what was noted of them, and what one step does to them.
use Rattle.std.proofs.Common.{ℕ, ◌≡◌, ◌≢◌, ◌+◌, ◌-◌, ◌%◌, ◌<◌, ◌≤◌, List, [], ◌∷◌, length, set, get_or, Some, arith, refl, sym, ap, ◌∙◌, vec_len, get_or-set_same, get_or-set_other}
use Rattle.std.proofs.Math.Logic.{∥∥₁_map}
use Rattle.word_pool.specs.Heap.{size_of, word_of, HasOnlyZeros, IsAllocated, IsFreed, IsWordWritten, IsSplit}
use Rattle.word_pool.specs.Layout.{entry, noted, free_size, IsLaid}
use Rattle.word_pool.specs.{Pool.blocks, Pool.sized_block, Pool.read, declared.pool.Pool.Pool}
use Rattle.word_pool.proofs.Blocks.{noted_here, noted_other, noted_start, block_none, heap, heap_taken, heap_given, heap_written, heap_split, size-sized_block, word-sized_block}
use Rattle.word_pool.proofs.Laid.{width_some, laid_set, laid_pop, laid_push, laid_split, laid_grow, used_within, used_disjoint, head_some, head_unused, head_aligned, upper_unused, beyond_unused, zero_used, zero_word}

four_zeros : (f : ℕ → ℕ) → ((k : ℕ) → k < 4 → f k ≡ 0) → sized_block f 0 4 ≡ Some (0 ∷ 0 ∷ 0 ∷ 0 ∷ [])
unfolding sized_block read
four_zeros f z = ap (λ xs. Some xs) (ap (λ x. x ∷ f 1 ∷ f 2 ∷ f 3 ∷ []) (z 0 (omega arith)) ∙ ap (λ x. 0 ∷ x ∷ f 2 ∷ f 3 ∷ []) (z 1 (omega arith))
    ∙ ap (λ x. 0 ∷ 0 ∷ x ∷ f 3 ∷ []) (z 2 (omega arith)) ∙ ap (λ x. 0 ∷ 0 ∷ 0 ∷ x ∷ []) (z 3 (omega arith)))

-- where the words stay, all blocks stay
pub words_stay : (xs ys numbers new : List ℕ) → ys ≡ xs → new ≡ numbers → (b : ℕ) → heap (entry ys) (noted new) b ≡ heap (entry xs) (noted numbers) b
words_stay xs ys numbers new e f b = ap (λ x. heap (entry x) (noted new) b) e ∙ ap (λ n. heap (entry xs) (noted n) b) f

module _ {A : Type 0} (pool : Pool A) where
  -- a block's size is what was noted last
  pub size-blocks : (b : ℕ) → size_of (blocks pool b) ≡ noted pool.used.numbers b
  unfolding blocks
  size-blocks b = size-sized_block (entry pool.words.items) b (noted pool.used.numbers b)

  -- the words of a block lie in the pool
  pub within-blocks : (b i : ℕ) → i < size_of (blocks pool b) → b + i < vec_len pool.words
  within-blocks b i l =
      let s = size-blocks b in
      let w = used_within (entry pool.words.items) (vec_len pool.words) (entry pool.free) (entry pool.spare.numbers) (noted pool.used.numbers) pool.laid b (omega (arith, s, l)) in omega (arith, s, l, w)

  -- they are a block's words
  pub word-blocks : (b i : ℕ) → i < size_of (blocks pool b) → word_of (blocks pool b) i ≡ entry pool.words.items (b + i)
  unfolding blocks
  word-blocks b i l = let s = size-blocks b in word-sized_block (entry pool.words.items) b (noted pool.used.numbers b) i (omega (arith, s, l))

  -- at 0 there is always the block of four zeros
  pub zero_block : blocks pool 0 ≡ Some (0 ∷ 0 ∷ 0 ∷ 0 ∷ [])
  unfolding blocks
  zero_block =
      let z = zero_word (entry pool.words.items) (vec_len pool.words) (entry pool.free) (entry pool.spare.numbers) (noted pool.used.numbers) pool.laid in
      ap (λ s. sized_block (entry pool.words.items) 0 s) (zero_used (entry pool.words.items) (vec_len pool.words) (entry pool.free) (entry pool.spare.numbers) (noted pool.used.numbers) pool.laid)
      ∙ four_zeros (entry pool.words.items) z

  -- it is the one block of a pool where no other was noted
  pub empty_blocks : pool.used.numbers ≡ 0 ∷ 4 ∷ [] → HasOnlyZeros (blocks pool)
  unfolding blocks
  empty_blocks e = record { zeros = zero_block; others = λ b n. block_none (entry pool.words.items) b (noted pool.used.numbers b) (noted_start pool.used.numbers b e n) }

module _ (xs : List ℕ) (count : ℕ) (free counts numbers : List ℕ) (laid : ∥ IsLaid (entry xs) count (entry free) (entry counts) (noted numbers) ∥₁) where
  -- the place of a word in another block
  apart : (b i c k : ℕ) → i < noted numbers b → c ≢ b → c ≤ k → k < c + noted numbers c → k ≢ b + i
  apart b i c k l n p q e = used_disjoint (entry xs) count (entry free) (entry counts) (noted numbers) laid c b k n (omega (arith, p, q)) (omega (arith, l)) p q (omega (arith, e)) (omega (arith, e, l))

  -- a word of a block is written
  pub set_laid : (b i v : ℕ) → b ≢ 0 → i < noted numbers b → ∥ IsLaid (entry (set xs (b + i) v)) count (entry free) (entry counts) (noted numbers) ∥₁
  set_laid b i v n l = ∥∥₁_map laid (λ w. laid_set (entry xs) count (entry free) (entry counts) (noted numbers) w (entry (set xs (b + i) v)) b (b + i) n (omega (arith, l)) (omega arith) (omega (arith, l))
      (λ j m. get_or-set_other xs (b + i) j v 0 m))

  pub set_written : (b i v : ℕ) → count ≡ length xs → i < noted numbers b → IsWordWritten (heap (entry xs) (noted numbers)) (heap (entry (set xs (b + i) v)) (noted numbers)) b i v
  set_written b i v len l =
      let w = used_within (entry xs) count (entry free) (entry counts) (noted numbers) laid b (omega (arith, l)) in
      heap_written (entry xs) (entry (set xs (b + i) v)) (noted numbers) (noted numbers) b i v l refl (λ c n. refl)
      (get_or-set_same xs (b + i) v 0 (omega (arith, w, l, len))) (λ k n. get_or-set_other xs (b + i) k v 0 n) (λ c k n p q. apart b i c k l n p q)

  -- the first block of a list is taken
  module _ (i s : ℕ) (few : i < 6) (size : s ≡ free_size i) (len : length free ≡ 6) (many : length counts ≡ 6) (some : entry free i ≢ 0) (new : List ℕ) (e : new ≡ entry free i ∷ s ∷ numbers) where
    pub pop_laid : (next : ℕ) (fewer : List ℕ) → next ≡ entry xs (entry free i) → fewer ≡ set counts i (entry counts i - 1)
        → ∥ IsLaid (entry xs) count (entry (set free i next)) (entry fewer) (noted new) ∥₁
    pop_laid next fewer is less =
        let p = head_some (entry xs) count (entry free) (entry counts) (noted numbers) laid i few some in
        let c : entry fewer i ≡ entry counts i - 1 = ap (λ l. entry l i) less ∙ get_or-set_same counts i (entry counts i - 1) 0 (omega (arith, many, few)) in
        ∥∥₁_map laid (λ w. laid_pop (entry xs) count (entry free) (entry counts) (noted numbers) w (entry (set free i next)) (entry fewer) (noted new) i few some
        (get_or-set_same free i next 0 (omega (arith, len, few)) ∙ is) (λ j n. get_or-set_other free i j next 0 n)
        (omega (arith, p, c)) (λ j n. ap (λ l. entry l j) less ∙ get_or-set_other counts i j (entry counts i - 1) 0 n)
        (noted_here new numbers (entry free i) s e ∙ size) (λ b n. noted_other new numbers (entry free i) s b e n))

    pub pop_taken : IsAllocated (heap (entry xs) (noted numbers)) (heap (entry xs) (noted new)) (entry free i) s
    pop_taken = heap_taken (entry xs) (entry xs) (noted numbers) (noted new) (entry free i) s some
        (ap (λ x. entry free i % x) size ∙ head_aligned (entry xs) count (entry free) (entry counts) (noted numbers) laid i few some)
        (head_unused (entry xs) count (entry free) (entry counts) (noted numbers) laid i few some)
        (noted_here new numbers (entry free i) s e) (λ b n. noted_other new numbers (entry free i) s b e n) (λ b k n p q. refl)

  -- a block is given back to a list
  module _ (b i : ℕ) (few : i < 6) (len : length free ≡ 6) (many : length counts ≡ 6) (long : count ≡ length xs) (some : b ≢ 0) (size : noted numbers b ≡ free_size i) (new : List ℕ) (e : new ≡ b ∷ 0 ∷ numbers) where
    in_use : 0 < noted numbers b
    in_use = let p = width_some i in omega (arith, size, p)

    here : get_or (set xs b (entry free i)) b 0 ≡ entry free i
    here = let w = used_within (entry xs) count (entry free) (entry counts) (noted numbers) laid b in_use in get_or-set_same xs b (entry free i) 0 (omega (arith, w, in_use, long))

    pub push_laid : (more : List ℕ) → more ≡ set counts i (entry counts i + 1) → ∥ IsLaid (entry (set xs b (entry free i))) count (entry (set free i b)) (entry more) (noted new) ∥₁
    push_laid more is = ∥∥₁_map laid (λ w. laid_push (entry xs) count (entry free) (entry counts) (noted numbers) w (entry (set xs b (entry free i))) (entry (set free i b)) (entry more) (noted new) i b few some size
        here (λ k n. get_or-set_other xs b k (entry free i) 0 n)
        (get_or-set_same free i b 0 (omega (arith, len, few))) (λ j n. get_or-set_other free i j b 0 n)
        (ap (λ l. entry l i) is ∙ get_or-set_same counts i (entry counts i + 1) 0 (omega (arith, many, few))) (λ j n. ap (λ l. entry l j) is ∙ get_or-set_other counts i j (entry counts i + 1) 0 n)
        (noted_here new numbers b 0 e) (λ a n. noted_other new numbers b 0 a e n))

    pub push_given : IsFreed (heap (entry xs) (noted numbers)) (heap (entry (set xs b (entry free i))) (noted new)) b
    push_given = heap_given (entry xs) (entry (set xs b (entry free i))) (noted numbers) (noted new) b
        (noted_here new numbers b 0 e) (λ a n. noted_other new numbers b 0 a e n)
        (λ c k n p q. get_or-set_other xs b k (entry free i) 0 (λ z. apart b 0 c k in_use n p q (omega (arith, z))))

  -- a block becomes two
  module _ (b s : ℕ) (some : 0 < s) (not_zero : b ≢ 0) (size : noted numbers b ≡ s + s) (mid new : List ℕ) (d : mid ≡ b ∷ s ∷ numbers) (e : new ≡ (b + s) ∷ s ∷ mid) where
    low : noted new b ≡ s
    low = noted_other new mid (b + s) s b e (λ x. omega (arith, x, some)) ∙ noted_here mid numbers b s d

    others : (a : ℕ) → a ≢ b → a ≢ b + s → noted new a ≡ noted numbers a
    others a n m = noted_other new mid (b + s) s a e m ∙ noted_other mid numbers b s a d n

    pub split_laid : ∥ IsLaid (entry xs) count (entry free) (entry counts) (noted new) ∥₁
    split_laid = ∥∥₁_map laid (λ w. laid_split (entry xs) count (entry free) (entry counts) (noted numbers) w (noted new) b s not_zero some size low (noted_here new mid (b + s) s e) others)

    pub split_here : IsSplit (heap (entry xs) (noted numbers)) (heap (entry xs) (noted new)) b s
    split_here = heap_split (entry xs) (noted numbers) (noted new) b s some size low
        (upper_unused (entry xs) count (entry free) (entry counts) (noted numbers) laid b s some size) (noted_here new mid (b + s) s e) others

  -- a block lies behind the others
  module _ (ys : List ℕ) (p s : ℕ) (there : p ≡ count) (some : 0 < s) (fits : count % s ≡ 0) (same : (k : ℕ) → k < count → entry ys k ≡ entry xs k) (new : List ℕ) (e : new ≡ p ∷ s ∷ numbers) where
    now : noted new count ≡ s
    now = ap (noted new) (sym there) ∙ noted_here new numbers p s e

    others' : (a : ℕ) → a ≢ count → noted new a ≡ noted numbers a
    others' a n = noted_other new numbers p s a e (λ x. n (x ∙ there))

    pub grow_laid : (count' : ℕ) → count' ≡ count + s → ∥ IsLaid (entry ys) count' (entry free) (entry counts) (noted new) ∥₁
    grow_laid count' more = ∥∥₁_map laid (λ w. laid_grow (entry xs) count (entry free) (entry counts) (noted numbers) w (entry ys) (noted new) count' s some fits more same now others')

    pub grow_taken : IsAllocated (heap (entry xs) (noted numbers)) (heap (entry ys) (noted new)) p s
    grow_taken =
        let z = zero_used (entry xs) count (entry free) (entry counts) (noted numbers) laid in
        let w = used_within (entry xs) count (entry free) (entry counts) (noted numbers) laid 0 (omega (arith, z)) in
        heap_taken (entry xs) (entry ys) (noted numbers) (noted new) p s (λ x. omega (arith, x, z, w, there)) (ap (λ x. x % s) there ∙ fits)
        (ap (noted numbers) there ∙ beyond_unused (entry xs) count (entry free) (entry counts) (noted numbers) laid)
        (noted_here new numbers p s e) (λ a n. noted_other new numbers p s a e n)
        (λ b k n l m. let u = used_within (entry xs) count (entry free) (entry counts) (noted numbers) laid b (omega (arith, l, m)) in same k (omega (arith, u, m)))
