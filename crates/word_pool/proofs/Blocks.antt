-- The words of a block, and what stays of them where words are written.
use Rattle.std.proofs.Common.{ℕ, zero, suc, ◌≡◌, ◌≢◌, ◌+◌, ◌%◌, ◌<◌, ◌≤◌, List, [], ◌∷◌, length, take, set, get_or, Option, Some, None, arith, refl, sym, ap, ◌∙◌, cond, eq-eqb, ne_eqb}
use Rattle.word_pool.specs.Heap.{size_of, word_of, with_word, shortened, IsAllocated, IsFreed, IsWordWritten, IsSplit}
use Rattle.word_pool.specs.{Layout.noted, Pool.read, Pool.sized_block}

-- the block that was noted last has the size
pub noted_here : (new rest : List ℕ) (p size : ℕ) → new ≡ p ∷ size ∷ rest → noted new p ≡ size
unfolding noted
noted_here new rest p size e = ap (λ ns. noted ns p) e ∙ ap (λ b. cond b size (noted rest p)) (eq-eqb p p refl)

-- the others keep theirs
pub noted_other : (new rest : List ℕ) (p size b : ℕ) → new ≡ p ∷ size ∷ rest → b ≢ p → noted new b ≡ noted rest b
unfolding noted
noted_other new rest p size b e n = ap (λ ns. noted ns b) e ∙ ap (λ x. cond x size (noted rest b)) (ne_eqb p b (λ x. n (sym x)))

-- at the start there is only the block at 0
pub noted_start : (numbers : List ℕ) (b : ℕ) → numbers ≡ 0 ∷ 4 ∷ [] → b ≢ 0 → noted numbers b ≡ 0
unfolding noted
noted_start numbers b e n = noted_other numbers [] 0 4 b e n

-- where the words stay, what is read stays
read_same : (f g : ℕ → ℕ) (b n : ℕ) → ((k : ℕ) → b ≤ k → k < b + n → g k ≡ f k) → read g b n ≡ read f b n
unfolding read
read_same f g b zero same = refl
read_same f g b (suc n) same =
    ap (λ x. x ∷ read g (b + 1) n) (same b (omega arith) (omega arith))
    ∙ ap (λ xs. f b ∷ xs) (read_same f g (b + 1) n (λ k l h. same k (omega arith) (omega arith)))

length-read : (f : ℕ → ℕ) (b n : ℕ) → length (read f b n) ≡ n
unfolding read
length-read f b zero = refl
length-read f b (suc n) = omega (arith, length-read f (b + 1) n)

read_at : (f : ℕ → ℕ) (b n i : ℕ) → i < n → get_or (read f b n) i 0 ≡ f (b + i)
unfolding read
read_at f b zero i l = absurd (omega arith)
read_at f b (suc n) zero l = let e : b ≡ b + zero = omega arith in ap f e
read_at f b (suc n) (suc i) l = let e : b + 1 + i ≡ b + suc i = omega arith in read_at f (b + 1) n i (omega arith) ∙ ap f e

read_take : (f : ℕ → ℕ) (b m n : ℕ) → m ≤ n → read f b m ≡ take m (read f b n)
unfolding read
read_take f b zero n l = refl
read_take f b (suc m) zero l = absurd (omega arith)
read_take f b (suc m) (suc n) l = ap (λ xs. f b ∷ xs) (read_take f (b + 1) m n (omega arith))

read_set : (f g : ℕ → ℕ) (b n i v : ℕ) → i < n → g (b + i) ≡ v → ((k : ℕ) → k ≢ b + i → g k ≡ f k) → read g b n ≡ set (read f b n) i v
unfolding read
read_set f g b zero i v l e same = absurd (omega arith)
read_set f g b (suc n) zero v l e same =
    let z : b ≡ b + zero = omega arith in
    ap (λ x. x ∷ read g (b + 1) n) (ap g z ∙ e) ∙ ap (λ xs. v ∷ xs) (read_same f g (b + 1) n (λ k p q. same k (λ x. omega arith)))
read_set f g b (suc n) (suc i) v l e same =
    let z : b + 1 + i ≡ b + suc i = omega arith in
    ap (λ x. x ∷ read g (b + 1) n) (same b (λ x. omega arith))
    ∙ ap (λ xs. f b ∷ xs) (read_set f g (b + 1) n i v (omega arith) (ap g z ∙ e) (λ k p. same k (λ x. p (omega arith))))

-- where its words stay, a block stays
pub block_same : (f g : ℕ → ℕ) (b s : ℕ) → ((k : ℕ) → b ≤ k → k < b + s → g k ≡ f k) → sized_block g b s ≡ sized_block f b s
unfolding sized_block
block_same f g b zero same = refl
block_same f g b (suc n) same = ap Some (read_same f g b (suc n) same)

-- it has as many words as its size says
pub size-sized_block : (f : ℕ → ℕ) (b s : ℕ) → size_of (sized_block f b s) ≡ s
unfolding sized_block
size-sized_block f b zero = refl
size-sized_block f b (suc n) = length-read f b (suc n)

pub word-sized_block : (f : ℕ → ℕ) (b s i : ℕ) → i < s → word_of (sized_block f b s) i ≡ f (b + i)
unfolding sized_block
word-sized_block f b zero i l = absurd (omega arith)
word-sized_block f b (suc n) i l = read_at f b (suc n) i l

-- one of its words is written
block_set : (f g : ℕ → ℕ) (b s i v : ℕ) → i < s → g (b + i) ≡ v → ((k : ℕ) → k ≢ b + i → g k ≡ f k) → sized_block g b s ≡ with_word (sized_block f b s) i v
unfolding sized_block
block_set f g b zero i v l e same = absurd (omega arith)
block_set f g b (suc n) i v l e same = ap Some (read_set f g b (suc n) i v l e same)

-- a smaller block at its place has its first words
block_first : (f : ℕ → ℕ) (b m s : ℕ) → 0 < m → m ≤ s → sized_block f b m ≡ shortened (sized_block f b s) m
unfolding sized_block
block_first f b zero s p l = absurd (omega arith)
block_first f b (suc m) zero p l = absurd (omega arith)
block_first f b (suc m) (suc n) p l = ap Some (read_take f b (suc m) (suc n) l)

-- a block of no words is not there
pub block_none : (f : ℕ → ℕ) (b s : ℕ) → s ≡ 0 → sized_block f b s ≡ None
unfolding sized_block
block_none f b s e = ap (λ x. sized_block f b x) e

-- the blocks in use whose sizes are `used`
abbrev pub heap : (ℕ → ℕ) → (ℕ → ℕ) → ℕ → Option (List ℕ)
heap words used b = sized_block words b (used b)

module _ (f g u v : ℕ → ℕ) where
  -- blocks keep their sizes and words
  pub heap_same : (b : ℕ) → v b ≡ u b → ((k : ℕ) → b ≤ k → k < b + u b → g k ≡ f k) → heap g v b ≡ heap f u b
  heap_same b e same = ap (λ s. sized_block g b s) e ∙ block_same f g b (u b) same

  -- a block has a size now
  pub heap_taken : (p s : ℕ) → p ≢ 0 → p % s ≡ 0 → u p ≡ 0 → v p ≡ s → ((b : ℕ) → b ≢ p → v b ≡ u b) → ((b k : ℕ) → b ≢ p → b ≤ k → k < b + u b → g k ≡ f k)
      → IsAllocated (heap f u) (heap g v) p s
  heap_taken p s some fits none size others same = record {
    not_zero = some;
    fresh = block_none f p (u p) none;
    aligned = fits;
    sized = size-sized_block g p (v p) ∙ size;
    others = λ b n. heap_same b (others b n) (λ k l h. same b k n l h);
  }

  -- a block has no size now
  pub heap_given : (p : ℕ) → v p ≡ 0 → ((b : ℕ) → b ≢ p → v b ≡ u b) → ((b k : ℕ) → b ≢ p → b ≤ k → k < b + u b → g k ≡ f k) → IsFreed (heap f u) (heap g v) p
  heap_given p none others same = record {
    gone = block_none g p (v p) none;
    others = λ b n. heap_same b (others b n) (λ k l h. same b k n l h);
  }

  -- a word of a block is written
  pub heap_written : (p i w : ℕ) → i < u p → v p ≡ u p → ((b : ℕ) → b ≢ p → v b ≡ u b) → g (p + i) ≡ w → ((k : ℕ) → k ≢ p + i → g k ≡ f k)
      → ((b k : ℕ) → b ≢ p → b ≤ k → k < b + u b → k ≢ p + i) → IsWordWritten (heap f u) (heap g v) p i w
  heap_written p i w l size others here stays same = record {
    here = ap (λ s. sized_block g p s) size ∙ block_set f g p (u p) i w l here stays;
    others = λ b n. heap_same b (others b n) (λ k x y. stays k (same b k n x y));
  }

-- a block has two sizes now
pub heap_split : (f u v : ℕ → ℕ) (p s : ℕ) → 0 < s → u p ≡ s + s → v p ≡ s → u (p + s) ≡ 0 → v (p + s) ≡ s → ((b : ℕ) → b ≢ p → b ≢ p + s → v b ≡ u b)
    → IsSplit (heap f u) (heap f v) p s
heap_split f u v p s some size low none high others = record {
  here = ap (λ x. sized_block f p x) low ∙ block_first f p s (u p) some (omega arith);
  fresh = block_none f (p + s) (u (p + s)) none;
  upper = size-sized_block f (p + s) (v (p + s)) ∙ high;
  others = λ b n m. ap (λ x. sized_block f b x) (others b n m);
}
