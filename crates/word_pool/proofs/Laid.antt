-- What the layout of a pool keeps when a block is taken, given back, split, written or added.
use Rattle.std.proofs.Common.{ℕ, ◌≡◌, ◌≢◌, ◌⊎◌, inl, inr, ⊎_elim, ◌+◌, ◌*◌, ◌%◌, ◌/◌, ◌-◌, ◌<◌, ◌≤◌, arith, refl, sym, ap, ◌∙◌, cond, eqb, pow_pos}
use Rattle.std.proofs.Math.Logic.{∥∥₁_elim}
use Rattle.std.proofs.Math.Nat.{ℕ_set, div-add-mod, add-mul, mul-add, mul-one, mul-mod_right, add-mul-mod_self_left, zero-mod}
use Rattle.std.specs.Coded.{le_prop}
use Rattle.std.proofs.lemmas.Bool.{cases_eq, cases_lt, eq-eqb, ne_eqb}
use Rattle.word_pool.specs.Layout.{free_size, IsLaid}

-- a function with one value changed
put : {A : Type 0} → (ℕ → A) → ℕ → A → ℕ → A
put f i v j = cond (eqb j i) v (f j)

put_same : {A : Type 0} (f : ℕ → A) (i : ℕ) (v : A) (j : ℕ) → j ≡ i → put f i v j ≡ v
unfolding put
put_same f i v j e = ap (λ b. cond b v (f j)) (eq-eqb j i e)

put_other : {A : Type 0} (f : ℕ → A) (i : ℕ) (v : A) (j : ℕ) → j ≢ i → put f i v j ≡ f j
unfolding put
put_other f i v j n = ap (λ b. cond b v (f j)) (ne_eqb j i n)

-- what lies at a multiple of twice a size lies at a multiple of it, as does what lies behind it
pub mod_halves : (b s : ℕ) → b % (s + s) ≡ 0 → (b % s ≡ 0) × ((b + s) % s ≡ 0)
mod_halves b s h =
    let q = b / (s + s) in
    let e : s * (q + q) ≡ b = omega (arith, div-add-mod b (s + s), h, add-mul s s q, mul-add s q q) in
    let low : b % s ≡ 0 = ap (λ x. x % s) (sym e) ∙ mul-mod_right s (q + q) in
    (low, ap (λ x. (b + x) % s) (sym (mul-one s)) ∙ add-mul-mod_self_left b s 1 ∙ low)

pub width_some : (i : ℕ) → 0 < free_size i
width_some i = omega (arith, pow_pos i)

module _ (words : ℕ → ℕ) (count : ℕ) (first many used : ℕ → ℕ) (w : IsLaid words count first many used) where
  -- a block in use is a block
  sized : (b : ℕ) → 0 < used b → 0 < w.size b
  sized b p = let e = w.in_use b p in omega (arith, e, p)

  -- a free one too
  free_sized : (i h : ℕ) → h < many i → 0 < w.size (w.place i (h + 1))
  free_sized i h l = let e = w.free i h l in let p = width_some i in omega (arith, e, p)

  -- two blocks with a place in common are one
  one_block : (a b k : ℕ) → 0 < w.size a → 0 < w.size b → a ≤ k → k < a + w.size a → b ≤ k → k < b + w.size b → a ≡ b
  one_block a b k p q l m n o = ⊎_elim
      (λ x. w.apart a b p q (omega arith) (omega arith))
      (λ x. sym (w.apart b a q p (omega arith) (omega arith)))
      (cases_lt a b)

  -- a free block does not begin in a block in use
  free_apart : (b k i h : ℕ) → 0 < used b → b ≤ k → k < b + used b → h < many i → w.place i (h + 1) ≢ k
  free_apart b k i h p l m n e =
      let s = w.in_use b p in
      let f = free_sized i h n in
      let o = one_block b (w.place i (h + 1)) k (sized b p) f l (omega (arith, s, m)) (omega (arith, e)) (omega (arith, e, f)) in
      let z = ap used o ∙ w.unused i h n in omega (arith, z, p)

  -- the block at 0 lies apart from others
  zero_apart : (b k : ℕ) → b ≢ 0 → 0 < w.size b → b ≤ k → k < b + w.size b → 4 ≤ k
  zero_apart b k n p l m = ⊎_elim
      (λ x. let z = w.zero_used in let s = w.in_use 0 (omega (arith, z)) in
      let o = one_block b 0 k p (omega (arith, s, z)) l m (omega arith) (omega (arith, s, z, x)) in absurd (n o))
      (λ x. x) (cases_lt k 4)

  -- two blocks in use share no place
  used_apart : (a b k : ℕ) → a ≢ b → 0 < used a → 0 < used b → a ≤ k → k < a + used a → b ≤ k → k < b + used b → ⊥
  used_apart a b k n p q l m o r =
      let s = w.in_use a p in let t = w.in_use b q in
      n (one_block a b k (sized a p) (sized b q) l (omega (arith, s, m)) o (omega (arith, t, r)))

  -- the words of a block that is in use, but the one at 0, may be written
  pub laid_set : (words' : ℕ → ℕ) (b k : ℕ) → b ≢ 0 → 0 < used b → b ≤ k → k < b + used b → ((j : ℕ) → j ≢ k → words' j ≡ words j) → IsLaid words' count first many used
  laid_set words' b k n p l m same = record {
    size = w.size;
    within = w.within;
    aligned = w.aligned;
    apart = w.apart;
    in_use = w.in_use;
    place = w.place;
    head = w.head;
    last = w.last;
    link = λ i h x. same (w.place i (h + 1)) (free_apart b k i h p l m x) ∙ w.link i h x;
    free = w.free;
    unused = w.unused;
    distinct = w.distinct;
    zero_used = w.zero_used;
    zeros = λ j x. same j (λ e. let s = w.in_use b p in let z = zero_apart b k n (sized b p) l (omega (arith, s, m)) in omega (arith, z, e, x)) ∙ w.zeros j x;
  }

  -- a list that names a block has one
  pub some_of_list : (i : ℕ) → i < 6 → first i ≢ 0 → 0 < many i
  some_of_list i l n = ⊎_elim (λ p. p)
      (λ p. let e : many i ≡ 0 = omega arith in absurd (n (w.head i l ∙ ap (w.place i) e ∙ w.last i)))
      (cases_lt 0 (many i))

  -- the first block of a list is in use now
  module _ (first' many' used' : ℕ → ℕ) (i : ℕ) (few : i < 6) (some : first i ≢ 0) (next : first' i ≡ words (first i)) (lists : (j : ℕ) → j ≢ i → first' j ≡ first j)
      (less : many i ≡ many' i + 1) (counts : (j : ℕ) → j ≢ i → many' j ≡ many j) (now : used' (first i) ≡ free_size i) (others : (b : ℕ) → b ≢ first i → used' b ≡ used b) where
    taken : first i ≡ w.place i (many' i + 1)
    taken = w.head i few ∙ ap (w.place i) less

    -- a list has now as many as it had, or is the one that lost its first block
    fewer : (j h : ℕ) → h < many' j → (h < many j) × (j ≡ i → h < many' i)
    fewer j h l = ⊎_elim
        (λ e. let p = ap many' e in let q = ap many e in (omega (arith, l, p, q, less), λ _. omega (arith, l, p)))
        (λ n. let p = counts j n in (omega (arith, l, p), λ e. absurd (n e))) (cases_eq j i)

    -- what is left in the lists is not the block that was taken
    other : (j h : ℕ) → h < many' j → w.place j (h + 1) ≢ first i
    other j h l e =
        let f = fewer j h l in
        let d = w.distinct j i h (many' i) f.0 (omega (arith, less)) (e ∙ taken) in
        let b = f.1 d.0 in omega (arith, b, d.1)

    pub laid_pop : IsLaid words count first' many' used'
    laid_pop = record {
      size = w.size;
      within = w.within;
      aligned = w.aligned;
      apart = w.apart;
      in_use = λ b p. ⊎_elim
          (λ e. ap w.size (e ∙ taken) ∙ w.free i (many' i) (omega (arith, less)) ∙ sym (ap used' e ∙ now))
          (λ n. let o = others b n in w.in_use b (omega (arith, o, p)) ∙ sym o) (cases_eq b (first i));
      place = w.place;
      head = λ j l. ⊎_elim
          (λ e. ap first' e ∙ next ∙ ap words taken ∙ w.link i (many' i) (omega (arith, less)) ∙ ap (λ x. w.place x (many' x)) (sym e))
          (λ n. lists j n ∙ w.head j l ∙ sym (ap (w.place j) (counts j n))) (cases_eq j i);
      last = w.last;
      link = λ j h l. w.link j h (fewer j h l).0;
      free = λ j h l. w.free j h (fewer j h l).0;
      unused = λ j h l. others (w.place j (h + 1)) (other j h l) ∙ w.unused j h (fewer j h l).0;
      distinct = λ j k g h l m e. w.distinct j k g h (fewer j g l).0 (fewer k h m).0 e;
      zero_used = others 0 (λ e. some (sym e)) ∙ w.zero_used;
      zeros = w.zeros;
    }

  -- a block in use is the first of a list now
  module _ (words' first' many' used' : ℕ → ℕ) (i b : ℕ) (few : i < 6) (some : b ≢ 0) (size : used b ≡ free_size i) (next : words' b ≡ first i) (same : (k : ℕ) → k ≢ b → words' k ≡ words k)
      (now : first' i ≡ b) (lists : (j : ℕ) → j ≢ i → first' j ≡ first j) (more : many' i ≡ many i + 1) (counts : (j : ℕ) → j ≢ i → many' j ≡ many j) (gone : used' b ≡ 0) (others : (a : ℕ) → a ≢ b → used' a ≡ used a) where
    place' : ℕ → ℕ → ℕ
    place' = put w.place i (put (w.place i) (many i + 1) b)

    in_use : 0 < used b
    in_use = let p = width_some i in omega (arith, size, p)

    -- a list has the blocks that it had, and the new one
    longer : (j h : ℕ) → h < many' j → ((j ≡ i) × (h ≡ many i)) ⊎ (h < many j)
    longer j h l = ⊎_elim
        (λ e. let p = ap many' e in let q = ap many e in
        ⊎_elim (λ x. inr (omega (arith, x, q))) (λ x. inl (e, omega (arith, x, l, p, more))) (cases_lt h (many i)))
        (λ n. let p = counts j n in inr (omega (arith, p, l))) (cases_eq j i)

    new_place : (j h : ℕ) → j ≡ i → h ≡ many i → place' j (h + 1) ≡ b
    unfolding place'
    new_place j h e f = ap (λ p. p (h + 1)) (put_same w.place i (put (w.place i) (many i + 1) b) j e) ∙ put_same (w.place i) (many i + 1) b (h + 1) (omega (arith, f))

    old_place : (j h : ℕ) → h ≤ many j → place' j h ≡ w.place j h
    unfolding place'
    old_place j h l = ⊎_elim
        (λ e. let q = ap many e in ap (λ p. p h) (put_same w.place i (put (w.place i) (many i + 1) b) j e)
        ∙ put_other (w.place i) (many i + 1) b h (λ x. omega (arith, l, q, x)) ∙ ap (λ x. w.place x h) (sym e))
        (λ n. ap (λ p. p h) (put_other w.place i (put (w.place i) (many i + 1) b) j n)) (cases_eq j i)

    -- the blocks that were free are not the new one
    other' : (j h : ℕ) → h < many j → w.place j (h + 1) ≢ b
    other' j h l e = let u = w.unused j h l in let z = ap used e in omega (arith, u, z, in_use)

    pub laid_push : IsLaid words' count first' many' used'
    laid_push = record {
      size = w.size;
      within = w.within;
      aligned = w.aligned;
      apart = w.apart;
      in_use = λ a p. ⊎_elim (λ e. let z = ap used' e in absurd (omega (arith, z, gone, p)))
          (λ n. let o = others a n in w.in_use a (omega (arith, o, p)) ∙ sym o) (cases_eq a b);
      place = place';
      head = λ j l. ⊎_elim
          (λ e. ap first' e ∙ now ∙ sym (new_place j (many i) e refl) ∙ sym (ap (place' j) (ap many' e ∙ more)))
          (λ n. lists j n ∙ w.head j l ∙ sym (old_place j (many j) (omega arith)) ∙ sym (ap (place' j) (counts j n))) (cases_eq j i);
      last = λ j. old_place j 0 (omega arith) ∙ w.last j;
      link = λ j h l. ⊎_elim
          (λ x. ap words' (new_place j h x.0 x.1) ∙ next ∙ w.head i few ∙ sym (ap (λ y. w.place y h) x.0 ∙ ap (w.place i) x.1) ∙ sym (old_place j h (let q = ap many x.0 in omega (arith, q, x.1))))
          (λ x. ap words' (old_place j (h + 1) (omega (arith, x))) ∙ same (w.place j (h + 1)) (other' j h x) ∙ w.link j h x ∙ sym (old_place j h (omega (arith, x)))) (longer j h l);
      free = λ j h l. ⊎_elim
          (λ x. ap w.size (new_place j h x.0 x.1) ∙ w.in_use b in_use ∙ size ∙ sym (ap free_size x.0))
          (λ x. ap w.size (old_place j (h + 1) (omega (arith, x))) ∙ w.free j h x) (longer j h l);
      unused = λ j h l. ⊎_elim
          (λ x. ap used' (new_place j h x.0 x.1) ∙ gone)
          (λ x. ap used' (old_place j (h + 1) (omega (arith, x))) ∙ others (w.place j (h + 1)) (other' j h x) ∙ w.unused j h x) (longer j h l);
      distinct = λ j k g h l m e. ⊎_elim
          (λ x. ⊎_elim (λ y. (x.0 ∙ sym y.0, x.1 ∙ sym y.1))
          (λ y. absurd (other' k h y (sym (old_place k (h + 1) (omega (arith, y))) ∙ sym e ∙ new_place j g x.0 x.1))) (longer k h m))
          (λ x. ⊎_elim (λ y. absurd (other' j g x (sym (old_place j (g + 1) (omega (arith, x))) ∙ e ∙ new_place k h y.0 y.1)))
          (λ y. w.distinct j k g h x y (sym (old_place j (g + 1) (omega (arith, x))) ∙ e ∙ old_place k (h + 1) (omega (arith, y)))) (longer k h m)) (longer j g l);
      zero_used = others 0 (λ e. some (sym e)) ∙ w.zero_used;
      zeros = λ k l. same k (λ e. let s = w.in_use b in_use in let z = zero_apart b b some (sized b in_use) (omega arith) (omega (arith, s, in_use)) in omega (arith, z, e, l)) ∙ w.zeros k l;
    }

  -- a block in use is two now
  module _ (used' : ℕ → ℕ) (b s : ℕ) (n : b ≢ 0) (some : 0 < s) (size : used b ≡ s + s) (low : used' b ≡ s) (high : used' (b + s) ≡ s)
      (others : (a : ℕ) → a ≢ b → a ≢ b + s → used' a ≡ used a) where
    size' : ℕ → ℕ
    size' = put (put w.size b s) (b + s) s

    -- what was one block
    whole : w.size b ≡ s + s
    whole = w.in_use b (omega (arith, size, some)) ∙ size

    size'-high : (a : ℕ) → a ≡ b + s → size' a ≡ s
    unfolding size'
    size'-high a e = put_same (put w.size b s) (b + s) s a e

    size'-low : (a : ℕ) → a ≡ b → size' a ≡ s
    unfolding size'
    size'-low a e = put_other (put w.size b s) (b + s) s a (λ x. omega (arith, e, x, some)) ∙ put_same w.size b s a e

    size'-other : (a : ℕ) → a ≢ b → a ≢ b + s → size' a ≡ w.size a
    unfolding size'
    size'-other a p q = put_other (put w.size b s) (b + s) s a q ∙ put_other w.size b s a p

    -- a place is one of the two, or another
    which : (a : ℕ) → (a ≡ b) ⊎ (a ≡ b + s) ⊎ ((a ≢ b) × (a ≢ b + s))
    which a = ⊎_elim (λ e. inl e) (λ p. ⊎_elim (λ e. inr (inl e)) (λ q. inr (inr (p, q))) (cases_eq a (b + s))) (cases_eq a b)

    -- another block has no place of the two
    outside : (a k : ℕ) → a ≢ b → 0 < w.size a → a ≤ k → k < a + w.size a → b ≤ k → k < b + s + s → ⊥
    outside a k p q l m o r = p (one_block a b k q (omega (arith, whole, some)) l m o (omega (arith, whole, r)))

    apart' : (a c : ℕ) → 0 < size' a → 0 < size' c → a ≤ c → c < a + size' a → a ≡ c
    apart' a c p q l m = ⊎_elim
        (λ e. let x = size'-low a e in ⊎_elim (λ f. e ∙ sym f)
        (⊎_elim (λ f. absurd (omega (arith, e, f, x, m)))
        (λ f. let y = size'-other c f.0 f.1 in absurd (outside c c f.0 (omega (arith, y, q)) (omega arith) (omega (arith, y, q)) (omega (arith, e, l)) (omega (arith, e, x, m))))) (which c))
        (⊎_elim
        (λ e. let x = size'-high a e in ⊎_elim (λ f. absurd (omega (arith, e, f, l, some)))
        (⊎_elim (λ f. e ∙ sym f)
        (λ f. let y = size'-other c f.0 f.1 in absurd (outside c c f.0 (omega (arith, y, q)) (omega arith) (omega (arith, y, q)) (omega (arith, e, l)) (omega (arith, e, x, m))))) (which c))
        (λ e. let x = size'-other a e.0 e.1 in ⊎_elim
        (λ f. absurd (outside a c e.0 (omega (arith, x, p)) l (omega (arith, x, m)) (omega (arith, f)) (omega (arith, f, some))))
        (⊎_elim (λ f. absurd (outside a c e.0 (omega (arith, x, p)) l (omega (arith, x, m)) (omega (arith, f)) (omega (arith, f, some))))
        (λ f. let y = size'-other c f.0 f.1 in w.apart a c (omega (arith, x, p)) (omega (arith, y, q)) l (omega (arith, x, m)))) (which c)))
        (which a)

    -- the free blocks are none of the two
    free_low : (i h : ℕ) → h < many i → w.place i (h + 1) ≢ b
    free_low i h l = free_apart b b i h (omega (arith, size, some)) (omega arith) (omega (arith, size, some)) l

    free_high : (i h : ℕ) → h < many i → w.place i (h + 1) ≢ b + s
    free_high i h l = free_apart b (b + s) i h (omega (arith, size, some)) (omega arith) (omega (arith, size, some)) l

    pub laid_split : IsLaid words count first many used'
    laid_split = record {
      size = size';
      within = λ a p. let top = w.within b (omega (arith, whole, some)) in ⊎_elim (λ e. let x = size'-low a e in omega (arith, e, x, top, whole))
          (⊎_elim (λ e. let x = size'-high a e in omega (arith, e, x, top, whole)) (λ e. let x = size'-other a e.0 e.1 in let y = w.within a (omega (arith, x, p)) in omega (arith, x, y))) (which a);
      aligned = λ a p. let h = mod_halves b s (ap (λ x. b % x) (sym whole) ∙ w.aligned b (omega (arith, whole, some))) in
          ⊎_elim (λ e. ap (λ x. a % x) (size'-low a e) ∙ ap (λ x. x % s) e ∙ h.0)
          (⊎_elim (λ e. ap (λ x. a % x) (size'-high a e) ∙ ap (λ x. x % s) e ∙ h.1) (λ e. let x = size'-other a e.0 e.1 in ap (λ y. a % y) x ∙ w.aligned a (omega (arith, x, p)))) (which a);
      apart = apart';
      in_use = λ a p. ⊎_elim (λ e. size'-low a e ∙ sym (ap used' e ∙ low))
          (⊎_elim (λ e. size'-high a e ∙ sym (ap used' e ∙ high)) (λ e. let o = others a e.0 e.1 in size'-other a e.0 e.1 ∙ w.in_use a (omega (arith, o, p)) ∙ sym o)) (which a);
      place = w.place;
      head = w.head;
      last = w.last;
      link = w.link;
      free = λ i h l. size'-other (w.place i (h + 1)) (free_low i h l) (free_high i h l) ∙ w.free i h l;
      unused = λ i h l. others (w.place i (h + 1)) (free_low i h l) (free_high i h l) ∙ w.unused i h l;
      distinct = w.distinct;
      zero_used = others 0 (λ e. n (sym e)) (λ e. omega (arith, e, some)) ∙ w.zero_used;
      zeros = w.zeros;
    }

  -- a block lies behind the others
  module _ (words' used' : ℕ → ℕ) (count' s : ℕ) (some : 0 < s) (fits : count % s ≡ 0) (more : count' ≡ count + s) (same : (k : ℕ) → k < count → words' k ≡ words k) (now : used' count ≡ s)
      (others : (a : ℕ) → a ≢ count → used' a ≡ used a) where
    size'' : ℕ → ℕ
    size'' = put w.size count s

    size''-new : (a : ℕ) → a ≡ count → size'' a ≡ s
    unfolding size''
    size''-new a e = put_same w.size count s a e

    size''-other : (a : ℕ) → a ≢ count → size'' a ≡ w.size a
    unfolding size''
    size''-other a p = put_other w.size count s a p

    -- the other blocks lie below
    below : (a : ℕ) → a ≢ count → 0 < size'' a → a + size'' a ≤ count
    below a p q = let x = size''-other a p in let y = w.within a (omega (arith, x, q)) in omega (arith, x, y)

    free_below : (i h : ℕ) → h < many i → w.place i (h + 1) < count
    free_below i h l = let f = free_sized i h l in let y = w.within (w.place i (h + 1)) f in omega (arith, f, y)

    pub laid_grow : IsLaid words' count' first many used'
    laid_grow = record {
      size = size'';
      within = λ a p. ⊎_elim (λ e. let x = size''-new a e in omega (arith, e, x, more)) (λ e. let y = below a e p in omega (arith, y, more)) (cases_eq a count);
      aligned = λ a p. ⊎_elim (λ e. ap (λ x. a % x) (size''-new a e) ∙ ap (λ x. x % s) e ∙ fits) (λ e. let x = size''-other a e in ap (λ y. a % y) x ∙ w.aligned a (omega (arith, x, p))) (cases_eq a count);
      apart = λ a c p q l m. ⊎_elim
          (λ e. ⊎_elim (λ f. e ∙ sym f) (λ f. let y = below c f q in absurd (omega (arith, y, e, l, q))) (cases_eq c count))
          (λ e. let y = below a e p in ⊎_elim (λ f. absurd (omega (arith, y, f, m)))
          (λ f. let u = size''-other a e in let v = size''-other c f in w.apart a c (omega (arith, u, p)) (omega (arith, v, q)) l (omega (arith, u, m))) (cases_eq c count)) (cases_eq a count);
      in_use = λ a p. ⊎_elim (λ e. size''-new a e ∙ sym (ap used' e ∙ now)) (λ e. let o = others a e in size''-other a e ∙ w.in_use a (omega (arith, o, p)) ∙ sym o) (cases_eq a count);
      place = w.place;
      head = w.head;
      last = w.last;
      link = λ i h l. same (w.place i (h + 1)) (free_below i h l) ∙ w.link i h l;
      free = λ i h l. size''-other (w.place i (h + 1)) (λ e. let y = free_below i h l in omega (arith, y, e)) ∙ w.free i h l;
      unused = λ i h l. others (w.place i (h + 1)) (λ e. let y = free_below i h l in omega (arith, y, e)) ∙ w.unused i h l;
      distinct = w.distinct;
      zero_used = others 0 (λ e. let z = zero_within in omega (arith, z, e)) ∙ w.zero_used;
      zeros = λ k l. same k (let z = zero_within in omega (arith, z, l)) ∙ w.zeros k l;
    }
      where
        zero_within : 4 ≤ count
        zero_within = let z = w.zero_used in let e = w.in_use 0 (omega (arith, z)) in let y = w.within 0 (omega (arith, e, z)) in omega (arith, e, z, y)

-- a pool of the block of four zeros alone
pub laid_start : (words : ℕ → ℕ) (count : ℕ) (first many used : ℕ → ℕ) → 4 ≤ count → ((k : ℕ) → k < 4 → words k ≡ 0) → ((i : ℕ) → i < 6 → first i ≡ 0) → ((i : ℕ) → many i ≡ 0) → used 0 ≡ 4 → ((b : ℕ) → b ≢ 0 → used b ≡ 0)
    → IsLaid words count first many used
laid_start words count first many used four zeros none empty zero others =
    let only : (b : ℕ) → 0 < used b → b ≡ 0 = λ b p. ⊎_elim (λ e. e) (λ n. let z = others b n in absurd (omega (arith, z, p))) (cases_eq b 0) in
    record {
      size = used;
      within = λ b p. let e = only b p in let z = ap used e in omega (arith, e, z, zero, four);
      aligned = λ b p. ap (λ x. x % used b) (only b p) ∙ zero-mod (used b);
      apart = λ a b p q l m. only a p ∙ sym (only b q);
      in_use = λ b p. refl;
      place = λ i h. 0;
      head = none;
      last = λ i. refl;
      link = λ i h l. let e = empty i in absurd (omega (arith, e, l));
      free = λ i h l. let e = empty i in absurd (omega (arith, e, l));
      unused = λ i h l. let e = empty i in absurd (omega (arith, e, l));
      distinct = λ i j g h l m e. let z = empty i in absurd (omega (arith, z, l));
      zero_used = zero;
      zeros = zeros;
    }

-- what follows where there is some layout
no_proof : (x y : ⊥) → x ≡ y
no_proof x y = absurd x

module _ (words : ℕ → ℕ) (count : ℕ) (first many used : ℕ → ℕ) (laid : ∥ IsLaid words count first many used ∥₁) where
  pub used_within : (b : ℕ) → 0 < used b → b + used b ≤ count
  used_within b p = ∥∥₁_elim laid le_prop (λ w. let e = w.in_use b p in let y = w.within b (omega (arith, e, p)) in omega (arith, e, y))

  pub used_disjoint : (a b k : ℕ) → a ≢ b → 0 < used a → 0 < used b → a ≤ k → k < a + used a → b ≤ k → k < b + used b → ⊥
  used_disjoint a b k n p q l m o r = ∥∥₁_elim laid no_proof (λ w. used_apart words count first many used w a b k n p q l m o r)

  pub head_some : (i : ℕ) → i < 6 → first i ≢ 0 → 0 < many i
  head_some i l n = ∥∥₁_elim laid le_prop (λ w. some_of_list words count first many used w i l n)

  pub head_none : (i : ℕ) → i < 6 → first i ≡ 0 → many i ≡ 0
  head_none i l e = ∥∥₁_elim laid (ℕ_set _ _) (λ w. ⊎_elim
      (λ p. let h : many i ≡ many i - 1 + 1 = omega arith in
      let u = w.unused i (many i - 1) (omega arith) in
      let z = ap used (sym (ap (w.place i) h) ∙ sym (w.head i l) ∙ e) ∙ w.zero_used in absurd (omega (arith, u, z)))
      (λ p. omega arith) (cases_lt 0 (many i)))

  -- the first block of a list, by its number
  headed : (w : IsLaid words count first many used) (i : ℕ) → i < 6 → first i ≢ 0 → (first i ≡ w.place i (many i - 1 + 1)) × (many i - 1 < many i)
  headed w i l n = let p = some_of_list words count first many used w i l n in let e : many i ≡ many i - 1 + 1 = omega arith in (w.head i l ∙ ap (w.place i) e, omega arith)

  pub head_unused : (i : ℕ) → i < 6 → first i ≢ 0 → used (first i) ≡ 0
  head_unused i l n = ∥∥₁_elim laid (ℕ_set _ _) (λ w. let f = headed w i l n in ap used f.0 ∙ w.unused i (many i - 1) f.1)

  pub head_within : (i : ℕ) → i < 6 → first i ≢ 0 → first i + free_size i ≤ count
  head_within i l n = ∥∥₁_elim laid le_prop (λ w. let f = headed w i l n in
      let s = w.free i (many i - 1) f.1 in let p = width_some i in let y = w.within (w.place i (many i - 1 + 1)) (omega (arith, s, p)) in omega (arith, f.0, s, y))

  pub head_aligned : (i : ℕ) → i < 6 → first i ≢ 0 → first i % free_size i ≡ 0
  head_aligned i l n = ∥∥₁_elim laid (ℕ_set _ _) (λ w. let f = headed w i l n in
      let s = w.free i (many i - 1) f.1 in let p = width_some i in
      ap (λ x. x % free_size i) f.0 ∙ ap (λ x. w.place i (many i - 1 + 1) % x) (sym s) ∙ w.aligned (w.place i (many i - 1 + 1)) (omega (arith, s, p)))

  pub upper_unused : (b s : ℕ) → 0 < s → used b ≡ s + s → used (b + s) ≡ 0
  upper_unused b s p e = ⊎_elim
      (λ x. absurd (used_disjoint (b + s) b (b + s) (λ y. omega (arith, y, p)) x (omega (arith, e, p)) (omega arith) (omega (arith, x)) (omega arith) (omega (arith, e, p))))
      (λ x. omega (arith, x)) (cases_lt 0 (used (b + s)))

  pub beyond_unused : used count ≡ 0
  beyond_unused = ⊎_elim (λ x. let y = used_within count x in absurd (omega (arith, x, y))) (λ x. omega (arith, x)) (cases_lt 0 (used count))

  pub zero_used : used 0 ≡ 4
  zero_used = ∥∥₁_elim laid (ℕ_set _ _) (λ w. w.zero_used)

  pub zero_word : (k : ℕ) → k < 4 → words k ≡ 0
  zero_word k l = ∥∥₁_elim laid (ℕ_set _ _) (λ w. w.zeros k l)

-- a free block lies behind the others
module _ (words : ℕ → ℕ) (count : ℕ) (first many used first' many' : ℕ → ℕ) (i s : ℕ) (w : IsLaid words count first many used) (few : i < 6) (size : s ≡ free_size i) (fits : count % s ≡ 0)
    (next : words count ≡ first i) (now : first' i ≡ count) (lists : (j : ℕ) → j ≢ i → first' j ≡ first j) (more : many' i ≡ many i + 1) (counts : (j : ℕ) → j ≢ i → many' j ≡ many j) where
  pub laid_more : IsLaid words (count + s) first' many' used
  laid_more =
      let p = width_some i in
      let z = w.zero_used in
      let e = w.in_use 0 (omega (arith, z)) in
      let y = w.within 0 (omega (arith, e, z)) in
      let grown = laid_grow words count first many used w words (put used count s) (count + s) s (omega (arith, size, p)) fits refl (λ k l. refl) (put_same used count s count refl) (λ a n. put_other used count s a n) in
      laid_push words (count + s) first many (put used count s) grown words first' many' used i count few (λ x. omega (arith, x, y, e, z)) (put_same used count s count refl ∙ size) next (λ k n. refl)
      now lists more counts (beyond_unused words count first many used ∣ w ∣₁) (λ a n. sym (put_other used count s a n))
