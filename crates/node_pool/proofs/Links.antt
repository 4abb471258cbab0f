-- What the lists of free blocks keep when a block is taken or given back.
use Rattle.std.proofs.Common.{ℕ, zero, suc, ◌≡◌, ◌≢◌, ◌⊎◌, inl, inr, ⊎_elim, ◌+◌, ◌-◌, ◌<◌, ◌≤◌, List, length, set, is_some, true, false, cond, eqb, arith, sym, ap, subst, ◌∙◌, get_or-set_same, get_or-set_other}
use Rattle.std.proofs.lemmas.Bool.{cases_eq, cases_lt, false≢true, eq-eqb, ne_eqb}
use Rattle.node_pool.specs.Cell.{cell_at, at, next_free, value_of, IsFilled}
use Rattle.node_pool.specs.FreeLists.{free_list, count_at, InBlock, IsLinked}
use Rattle.node_pool.specs.{declared.cells.Cell.Cell, declared.cells.FreeList.FreeList, declared.cells.Cell.TheVariants.Free}

-- the numbers of `f`, with `last` in place of the number `m`
lowered : (ℕ → ℕ) → ℕ → ℕ → ℕ → ℕ
lowered f m last i = cond (eqb (f i) m) last (f i)

-- a number is `m` and replaced, or stays
lowered-cases : (f : ℕ → ℕ) (m last i : ℕ) → ((f i ≡ m) × (lowered f m last i ≡ last)) ⊎ ((f i ≢ m) × (lowered f m last i ≡ f i))
unfolding lowered
lowered-cases f m last i = ⊎_elim
    (λ e. inl (e, ap (λ b. cond b last (f i)) (eq-eqb (f i) m e)))
    (λ n. inr (n, ap (λ b. cond b last (f i)) (ne_eqb (f i) m n)))
    (cases_eq (f i) m)

-- numbers below `m`, no two equal, are at most `m`
pub few_below : (n m : ℕ) (f : ℕ → ℕ) → ((i : ℕ) → i < n → f i < m) → ((i j : ℕ) → i < n → j < n → f i ≡ f j → i ≡ j) → n ≤ m
few_below zero m f below same = omega arith
few_below (suc n) zero f below same = let l = below 0 (omega arith) in absurd (omega (arith, l))
few_below (suc n) (suc m) f below same =
    let g = lowered f m (f n) in
    let low : (i : ℕ) → i < n → g i < m = λ i l. let b = below i (omega arith) in let top = below n (omega arith) in ⊎_elim
    (λ e. ⊎_elim (λ t. let s = same i n (omega arith) (omega arith) (e.0 ∙ sym t) in absurd (omega (arith, l, s))) (λ t. omega (arith, e.1, top, t)) (cases_eq (f n) m))
    (λ e. omega (arith, e.0, e.1, b)) (lowered-cases f m (f n) i) in
    let apart : (i j : ℕ) → i < n → j < n → g i ≡ g j → i ≡ j = λ i j l k e. ⊎_elim
    (λ p. ⊎_elim (λ q. same i j (omega arith) (omega arith) (p.0 ∙ sym q.0))
    (λ q. let s = same n j (omega arith) (omega arith) (sym p.1 ∙ e ∙ q.1) in absurd (omega (arith, s, k))) (lowered-cases f m (f n) j))
    (λ p. ⊎_elim (λ q. let s = same i n (omega arith) (omega arith) (sym p.1 ∙ e ∙ q.1) in absurd (omega (arith, s, l)))
    (λ q. same i j (omega arith) (omega arith) (sym p.1 ∙ e ∙ q.1)) (lowered-cases f m (f n) j))
    (lowered-cases f m (f n) i) in
    let r = few_below n m g low apart in omega (arith, r)

module _ {T : Type 0} where
  -- cells that are free keep what they have, so the lists stay
  pub linked_stays : (xs ys : List (Cell T)) (lists : List FreeList) → length xs ≤ length ys
      → ((k : ℕ) → k < length xs → is_some (at xs k) ≡ false → cell_at ys k ≡ cell_at xs k)
      → IsLinked xs lists → IsLinked ys lists
  linked_stays xs ys lists len same w =
      let keeps : (i h k : ℕ) → h < count_at lists i → InBlock (w.base_of i h) i k → cell_at ys k ≡ cell_at xs k
      = λ i h k l b. let e = w.within i h l in same k (omega (arith, e, b.1)) (w.free i h k l b) in
      record {
        base_of = w.base_of;
        first = w.first;
        next = λ i h l. ap next_free (keeps i (h + 1) (w.base_of i (h + 1)) l (omega arith, omega arith)) ∙ w.next i h l;
        within = λ i h l. let e = w.within i h l in omega (arith, e);
        free = λ i h k l b. ap (λ c. is_some (value_of c)) (keeps i h k l b) ∙ w.free i h k l b;
        apart = w.apart;
      }

  -- lists that count no blocks
  pub linked_none : (xs : List (Cell T)) (lists : List FreeList) → ((i : ℕ) → count_at lists i ≡ 0) → IsLinked xs lists
  linked_none xs lists none = record {
    base_of = λ i h. 0;
    first = λ i l. let e = none i in absurd (omega (arith, e, l));
    next = λ i h l. let e = none i in absurd (omega (arith, e, l));
    within = λ i h l. let e = none i in absurd (omega (arith, e, l));
    free = λ i h k l b. let e = none i in absurd (omega (arith, e, l));
    apart = λ i j g h k l m b d. let e = none i in absurd (omega (arith, e, l));
  }

  -- there are no more blocks of a size than cells
  pub few_blocks : (xs : List (Cell T)) (lists : List FreeList) (i : ℕ) → IsLinked xs lists → count_at lists i ≤ length xs
  few_blocks xs lists i w =
      few_below (count_at lists i) (length xs) (w.base_of i) (λ h l. let e = w.within i h l in omega (arith, e))
      (λ g h l m e. (w.apart i i g h (w.base_of i g) l m (omega arith, omega arith) (omega (arith, e), omega (arith, e))).1)

  -- where the list counts a block, the first lies within the cells
  pub first_within : (xs : List (Cell T)) (lists : List FreeList) (i : ℕ) → 0 < count_at lists i → IsLinked xs lists → (free_list lists i).first + (i + 1) ≤ length xs
  first_within xs lists i p w = let e = w.first i p in let l = w.within i (count_at lists i - 1) (omega arith) in omega (arith, e, l)

  -- where the list counts a block, every cell of the first is free
  pub first_free : (xs : List (Cell T)) (lists : List FreeList) (i k : ℕ) → 0 < count_at lists i → InBlock (free_list lists i).first i k → IsLinked xs lists → is_some (at xs k) ≡ false
  first_free xs lists i k p b w = let e = w.first i p in w.free i (count_at lists i - 1) k (omega arith) (omega (arith, e, b.0), omega (arith, e, b.1))

module _ {T : Type 0} (xs ys : List (Cell T)) (lists : List FreeList) (i : ℕ) (within : i < length lists) where
  same_list : (l : FreeList) → free_list (set lists i l) i ≡ l
  same_list l = get_or-set_same lists i l (record { first = 0; count = 0 }) within

  -- the others stay
  other_list : (l : FreeList) (j : ℕ) → j ≢ i → free_list (set lists i l) j ≡ free_list lists j
  other_list l j n = get_or-set_other lists i j l (record { first = 0; count = 0 }) n

  -- the first block of a list is taken off, and used
  module _ (l : FreeList) (p : 0 < count_at lists i) (first : l.first ≡ next_free (cell_at xs (free_list lists i).first)) (count : l.count ≡ count_at lists i - 1) (len : length ys ≡ length xs)
      (same : (k : ℕ) → (InBlock (free_list lists i).first i k → ⊥) → cell_at ys k ≡ cell_at xs k) (w : IsLinked xs lists) where
    -- every block that is left was there before
    fewer : (j h : ℕ) → h < count_at (set lists i l) j → h < count_at lists j
    fewer j h b = ⊎_elim
        (λ e. let b' : h < count_at (set lists i l) i = subst (λ x. h < count_at (set lists i l) x) e b in
        let c : count_at (set lists i l) i ≡ l.count = ap (λ x. x.count) (same_list l) in
        let r : h < count_at lists i = omega (arith, b', c, count) in subst (λ x. h < count_at lists x) (sym e) r)
        (λ n. subst (λ x. h < x) (ap (λ x. x.count) (other_list l j n)) b) (cases_eq j i)

    -- not the block that was taken
    rest : (j h : ℕ) → h < count_at (set lists i l) j → j ≡ i → h ≡ count_at lists i - 1 → ⊥
    rest j h b e f =
        let b' : h < count_at (set lists i l) i = subst (λ x. h < count_at (set lists i l) x) e b in
        let c : count_at (set lists i l) i ≡ l.count = ap (λ x. x.count) (same_list l) in
        omega (arith, b', c, count, f)

    -- every block that is left keeps its cells
    keeps : (j h k : ℕ) → h < count_at (set lists i l) j → InBlock (w.base_of j h) j k → cell_at ys k ≡ cell_at xs k
    keeps j h k b in' = same k (λ out. let e = w.first i p in
        let a = w.apart j i h (count_at lists i - 1) k (fewer j h b) (omega arith) in' (omega (arith, e, out.0), omega (arith, e, out.1)) in
        rest j h b a.0 a.1)

    -- the other blocks stay linked
    pub linked_pop : IsLinked ys (set lists i l)
    linked_pop = record {
      base_of = w.base_of;
      first = λ j q. ⊎_elim
          (λ e. let q' : 0 < count_at (set lists i l) i = subst (λ x. 0 < count_at (set lists i l) x) e q in
          let s = same_list l in
          let c : count_at (set lists i l) i ≡ l.count = ap (λ x. x.count) s in
          let n : 1 < count_at lists i = omega (arith, q', c, count) in
          let k = w.next i (count_at lists i - 2) (omega arith) in
          let top : w.base_of i (count_at lists i - 2 + 1) ≡ (free_list lists i).first
          = ap (w.base_of i) (let t : count_at lists i - 2 + 1 ≡ count_at lists i - 1 = omega arith in t) ∙ sym (w.first i p) in
          let down : count_at lists i - 2 ≡ count_at (set lists i l) i - 1 = omega (arith, c, count) in
          subst (λ x. (free_list (set lists i l) x).first ≡ w.base_of x (count_at (set lists i l) x - 1)) (sym e)
          (ap (λ x. x.first) s ∙ first ∙ ap (λ x. next_free (cell_at xs x)) (sym top) ∙ k ∙ ap (w.base_of i) down))
          (λ n. let s = other_list l j n in
          let c : count_at (set lists i l) j ≡ count_at lists j = ap (λ x. x.count) s in
          ap (λ x. x.first) s ∙ w.first j (subst (λ x. 0 < x) c q) ∙ ap (λ x. w.base_of j (x - 1)) (sym c))
          (cases_eq j i);
      next = λ j h q. ap next_free (keeps j (h + 1) (w.base_of j (h + 1)) q (omega arith, omega arith)) ∙ w.next j h (fewer j (h + 1) q);
      within = λ j h q. let e = w.within j h (fewer j h q) in omega (arith, e, len);
      free = λ j h k q b. ap (λ c. is_some (value_of c)) (keeps j h k q b) ∙ w.free j h k (fewer j h q) b;
      apart = λ j j' g h k q q' b b'. w.apart j j' g h k (fewer j g q) (fewer j' h q') b b';
    }

  -- a block in use is put in front of a list
  module _ (l : FreeList) (base : ℕ) (first : l.first ≡ base) (count : l.count ≡ count_at lists i + 1) (len : length ys ≡ length xs) (inside : base + (i + 1) ≤ length xs)
      (used : (k : ℕ) → InBlock base i k → is_some (at xs k) ≡ true)
      (filled : IsFilled (cell_at xs) (cell_at ys) base (i + 1) (Free (free_list lists i).first)) (w : IsLinked xs lists) where
    -- where the blocks are now
    bases : ℕ → ℕ → ℕ
    bases j h = cond (eqb j i) (cond (eqb h (count_at lists i)) base (w.base_of j h)) (w.base_of j h)

    -- each block is the new one, or an old one at its old place
    abbrev Kind : ℕ → ℕ → Type 0
    Kind j h = ((j ≡ i) × (h ≡ count_at lists i) × (bases j h ≡ base)) ⊎ ((h < count_at lists j) × (bases j h ≡ w.base_of j h))

    -- which of the two a block is
    kind : (j h : ℕ) → h < count_at (set lists i l) j → Kind j h
    unfolding bases
    kind j h b = ⊎_elim
        (λ e. let b' : h < count_at (set lists i l) i = subst (λ x. h < count_at (set lists i l) x) e b in
        let c : count_at (set lists i l) i ≡ l.count = ap (λ x. x.count) (same_list l) in
        let j-i : eqb j i ≡ true = eq-eqb j i e in
        ⊎_elim
        (λ f. inl (
          e,
          f,
          ap (λ t. cond t (cond (eqb h (count_at lists i)) base (w.base_of j h)) (w.base_of j h)) j-i
              ∙ ap (λ t. cond t base (w.base_of j h)) (eq-eqb h (count_at lists i) f),
        ))
        (λ n. let r : h < count_at lists i = omega (arith, b', c, count, n) in
        inr (
          subst (λ x. h < count_at lists x) (sym e) r,
          ap (λ t. cond t (cond (eqb h (count_at lists i)) base (w.base_of j h)) (w.base_of j h)) j-i
              ∙ ap (λ t. cond t base (w.base_of j h)) (ne_eqb h (count_at lists i) n),
        ))
        (cases_eq h (count_at lists i)))
        (λ n. inr (
          subst (λ x. h < x) (ap (λ x. x.count) (other_list l j n)) b,
          ap (λ t. cond t (cond (eqb h (count_at lists i)) base (w.base_of j h)) (w.base_of j h)) (ne_eqb j i n),
        ))
        (cases_eq j i)

    -- an old block keeps its cells, as they were free
    old_keeps : (j h k : ℕ) → h < count_at lists j → InBlock (w.base_of j h) j k → cell_at ys k ≡ cell_at xs k
    old_keeps j h k b in' = ⊎_elim (λ p. filled.below k p)
        (λ p. ⊎_elim (λ q. absurd (false≢true (sym (w.free j h k b in') ∙ used k (p, q)))) (λ q. filled.above k q) (cases_lt k (base + (i + 1))))
        (cases_lt k base)

    -- all blocks are linked, the new one first
    pub linked_push : IsLinked ys (set lists i l)
    linked_push = record {
      base_of = bases;
      first = λ j q. ⊎_elim
          (λ n. ap (λ x. (free_list (set lists i l) x).first) n.0 ∙ ap (λ x. x.first) (same_list l) ∙ first ∙ sym n.2)
          (λ o. let other : j ≢ i = λ e. let c : count_at (set lists i l) i ≡ l.count = ap (λ x. x.count) (same_list l) in
          let o' : count_at (set lists i l) i - 1 < count_at lists i = subst (λ x. count_at (set lists i l) x - 1 < count_at lists x) e o.0 in
          omega (arith, c, count, o') in
          let s = other_list l j other in
          let c : count_at (set lists i l) j ≡ count_at lists j = ap (λ x. x.count) s in
          ap (λ x. x.first) s ∙ w.first j (subst (λ x. 0 < x) c q) ∙ ap (λ x. w.base_of j (x - 1)) (sym c) ∙ sym o.1)
          (kind j (count_at (set lists i l) j - 1) (omega arith));
      next = λ j h q. ⊎_elim
          (λ n. ⊎_elim (λ m. absurd (omega (arith, n.1, m.1)))
          (λ o. let c : count_at lists i - 1 ≡ h = omega (arith, n.1) in let p : 0 < count_at lists i = omega (arith, n.1) in
          ap (λ x. next_free (cell_at ys x)) n.2 ∙ ap next_free (filled.inside base (omega arith) (omega arith)) ∙ w.first i p
          ∙ ap (w.base_of i) c ∙ ap (λ x. w.base_of x h) (sym n.0) ∙ sym o.1)
          (kind j h (omega arith)))
          (λ o. ⊎_elim (λ m. let o' : h + 1 < count_at lists i = subst (λ x. h + 1 < count_at lists x) m.0 o.0 in absurd (omega (arith, o', m.1)))
          (λ o'. ap (λ x. next_free (cell_at ys x)) o.1 ∙ ap next_free (old_keeps j (h + 1) (w.base_of j (h + 1)) o.0 (omega arith, omega arith)) ∙ w.next j h o.0 ∙ sym o'.1)
          (kind j h (omega arith)))
          (kind j (h + 1) q);
      within = λ j h q. ⊎_elim (λ n. omega (arith, n.0, n.2, len, inside)) (λ o. let e = w.within j h o.0 in omega (arith, e, o.1, len)) (kind j h q);
      free = λ j h k q b. ⊎_elim
          (λ n. ap (λ c. is_some (value_of c)) (filled.inside k (omega (arith, b.0, n.2)) (omega (arith, b.1, n.2, n.0))))
          (λ o. let b' : InBlock (w.base_of j h) j k = (omega (arith, b.0, o.1), omega (arith, b.1, o.1)) in
          ap (λ c. is_some (value_of c)) (old_keeps j h k o.0 b') ∙ w.free j h k o.0 b')
          (kind j h q);
      apart = λ j j' g h k q q' b b'. ⊎_elim
          (λ n. ⊎_elim (λ m. (n.0 ∙ sym m.0, n.1 ∙ sym m.1))
          (λ o. absurd (false≢true (sym (w.free j' h k o.0 (omega (arith, b'.0, o.1), omega (arith, b'.1, o.1))) ∙ used k (omega (arith, b.0, n.2), omega (arith, b.1, n.2, n.0)))))
          (kind j' h q'))
          (λ o. ⊎_elim
          (λ n. absurd (false≢true (sym (w.free j g k o.0 (omega (arith, b.0, o.1), omega (arith, b.1, o.1))) ∙ used k (omega (arith, b'.0, n.2), omega (arith, b'.1, n.2, n.0)))))
          (λ o'. w.apart j j' g h k o.0 o'.0 (omega (arith, b.0, o.1), omega (arith, b.1, o.1)) (omega (arith, b'.0, o'.1), omega (arith, b'.1, o'.1)))
          (kind j' h q'))
          (kind j g q);
    }
