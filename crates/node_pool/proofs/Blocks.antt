-- What taking, giving back and growing a block leave in a pool.
use Rattle.std.proofs.Common.{ℕ, ◌≡◌, ◌⊎◌, inl, inr, ⊎_elim, ◌+◌, ◌-◌, ◌<◌, ◌≤◌, List, length, get_or, set, replicate, Option, Some, None, is_some, Bool, true, false, arith, refl, sym, ap, subst, ◌∙◌, if◌then◌else◌}
use Rattle.std.proofs.{Math.Logic.∥∥₁_elim, Math.Logic.∥∥₁_map, Math.Bool.Bool-set, lemmas.Bool.cases_lt, lemmas.Bool.false≢true}
use Rattle.std.specs.{Coded.le_prop, Vec.with_items, declared.vec.Vec.Vec}
use Rattle.std.proofs.lemmas.List.{get_or_past, get_or_default, get_or-replicate, length-replicate, length-set, with_items_is}
use Rattle.node_pool.specs.Cell.{value_of, next_free, cell_at, at, IsFilled, IsShifted}
use Rattle.node_pool.specs.{FreeLists.free_list, FreeLists.count_at, FreeLists.IsLinked, Pool.IsTaken, Pool.IsGrown, Pool.IsUsedBlock, declared.cells.Cell.Cell, declared.cells.FreeList.FreeList, declared.cells.Cell.TheVariants.Free, declared.cells.Cell.TheVariants.Used}
use Rattle.node_pool.proofs.Writes.{cell_at-set_other}
use Rattle.node_pool.proofs.Links.{linked_none, linked_stays, linked_pop, linked_push, few_blocks, first_within, first_free}

-- outside a filled block all stays
pub filled_out : {A : Type 0} (f g : ℕ → A) (base size : ℕ) (v : A) → IsFilled f g base size v → (k : ℕ) → (base ≤ k → k < base + size → ⊥) → g k ≡ f k
filled_out f g base size v w k out =
    ⊎_elim (λ l. w.below k l)
    (λ l. ⊎_elim (λ h. absurd (out l h)) (λ h. w.above k h) (cases_lt k (base + size)))
    (cases_lt k base)

-- a list of no blocks
abbrev none : FreeList
none = record { first = 0; count = 0 }

-- each of them, and each past the end, has no blocks
none-at : (n i : ℕ) → get_or (replicate n none) i none ≡ none
none-at n i = ⊎_elim (λ l. get_or-replicate n i none none l)
    (λ l. get_or_past (replicate n none) i none (let e = length-replicate n none in omega (arith, e))) (cases_lt i n)

-- a vector that may have been made longer
pub longer_or_same : (b : Bool) (k m n : ℕ) → k ≡ (if b then m + n else m) → m ≤ k
longer_or_same true k m n e = omega (arith, e)
longer_or_same false k m n e = omega (arith, e)

module _ {T : Type 0} where
  -- nothing is not some
  pub none≢is_some : (o : Option T) → o ≡ None → is_some o ≡ true → ⊥
  none≢is_some o n s = let e : is_some o ≡ false = ap is_some n in false≢true (sym e ∙ s)

  -- a cell with no value is free
  none_from : (o : Option T) → is_some o ≡ false → o ≡ None
  none_from None h = refl
  none_from (Some x) h = absurd (false≢true (sym h))

  -- a cell in use is there
  pub at_used : (xs : List (Cell T)) (k : ℕ) → is_some (at xs k) ≡ true → k < length xs
  at_used xs k h = ⊎_elim (λ l. l) (λ l. absurd (none≢is_some (at xs k) (ap value_of (get_or_past xs k (Free 0) l)) h)) (cases_lt k (length xs))

  -- a block in use lies within the cells
  pub used_within : (xs : List (Cell T)) (base size : ℕ) → 0 < size → IsUsedBlock (at xs) base size → base + size ≤ length xs
  used_within xs base size p h =
      let l = at_used xs (base + (size - 1)) (h (base + (size - 1)) (omega arith) (omega arith)) in
      omega (arith, l)

  -- cells that were filled have the same values, those outside keep theirs
  pub filled_values : (f g : ℕ → Cell T) (base size : ℕ) (c : Cell T) → IsFilled f g base size c → IsFilled (λ k. value_of (f k)) (λ k. value_of (g k)) base size (value_of c)
  filled_values f g base size c w = record {
    inside = λ k l h. ap value_of (w.inside k l h);
    below = λ k l. ap value_of (w.below k l);
    above = λ k l. ap value_of (w.above k l);
  }

  -- cells that were copied with a gap take their values along
  pub shifted_values : (f g : ℕ → Cell T) (from size gap : ℕ) (value : T) (to : ℕ) → IsShifted f g from size gap (Used value) to
      → IsShifted (λ k. value_of (f k)) (λ k. value_of (g k)) from size gap (Some value) to
  shifted_values f g from size gap value to w = record {
    low = λ t l. ap value_of (w.low t l);
    middle = ap value_of w.middle;
    high = λ t l h. ap value_of (w.high t l h);
    below = λ k l. ap value_of (w.below k l);
    above = λ k l. ap value_of (w.above k l);
  }

  -- a block that was taken lies apart from one that was in use
  pub apart_from : (f g : ℕ → Option T) (base size to : ℕ) (value : T) → 0 < size → IsUsedBlock f base size → IsTaken f g to (size + 1) value
      → (base + size ≤ to) ⊎ (to + (size + 1) ≤ base)
  apart_from f g base size to value p used taken =
      ⊎_elim (λ l. ⊎_elim
      (λ h. ⊎_elim
      (λ b. absurd (none≢is_some (f to) (taken.fresh to (omega arith) (omega arith)) (used to (omega arith) (omega arith))))
      (λ b. absurd (none≢is_some (f base) (taken.fresh base (omega arith) (omega arith)) (used base (omega arith) (omega arith))))
      (cases_lt base to))
      (λ h. inr h) (cases_lt base (to + (size + 1))))
      (λ l. inl l) (cases_lt to (base + size))

  -- a block that was taken is in use
  pub taken_used : (f g : ℕ → Option T) (base size : ℕ) (value : T) → IsTaken f g base size value → IsUsedBlock g base size
  taken_used f g base size value w k l h = ap is_some (w.filled.inside k l h)

  -- a block is taken, copied with a gap, and the old one given back
  pub grown_from : (f g h k : ℕ → Option T) (base size place : ℕ) (value : T) (to : ℕ) → place ≤ size
      → (base + size ≤ to) ⊎ (to + (size + 1) ≤ base)
      → IsTaken f g to (size + 1) value → IsShifted g h base size place (Some value) to → IsFilled h k base size None → IsGrown f k base size place value to
  grown_from f g h k base size place value to in' apart taken shifted freed = record {
    fresh = taken.fresh;
    low = λ t l. filled_out h k base size None freed (to + t) (λ x y. ⊎_elim (λ p. omega arith) (λ p. omega arith) apart)
        ∙ shifted.low t l ∙ filled_out f g to (size + 1) (Some value) taken.filled (base + t) (λ x y. ⊎_elim (λ p. omega arith) (λ p. omega arith) apart);
    gap = filled_out h k base size None freed (to + place) (λ x y. ⊎_elim (λ p. omega arith) (λ p. omega arith) apart) ∙ shifted.middle;
    high = λ t l m. filled_out h k base size None freed (to + (t + 1)) (λ x y. ⊎_elim (λ p. omega arith) (λ p. omega arith) apart)
        ∙ shifted.high t l m ∙ filled_out f g to (size + 1) (Some value) taken.filled (base + t) (λ x y. ⊎_elim (λ p. omega arith) (λ p. omega arith) apart);
    freed = freed.inside;
    other = λ c out new. filled_out h k base size None freed c out
        ∙ ⊎_elim (λ l. shifted.below c l) (λ l. ⊎_elim (λ m. absurd (new l m)) (λ m. shifted.above c m) (cases_lt c (to + (size + 1)))) (cases_lt c to)
        ∙ filled_out f g to (size + 1) (Some value) taken.filled c new;
  }

  -- what holds of the cells that were written through the slice of a vector holds of the vector
  pub written_back : {Z : Type 0} (P : List (Cell T) → Type 0) (v : Vec (Cell T) Z) (xs ws : List (Cell T)) → length ws ≡ length xs → length xs ≡ v.len → P ws → P (with_items v ws).items
  written_back P v xs ws l m h = subst P (sym (with_items_is v ws (l ∙ m))) h

  -- a block of a pool's cells was filled
  pub filled_put : {Z : Type 0} (v : Vec (Cell T) Z) (xs ws : List (Cell T)) (base size : ℕ) (c : Cell T) → xs ≡ v.items → length ws ≡ length xs → length xs ≡ v.len
      → IsFilled (cell_at xs) (cell_at ws) base size c → IsFilled (at v.items) (at (with_items v ws).items) base size (value_of c)
  filled_put v xs ws base size c e l m h =
      written_back (λ y. IsFilled (at v.items) (at y) base size (value_of c)) v xs ws l m
      (subst (λ y. IsFilled (at y) (at ws) base size (value_of c)) e (filled_values (cell_at xs) (cell_at ws) base size c h))

  -- a block of a pool's cells was copied with a gap
  pub shifted_put : {Z : Type 0} (v : Vec (Cell T) Z) (xs ws : List (Cell T)) (from size gap : ℕ) (value : T) (to : ℕ) → xs ≡ v.items → length ws ≡ length xs → length xs ≡ v.len
      → IsShifted (cell_at xs) (cell_at ws) from size gap (Used value) to → IsShifted (at v.items) (at (with_items v ws).items) from size gap (Some value) to
  shifted_put v xs ws from size gap value to e l m h =
      written_back (λ y. IsShifted (at v.items) (at y) from size gap (Some value) to) v xs ws l m
      (subst (λ y. IsShifted (at y) (at ws) from size gap (Some value) to) e (shifted_values (cell_at xs) (cell_at ws) from size gap value to h))

  -- a block in use stays in use when another is taken
  pub used_stays : (f g : ℕ → Option T) (base size to count : ℕ) (value : T) → IsUsedBlock f base size → IsTaken f g to count value → IsUsedBlock g base size
  used_stays f g base size to count value used taken k l h =
      ap is_some (filled_out f g to count (Some value) taken.filled k (λ a b. none≢is_some (f k) (taken.fresh k a b) (used k l h))) ∙ used k l h

  -- a block in use that lies apart from a copy stays in use
  pub used_apart : (f g : ℕ → Option T) (base size gap : ℕ) (value : Option T) (to : ℕ) → (base + size ≤ to) ⊎ (to + (size + 1) ≤ base) → IsUsedBlock f base size
      → IsShifted f g base size gap value to → IsUsedBlock g base size
  used_apart f g base size gap value to apart used shifted k l h =
      ap is_some (⊎_elim (λ a. shifted.below k (omega arith)) (λ a. shifted.above k (omega arith)) apart) ∙ used k l h

  -- lists that count no blocks
  pub new_linked : (xs : List (Cell T)) → ∥ IsLinked xs (replicate 16 none) ∥₁
  new_linked xs = ∣ linked_none xs (replicate 16 none) (λ i. ap (λ l. l.count) (none-at 16 i)) ∣₁

  -- a cell in use is written
  pub set_linked : (xs : List (Cell T)) (lists : List FreeList) (i : ℕ) (value : T) → is_some (at xs i) ≡ true → ∥ IsLinked xs lists ∥₁ → ∥ IsLinked (set xs i (Used value)) lists ∥₁
  set_linked xs lists i value used h = ∥∥₁_map h (λ w. linked_stays xs (set xs i (Used value)) lists (omega (arith, length-set xs i (Used value)))
      (λ k l free. cell_at-set_other xs i k (Used value) (λ e. false≢true (sym free ∙ ap (λ x. is_some (at xs x)) e ∙ used))) w)

  -- cells are put behind those that are there
  pub more_linked : (xs ys : List (Cell T)) (lists : List FreeList) → length xs ≤ length ys → ((k : ℕ) (d : Cell T) → k < length xs → get_or ys k d ≡ get_or xs k d)
      → ∥ IsLinked xs lists ∥₁ → ∥ IsLinked ys lists ∥₁
  more_linked xs ys lists len same h = ∥∥₁_map h (λ w. linked_stays xs ys lists len (λ k l free. same k (Free 0) l) w)

  -- a list has no more blocks than there are cells
  pub few_spare : (xs : List (Cell T)) (lists : List FreeList) (i : ℕ) → ∥ IsLinked xs lists ∥₁ → count_at lists i ≤ length xs
  few_spare xs lists i h = ∥∥₁_elim h le_prop (λ w. few_blocks xs lists i w)

  -- the first block of a list lies within the cells
  pub head_within : (xs : List (Cell T)) (lists : List FreeList) (size : ℕ) → 0 < size → 0 < count_at lists (size - 1) → ∥ IsLinked xs lists ∥₁ → (free_list lists (size - 1)).first + size ≤ length xs
  head_within xs lists size s p h = ∥∥₁_elim h le_prop (λ w. let l = first_within xs lists (size - 1) p w in omega (arith, l))

  pub head_free : (xs : List (Cell T)) (lists : List FreeList) (size k : ℕ) → 0 < size → 0 < count_at lists (size - 1) → (free_list lists (size - 1)).first ≤ k → k < (free_list lists (size - 1)).first + size
      → ∥ IsLinked xs lists ∥₁ → is_some (at xs k) ≡ false
  head_free xs lists size k s p l u h = ∥∥₁_elim h (Bool-set _ _) (λ w. first_free xs lists (size - 1) k p (l, omega arith) w)

  -- so it has no value
  pub head_fresh : (xs : List (Cell T)) (lists : List FreeList) (size k : ℕ) → 0 < size → 0 < count_at lists (size - 1) → (free_list lists (size - 1)).first ≤ k → k < (free_list lists (size - 1)).first + size
      → ∥ IsLinked xs lists ∥₁ → at xs k ≡ None
  head_fresh xs lists size k s p l u h = none_from (at xs k) (head_free xs lists size k s p l u h)

  -- the cell that was read at its place is the one that is there
  pub head_read : (xs : List (Cell T)) (lists : List FreeList) (size : ℕ) (x : Cell T) → 0 < size → 0 < count_at lists (size - 1) → x ≡ get_or xs (free_list lists (size - 1)).first x
      → ∥ IsLinked xs lists ∥₁ → x ≡ cell_at xs (free_list lists (size - 1)).first
  head_read xs lists size x s p e h = let l = head_within xs lists size s p h in
      e ∙ get_or_default xs (free_list lists (size - 1)).first x (Free 0) (omega (arith, l))

  -- the first block of a list is taken
  pub take_linked : {Z : Type 0} (v : Vec (Cell T) Z) (xs ws : List (Cell T)) (lists : List FreeList) (size next : ℕ) (value : T)
      → 0 < size → size ≤ length lists → 0 < count_at lists (size - 1)
      → xs ≡ v.items → length ws ≡ length xs → length xs ≡ v.len → next ≡ next_free (cell_at v.items (free_list lists (size - 1)).first)
      → IsFilled (cell_at xs) (cell_at ws) (free_list lists (size - 1)).first size (Used value) → ∥ IsLinked v.items lists ∥₁
      → ∥ IsLinked (with_items v ws).items (set lists (size - 1) (record { first = next; count = count_at lists (size - 1) - 1 })) ∥₁
  take_linked v xs ws lists size next value s few p e l m n filled h =
      let filled' : IsFilled (cell_at v.items) (cell_at ws) (free_list lists (size - 1)).first size (Used value)
      = subst (λ y. IsFilled (cell_at y) (cell_at ws) (free_list lists (size - 1)).first size (Used value)) e filled in
      written_back (λ y. ∥ IsLinked y (set lists (size - 1) (record { first = next; count = count_at lists (size - 1) - 1 })) ∥₁) v xs ws l m
      (∥∥₁_map h (λ w. linked_pop v.items ws lists (size - 1) (omega arith) (record { first = next; count = count_at lists (size - 1) - 1 }) p n refl (l ∙ ap length e)
      (λ k out. filled_out (cell_at v.items) (cell_at ws) (free_list lists (size - 1)).first size (Used value) filled' k (λ a b. out (a, omega arith))) w))

  -- a block is put in front of a list
  pub give_linked : {Z : Type 0} (v : Vec (Cell T) Z) (xs ws : List (Cell T)) (lists : List FreeList) (base size : ℕ)
      → 0 < size → size ≤ length lists → xs ≡ v.items → length ws ≡ length xs → length xs ≡ v.len → IsUsedBlock (at v.items) base size
      → IsFilled (cell_at xs) (cell_at ws) base size (Free (free_list lists (size - 1)).first) → ∥ IsLinked v.items lists ∥₁
      → ∥ IsLinked (with_items v ws).items (set lists (size - 1) (record { first = base; count = count_at lists (size - 1) + 1 })) ∥₁
  give_linked v xs ws lists base size s few e l m used filled h =
      let n : size - 1 + 1 ≡ size = omega arith in
      let free = (free_list lists (size - 1)).first in
      let filled' : IsFilled (cell_at v.items) (cell_at ws) base (size - 1 + 1) (Free free)
      = subst (λ z. IsFilled (cell_at v.items) (cell_at ws) base z (Free free)) (sym n)
      (subst (λ y. IsFilled (cell_at y) (cell_at ws) base size (Free free)) e filled) in
      let within = used_within v.items base size s used in
      written_back (λ y. ∥ IsLinked y (set lists (size - 1) (record { first = base; count = count_at lists (size - 1) + 1 })) ∥₁) v xs ws l m
      (∥∥₁_map h (λ w. linked_push v.items ws lists (size - 1) (omega arith) (record { first = base; count = count_at lists (size - 1) + 1 }) base refl refl (l ∙ ap length e) (omega (arith, within))
      (λ k b. used k b.0 (let u = b.1 in omega (arith, u))) filled' w))

  -- a write to a block in use leaves the lists
  pub shift_linked : {Z : Type 0} (v : Vec (Cell T) Z) (xs ws : List (Cell T)) (lists : List FreeList) (from size gap : ℕ) (value : T) (to : ℕ)
      → xs ≡ v.items → length ws ≡ length xs → length xs ≡ v.len → IsUsedBlock (at v.items) to (size + 1)
      → IsShifted (cell_at xs) (cell_at ws) from size gap (Used value) to → ∥ IsLinked v.items lists ∥₁ → ∥ IsLinked (with_items v ws).items lists ∥₁
  shift_linked v xs ws lists from size gap value to e l m used shifted h =
      let shifted' : IsShifted (cell_at v.items) (cell_at ws) from size gap (Used value) to
      = subst (λ y. IsShifted (cell_at y) (cell_at ws) from size gap (Used value) to) e shifted in
      let len : length ws ≡ length v.items = l ∙ ap length e in
      written_back (λ y. ∥ IsLinked y lists ∥₁) v xs ws l m
      (∥∥₁_map h (λ w. linked_stays v.items ws lists (omega (arith, len))
      (λ k b free. ⊎_elim (λ p. shifted'.below k p)
      (λ p. ⊎_elim (λ q. absurd (false≢true (sym free ∙ used k p q))) (λ q. shifted'.above k q) (cases_lt k (to + (size + 1))))
      (cases_lt k to)) w))
