-- A block has other words now, may stand elsewhere, and its name says so.
use Rattle.std.proofs.Common.{ℕ, zero, suc, ◌≡◌, ◌≢◌, ◌⊎◌, inl, inr, ◌+◌, ◌-◌, ◌/◌, ◌^◌, ◌<◌, ◌≤◌, ◌==◌, List, Option, Some, None, true, cond, is_some, arith, refl, sym, ap, subst, ◌∙◌}
use Rattle.std.proofs.lemmas.Bool.{cond-true, cond-false, eq-eqb, ne_eqb, cases_eq, cases_lt, false≢true}
use Rattle.array_bitmap.specs.Bits.{depth_of, five_bits, path_start, row_bit, level_of, more_of}
use Rattle.array_bitmap.specs.{Words.IsRowWord, Words.found, Blocks.row_in, Blocks.kid_in, Blocks.IsBlock}
use Rattle.bitmaps.specs.Greatest.{GreatestBelow}
use Rattle.array_bitmap.specs.Tree.{Cells, words_in_block, words_at, kid_at, block_at, short_word, long_word, word_at, named, IsSoundCells, SetsWord}
use Rattle.array_bitmap.specs.Changes.{IsReworded, WritesName, ChangesRow, ChangesKid}
use Rattle.array_bitmap.proofs.{PathBits.parts_from_first, PathBits.first_from_parts, PathBits.row_bit_same, SetsWords.row_words_stay, SetsWords.GreatestBelow-same}
use Rattle.array_bitmap.proofs.Walks.{zeros, block-first, block-next, block-same, word_in, word-long, kid-nowhere, row-nowhere, no_kid_none, word-short}
use Rattle.array_bitmap.proofs.OnePath.{named-kid, named_used, block_used, walk_unique}

module _ (c : Cells) (heap1 : ℕ → Option (List ℕ)) (tops2 : ℕ → ℕ) (heap2 : ℕ → Option (List ℕ)) (j j' q k : ℕ) (ws ws' : List ℕ)
    (sound : IsSoundCells c) (at : c.heap j ≡ Some ws) (real : j ≢ 0) (name : named c q k ≡ j) (apart : q ≢ j)
    (re : IsReworded c.heap heap1 j j' ws')
    (wr : WritesName (record c { heap = heap1 }) (record c { tops = tops2; heap = heap2 }) q k j') where
  -- the image with the block reworded, and with its name written
  abbrev c1 : Cells
  c1 = record c { heap = heap1 }

  abbrev c2 : Cells
  c2 = record c { tops = tops2; heap = heap2 }

  -- where a block of the image stands now
  abbrev pub moved : ℕ → ℕ
  moved p = cond (p == j) j' p

  -- a place is in use
  abbrev pub InUse : ℕ → Type 0
  InUse p = is_some (c.heap p) ≡ true

  pub moved-here : (p : ℕ) → p ≡ j → moved p ≡ j'
  moved-here p e = cond-true _ _ _ (eq-eqb p j e)

  pub moved-other : (p : ℕ) → p ≢ j → moved p ≡ p
  moved-other p n = cond-false _ _ _ (ne_eqb p j n)

  -- 0 is in use, and stays
  pub zero_used : InUse 0
  zero_used = ap is_some sound.nowhere

  pub moved-zero : moved 0 ≡ 0
  moved-zero = moved-other 0 (λ e. real (sym e))

  -- another block in use does not stand at the new place
  pub not_new : (p : ℕ) → InUse p → p ≢ j → p ≢ j'
  not_new p u n e = elim (cases_eq j' j) [
    | inl same ↦ n (e ∙ same)
    | inr other ↦ absurd (false≢true (sym (ap is_some (re.fresh other)) ∙ subst InUse e u))
  ]

  -- so no two blocks stand at one place
  pub moved_apart : (x y : ℕ) → InUse x → InUse y → moved x ≡ moved y → x ≡ y
  moved_apart x y u v e = by (cases_eq x j) (cases_eq y j)
    where
      by : (x ≡ j) ⊎ (x ≡ j → ⊥) → (y ≡ j) ⊎ (y ≡ j → ⊥) → x ≡ y
      by (inl a) (inl b) = a ∙ sym b
      by (inl a) (inr b) = absurd (not_new y v b (sym (moved-other y b) ∙ sym e ∙ moved-here x a))
      by (inr a) (inl b) = absurd (not_new x u a (sym (moved-other x a) ∙ e ∙ moved-here y b))
      by (inr a) (inr b) = sym (moved-other x a) ∙ e ∙ moved-other y b

  -- the holder of the name is in use, or the array; and it is not at the new place
  pub holder_used : InUse q
  holder_used = elim (cases_eq q 0) [
    | inl e ↦ subst InUse (sym e) zero_used
    | inr n ↦ used_with_kid (c.heap q) refl n
  ]
    where
      used_with_kid : (o : Option (List ℕ)) → c.heap q ≡ o → q ≢ 0 → is_some (c.heap q) ≡ true
      used_with_kid None e n = absurd (real (sym name ∙ named-kid c q k n ∙ ap (λ x. kid_in (words_in_block x) k) e ∙ no_kid_none k))
      used_with_kid (Some x) e n = ap is_some e

  -- the words of another block have stayed, but for the name
  other_heap : (p : ℕ) → InUse p → p ≢ j → heap1 p ≡ c.heap p
  other_heap p u n = re.others p n (not_new p u n)

  -- the names in other blocks go where the blocks have gone
  pub names_other : (p m : ℕ) → InUse p → p ≢ j → named c2 p m ≡ moved (named c p m)
  names_other p m u n = by (cases_eq p q) (cases_eq m k)
    where
      stays : named c1 p m ≡ named c p m
      stays = ap (λ o. cond (p == 0) (c.tops m) (kid_in (words_in_block o) m)) (other_heap p u n)

      -- no other name is that of the block
      other_name : (p ≡ q → m ≡ k → ⊥) → named c p m ≢ j
      other_name out e =
          let same = sound.names_apart p q m k (λ z. real (sym e ∙ z)) (e ∙ sym name) in
          out same.0 same.1

      kept : (p ≡ q → m ≡ k → ⊥) → named c2 p m ≡ moved (named c p m)
      kept out = wr.others p m out ∙ stays ∙ sym (moved-other (named c p m) (other_name out))

      by : (p ≡ q) ⊎ (p ≡ q → ⊥) → (m ≡ k) ⊎ (m ≡ k → ⊥) → named c2 p m ≡ moved (named c p m)
      by (inl a) (inl b) =
          let there : named c p m ≡ j = ap (λ x. named c x m) a ∙ ap (named c q) b ∙ name in
          ap (λ x. named c2 x m) a ∙ ap (named c2 q) b ∙ wr.here ∙ sym (moved-here (named c p m) there)
      by (inl a) (inr b) = kept (λ x y. b y)
      by (inr a) y = kept (λ x z. a x)

  -- the rows of other blocks stay
  pub rows_other : (p bit : ℕ) → InUse p → p ≢ j → row_in (words_at c2 p) bit ≡ row_in (words_at c p) bit
  rows_other p bit u n = wr.rows p bit ∙ ap (λ o. row_in (words_in_block o) bit) (other_heap p u n)

  -- the block has its new words
  here_words : words_at c1 j' ≡ ws'
  here_words = ap words_in_block re.here

  pub names_here : (m : ℕ) → named c2 j' m ≡ kid_in ws' m
  names_here m =
      wr.others j' m (λ e x. not_new q holder_used apart (sym e)) ∙ named-kid c1 j' m re.somewhere ∙ ap (λ x. kid_in x m) here_words

  pub rows_here : (bit : ℕ) → row_in (words_at c2 j') bit ≡ row_in ws' bit
  rows_here bit = wr.rows j' bit ∙ ap (λ x. row_in x bit) here_words

  -- the names in the block, before
  pub names_before : (m : ℕ) → named c j m ≡ kid_in ws m
  names_before m = named-kid c j m real ∙ ap (λ o. kid_in (words_in_block o) m) at

  -- none of them is that of the block
  pub not_itself : (m : ℕ) → named c j m ≢ j
  not_itself m e = apart (sym (sound.names_apart j q m k (λ z. real (sym e ∙ z)) (e ∙ sym name)).0)

  -- what is in use now is the block, or was in use and is no other
  pub in_use : (p : ℕ) → is_some (heap2 p) ≡ true → p ≢ j' → InUse p × (p ≢ j)
  in_use p u n =
      let u1 : is_some (heap1 p) ≡ true = sym (wr.used p) ∙ u in
      let other : p ≢ j = λ e. elim (cases_eq j' j) [
        | inl same ↦ n (e ∙ sym same)
        | inr away ↦ false≢true (sym (ap is_some (re.gone away)) ∙ subst (λ x. is_some (heap1 x) ≡ true) e u1)
      ] in
      (ap is_some (sym (re.others p other n)) ∙ u1, other)

  pub here_used : is_some (heap2 j') ≡ true
  here_used = wr.used j' ∙ ap is_some re.here

  pub other_used : (p : ℕ) → InUse p → p ≢ j → is_some (heap2 p) ≡ true
  other_used p u n = wr.used p ∙ ap is_some (other_heap p u n) ∙ u

  pub moved_used : (p : ℕ) → InUse p → is_some (heap2 (moved p)) ≡ true
  moved_used p u = elim (cases_eq p j) [
    | inl e ↦ subst (λ x. is_some (heap2 x) ≡ true) (sym (moved-here p e)) here_used
    | inr n ↦ subst (λ x. is_some (heap2 x) ≡ true) (sym (moved-other p n)) (other_used p u n)
  ]

  -- the block of four zeros stays
  pub zeros_stay : heap2 0 ≡ Some zeros
  zeros_stay = wr.zeros ∙ other_heap 0 zero_used (λ e. real (sym e)) ∙ sound.nowhere

  -- every block is one, if the block with other words is
  pub blocks_stay : IsBlock ws' → (p : ℕ) (x : List ℕ) → heap2 p ≡ Some x → IsBlock x
  blocks_stay new p x e = elim (cases_eq p j') [
    | inl here ↦ wr.blocks p (λ y f. subst IsBlock (same_words (heap1 p) ws' y (ap heap1 here ∙ re.here) f) new) x e
    | inr n ↦
        let o = in_use p (ap is_some e) n in
        wr.blocks p (λ y f. sound.blocks p y (sym (other_heap p o.0 o.1) ∙ f)) x e
  ]
    where
      same_words : (o : Option (List ℕ)) (a b : List ℕ) → o ≡ Some a → o ≡ Some b → a ≡ b
      same_words o a b e f = cc

  -- ---- the names

  -- a name is an old one, in a block that may have moved, or a new one
  abbrev Source : (ℕ → Type 0) → ℕ → ℕ → ℕ → Type 0
  Source IsNew v p m =
      ((o : ℕ) × InUse o × (p ≡ moved o) × (named c2 p m ≡ moved (named c o m)))
      ⊎ ((p ≡ j') × (m ≡ v) × IsNew (named c2 p m))

  module _ (IsNew : ℕ → Type 0) (v : ℕ) (sources : (p m : ℕ) → named c2 p m ≢ 0 → Source IsNew v p m)
      (new_used : (x : ℕ) → IsNew x → is_some (heap2 x) ≡ true) (new_apart : (x o m : ℕ) → IsNew x → x ≢ moved (named c o m)) where
    -- each is that of a block
    pub there_still : (p m : ℕ) → named c2 p m ≢ 0 → is_some (heap2 (named c2 p m)) ≡ true
    there_still p m n = elim (sources p m n) [
      | inl s ↦ subst (λ x. is_some (heap2 x) ≡ true) (sym s.3) (moved_used (named c s.0 m) (named_used c sound s.0 m))
      | inr s ↦ new_used (named c2 p m) s.2
    ]

    -- and no two are of one block
    pub apart_still : (p r m n : ℕ) → named c2 p m ≢ 0 → named c2 p m ≡ named c2 r n → (p ≡ r) × (m ≡ n)
    apart_still p r m n some e = by (sources p m some) (sources r n (λ z. some (e ∙ z)))
      where
        by : Source IsNew v p m → Source IsNew v r n → (p ≡ r) × (m ≡ n)
        by (inl s) (inl t) =
            let one : named c s.0 m ≡ named c t.0 n = moved_apart (named c s.0 m) (named c t.0 n) (named_used c sound s.0 m) (named_used c sound t.0 n) (sym s.3 ∙ e ∙ t.3) in
            let both = sound.names_apart s.0 t.0 m n (λ z. some (s.3 ∙ ap moved z ∙ moved-zero)) one in
            (s.2 ∙ ap moved both.0 ∙ sym t.2, both.1)
        by (inl s) (inr t) = absurd (new_apart (named c2 r n) s.0 m t.2 (sym e ∙ s.3))
        by (inr s) (inl t) = absurd (new_apart (named c2 p m) t.0 n s.2 (e ∙ t.3))
        by (inr s) (inr t) = (s.0 ∙ sym t.0, s.1 ∙ sym t.1)

  -- where a name stands: in the block, or in another that is in use, or in the array
  pub holders : (p m : ℕ) → named c2 p m ≢ 0 → (p ≡ j') ⊎ (InUse p × (p ≢ j))
  holders p m some = elim (cases_eq p j') [
    | inl e ↦ inl e
    | inr n ↦ inr (elim (cases_eq p 0) [
      | inl z ↦ (subst InUse (sym z) zero_used, λ e. real (sym e ∙ z))
      | inr y ↦ in_use p (with_kid (heap2 p) refl y) n
    ])
  ]
    where
      with_kid : (o : Option (List ℕ)) → heap2 p ≡ o → p ≢ 0 → is_some (heap2 p) ≡ true
      with_kid None e n = absurd (some (named-kid c2 p m n ∙ ap (λ x. kid_in (words_in_block x) m) e ∙ no_kid_none m))
      with_kid (Some x) e n = ap is_some e

  -- short rows stay
  pub shorts_stay : (path len : ℕ) → len ≤ depth_of c.first → word_at c2 path len ≡ word_at c path len
  unfolding short_word
  shorts_stay path len h = word-short c2 path len h ∙ sym (word-short c path len h)

  -- what is short, and what is found there, stays
  pub shorts_found : (path best : ℕ) → GreatestBelow (word_at c path) (depth_of c.first + 1) (found best) → GreatestBelow (word_at c2 path) (depth_of c.first + 1) (found best)
  shorts_found path best b = GreatestBelow-same (word_at c path) (word_at c2 path) (depth_of c.first + 1) (found best) (λ len l. shorts_stay path len (omega arith)) b

  -- no name is new
  abbrev Never : ℕ → Type 0
  Never x = ⊥

  -- ---- a row is set, or taken out
  module _ (bit : ℕ) (word : Option ℕ) (changes : ChangesRow ws ws' bit word) where
    -- the names go where the blocks have gone
    names_moved : (p m : ℕ) → InUse p → named c2 (moved p) m ≡ moved (named c p m)
    names_moved p m u = elim (cases_eq p j) [
      | inl e ↦
          ap (λ x. named c2 x m) (moved-here p e) ∙ names_here m ∙ changes.kids m ∙ sym (names_before m)
          ∙ sym (moved-other (named c j m) (not_itself m)) ∙ ap (λ x. moved (named c x m)) (sym e)
      | inr n ↦ ap (λ x. named c2 x m) (moved-other p n) ∙ names_other p m u n
    ]

    kids_moved : (p m : ℕ) → InUse p → kid_at c2 (moved p) m ≡ moved (kid_at c p m)
    kids_moved p m u = elim (cases_eq p 0) [
      | inl z ↦
          ap (λ x. kid_at c2 x m) (ap moved z ∙ moved-zero) ∙ kid-nowhere c2 zeros_stay m ∙ sym moved-zero
          ∙ ap moved (sym (kid-nowhere c sound.nowhere m)) ∙ ap (λ x. moved (kid_at c x m)) (sym z)
      | inr n ↦
          sym (named-kid c2 (moved p) m (λ z. n (moved_apart p 0 u zero_used (z ∙ sym moved-zero)))) ∙ names_moved p m u ∙ ap moved (named-kid c p m n)
    ]

    pub walks_moved : (path steps : ℕ) → block_at c2 path steps ≡ moved (block_at c path steps)
    walks_moved path zero = block-first c2 path ∙ names_other 0 (path_start path (depth_of c.first)) zero_used (λ e. real (sym e)) ∙ ap moved (sym (block-first c path))
    walks_moved path (suc steps) =
        block-next c2 path steps
        ∙ ap (λ x. kid_at c2 x (five_bits path (c.first + steps))) (walks_moved path steps)
        ∙ kids_moved (block_at c path steps) (five_bits path (c.first + steps)) (block_used c sound path steps)
        ∙ ap moved (sym (block-next c path steps))

    -- the rows of the block, and those of others
    rows_on : (path steps b : ℕ) → block_at c path steps ≡ j → row_in (words_at c2 (block_at c2 path steps)) b ≡ row_in ws' b
    rows_on path steps b e = ap (λ x. row_in (words_at c2 x) b) (walks_moved path steps ∙ moved-here (block_at c path steps) e) ∙ rows_here b

    rows_off : (path steps b : ℕ) → block_at c path steps ≢ j → row_in (words_at c2 (block_at c2 path steps)) b ≡ row_in (words_at c (block_at c path steps)) b
    rows_off path steps b n =
        ap (λ x. row_in (words_at c2 x) b) (walks_moved path steps ∙ moved-other (block_at c path steps) n) ∙ rows_other (block_at c path steps) b (block_used c sound path steps) n

    module _ (path steps more : ℕ) (deep : c.first + steps ≤ 5) (few : more < 5) (there : block_at c path steps ≡ j) (b : bit ≡ row_bit (five_bits path (c.first + steps)) more) where
      len : ℕ
      len = depth_of (c.first + steps) + (more + 1)

      -- the row that was set has the word, or is gone
      row_hit : (p : ℕ) → path_start p (depth_of (c.first + steps) + (more + 1)) ≡ path_start path (depth_of (c.first + steps) + (more + 1)) → word_at c2 p (depth_of (c.first + steps) + (more + 1)) ≡ word
      row_hit p same =
          let parts = parts_from_first p path (c.first + steps) more deep few same in
          let on : block_at c p steps ≡ j = block-same c p path steps (omega (arith, deep)) parts.0 ∙ there in
          let bits : row_bit (five_bits p (c.first + steps)) more ≡ bit = ap (λ x. 2 ^ (more + 1) - 2 + x) parts.1 ∙ sym b in
          word_in c2 p steps more few ∙ rows_on p steps (row_bit (five_bits p (c.first + steps)) more) on ∙ ap (row_in ws') bits ∙ changes.here

      -- every other row of a block stays
      long_miss : (p down rest : ℕ) → c.first + down ≤ 5 → rest < 5
          → (depth_of (c.first + down) + (rest + 1) ≡ depth_of (c.first + steps) + (more + 1) → path_start p (depth_of (c.first + down) + (rest + 1)) ≡ path_start path (depth_of (c.first + down) + (rest + 1)) → ⊥)
          → word_at c2 p (depth_of (c.first + down) + (rest + 1)) ≡ word_at c p (depth_of (c.first + down) + (rest + 1))
      long_miss p down rest low small out =
          word_in c2 p down rest small ∙ by (cases_eq (block_at c p down) j) (cases_eq (row_bit (five_bits p (c.first + down)) rest) bit) ∙ sym (word_in c p down rest small)
        where
          same_row : block_at c p down ≡ j → row_bit (five_bits p (c.first + down)) rest ≡ bit → ⊥
          same_row e f =
              let w = walk_unique c sound p path down steps (omega (arith, low)) (λ z. real (sym e ∙ z)) (e ∙ sym there) in
              let level : c.first + steps ≡ c.first + down = ap (λ s. c.first + s) (sym w.0) in
              let r = row_bit_same (five_bits p (c.first + down)) (five_bits path (c.first + steps)) rest more (omega arith) (omega arith) small few (f ∙ b) in
              let len : depth_of (c.first + down) + (rest + 1) ≡ depth_of (c.first + steps) + (more + 1) = omega (arith, level, r.0) in
              let bits : five_bits p (c.first + down) / 2 ^ (4 - rest) ≡ five_bits path (c.first + down) / 2 ^ (4 - rest) =
              r.1 ∙ ap (λ l. five_bits path l / 2 ^ (4 - more)) level ∙ ap (λ x. five_bits path (c.first + down) / 2 ^ (4 - x)) (sym r.0) in
              out len (first_from_parts p path (c.first + down) rest low small w.1 bits)

          by : (block_at c p down ≡ j) ⊎ (block_at c p down ≡ j → ⊥) → (row_bit (five_bits p (c.first + down)) rest ≡ bit) ⊎ (row_bit (five_bits p (c.first + down)) rest ≡ bit → ⊥)
              → row_in (words_at c2 (block_at c2 p down)) (row_bit (five_bits p (c.first + down)) rest) ≡ row_in (words_at c (block_at c p down)) (row_bit (five_bits p (c.first + down)) rest)
          by (inl e) (inl f) = absurd (same_row e f)
          by (inl e) (inr f) =
              rows_on p down (row_bit (five_bits p (c.first + down)) rest) e ∙ changes.others (row_bit (five_bits p (c.first + down)) rest) f
              ∙ ap (λ o. row_in (words_in_block o) (row_bit (five_bits p (c.first + down)) rest)) (sym at) ∙ ap (λ x. row_in (words_at c x) (row_bit (five_bits p (c.first + down)) rest)) (sym e)
          by (inr n) f = rows_off p down (row_bit (five_bits p (c.first + down)) rest) n

      row_miss : (p m : ℕ) → m ≤ 32 → (m ≡ depth_of (c.first + steps) + (more + 1) → path_start p m ≡ path_start path m → ⊥) → word_at c2 p m ≡ word_at c p m
      row_miss p m short out = elim (cases_lt (depth_of c.first) m) [
        | inl long ↦
            let on : c.first + (level_of m - c.first) ≡ level_of m = omega (arith, long) in
            let whole : m ≡ depth_of (c.first + (level_of m - c.first)) + (more_of m + 1) = omega (arith, long) in
            subst (λ x. word_at c2 p x ≡ word_at c p x) (sym whole)
            (long_miss p (level_of m - c.first) (more_of m) (omega (arith, on, short)) (omega arith)
            (subst (λ x. x ≡ depth_of (c.first + steps) + (more + 1) → path_start p x ≡ path_start path x → ⊥) whole out))
        | inr low ↦ shorts_stay p m low
      ]

      -- the row is set, or gone, and all others stay
      pub row_sets : SetsWord (word_at c) (word_at c2) path (depth_of (c.first + steps) + (more + 1)) word
      row_sets = record { hit = row_hit; miss = λ p m fits short out. row_miss p m short out }

      -- the image is sound
      pub row_sound : IsBlock ws' → ((w : ℕ) → word ≡ Some w → IsRowWord (depth_of (c.first + steps) + (more + 1)) w) → IsSoundCells c2
      row_sound new own = record {
        four_sizes = sound.four_sizes;
        nowhere = zeros_stay;
        blocks_there = there_still Never 0 sources never_used never_apart;
        names_apart = apart_still Never 0 sources never_used never_apart;
        blocks = blocks_stay new;
        row_words = row_words_stay (word_at c) (word_at c2) path (depth_of (c.first + steps) + (more + 1)) word row_sets own sound.row_words;
        longest_shorts = λ p fits. shorts_found p (c.bests (path_start p (depth_of c.first))) (sound.longest_shorts p fits);
      }
        where
          never_used : (x : ℕ) → Never x → is_some (heap2 x) ≡ true
          never_used x h = absurd h

          never_apart : (x o m : ℕ) → Never x → x ≢ moved (named c o m)
          never_apart x o m h = absurd h

          sources : (p m : ℕ) → named c2 p m ≢ 0 → Source Never 0 p m
          sources p m some = elim (holders p m some) [
            | inl e ↦ inl (j, ap is_some at, e ∙ sym (moved-here j refl), ap (λ x. named c2 x m) (e ∙ sym (moved-here j refl)) ∙ names_moved j m (ap is_some at))
            | inr o ↦ inl (p, o.0, sym (moved-other p o.1), names_other p m o.0 o.1)
          ]

  -- ---- a kid is new
  module _ (five child : ℕ) (changes : ChangesKid ws ws' five child) (none : kid_in ws five ≡ 0)
      (used : InUse child) (other : child ≢ j) (some : child ≢ 0) (unnamed : (p m : ℕ) → named c p m ≢ child)
      (no_kids : (m : ℕ) → kid_at c child m ≡ 0) (no_rows : (b : ℕ) → row_in (words_at c child) b ≡ None) where
    -- where a walk stood, and where it stands now: at the same block, or at the new kid, where it had ended
    abbrev Follows : ℕ → ℕ → Type 0
    Follows x y = (InUse x × (y ≡ moved x)) ⊎ ((x ≡ 0) × (y ≡ child))

    -- the name that is new is that of the kid
    abbrev IsChild : ℕ → Type 0
    IsChild x = x ≡ child

    kid_names : (p m : ℕ) → p ≢ 0 → InUse p → kid_at c2 (moved p) m ≡ named c2 (moved p) m
    kid_names p m n u = sym (named-kid c2 (moved p) m (λ z. n (moved_apart p 0 u zero_used (z ∙ sym moved-zero))))

    -- the kids of the block
    kids_here : (m : ℕ) → m ≢ five → kid_at c2 (moved j) m ≡ moved (kid_at c j m)
    kids_here m n =
        kid_names j m real (ap is_some at) ∙ ap (λ x. named c2 x m) (moved-here j refl) ∙ names_here m ∙ changes.others m n ∙ sym (names_before m)
        ∙ sym (moved-other (named c j m) (not_itself m)) ∙ ap moved (named-kid c j m real)

    kid_here : kid_at c2 (moved j) five ≡ child
    kid_here = kid_names j five real (ap is_some at) ∙ ap (λ x. named c2 x five) (moved-here j refl) ∙ names_here five ∙ changes.here

    had_no_kid : kid_at c j five ≡ 0
    had_no_kid = ap (λ o. kid_in (words_in_block o) five) at ∙ none

    -- the kids of another block
    kids_other : (p m : ℕ) → InUse p → p ≢ j → kid_at c2 (moved p) m ≡ moved (kid_at c p m)
    kids_other p m u n = elim (cases_eq p 0) [
      | inl z ↦
          ap (λ x. kid_at c2 x m) (ap moved z ∙ moved-zero) ∙ kid-nowhere c2 zeros_stay m ∙ sym moved-zero
          ∙ ap moved (sym (kid-nowhere c sound.nowhere m)) ∙ ap (λ x. moved (kid_at c x m)) (sym z)
      | inr y ↦ kid_names p m y u ∙ ap (λ x. named c2 x m) (moved-other p n) ∙ names_other p m u n ∙ ap moved (named-kid c p m y)
    ]

    kid_in_use : (p m : ℕ) → InUse (kid_at c p m)
    kid_in_use p m = elim (cases_eq p 0) [
      | inl z ↦ subst InUse (sym (ap (λ x. kid_at c x m) z ∙ kid-nowhere c sound.nowhere m)) zero_used
      | inr n ↦ subst InUse (named-kid c p m n) (named_used c sound p m)
    ]

    -- a step keeps that
    step_follows : (x y m : ℕ) → Follows x y → Follows (kid_at c x m) (kid_at c2 y m)
    step_follows x y m (inl s) = by (cases_eq x j) (cases_eq m five)
      where
        by : (x ≡ j) ⊎ (x ≡ j → ⊥) → (m ≡ five) ⊎ (m ≡ five → ⊥) → Follows (kid_at c x m) (kid_at c2 y m)
        by (inl e) (inl f) = inr (
          ap (λ z. kid_at c z m) e ∙ ap (kid_at c j) f ∙ had_no_kid,
          ap (λ z. kid_at c2 z m) (s.1 ∙ ap moved e) ∙ ap (kid_at c2 (moved j)) f ∙ kid_here,
        )
        by (inl e) (inr n) = inl (kid_in_use x m, ap (λ z. kid_at c2 z m) (s.1 ∙ ap moved e) ∙ kids_here m n ∙ ap (λ z. moved (kid_at c z m)) (sym e))
        by (inr n) f = inl (kid_in_use x m, ap (λ z. kid_at c2 z m) s.1 ∙ kids_other x m s.0 n)
    step_follows x y m (inr s) = inl (
      kid_in_use x m,
      ap (λ z. kid_at c2 z m) (s.1 ∙ sym (moved-other child other)) ∙ kids_other child m used other ∙ ap moved (no_kids m ∙ sym (kid-nowhere c sound.nowhere m))
          ∙ ap (λ z. moved (kid_at c z m)) (sym s.0),
    )

    walk_follows : (path steps : ℕ) → Follows (block_at c path steps) (block_at c2 path steps)
    walk_follows path zero = inl (
      block_used c sound path 0,
      block-first c2 path ∙ names_other 0 (path_start path (depth_of c.first)) zero_used (λ e. real (sym e)) ∙ ap moved (sym (block-first c path)),
    )
    walk_follows path (suc steps) =
        subst (λ x. Follows x (block_at c2 path (suc steps))) (sym (block-next c path steps))
        (subst (Follows (kid_at c (block_at c path steps) (five_bits path (c.first + steps)))) (sym (block-next c2 path steps))
        (step_follows (block_at c path steps) (block_at c2 path steps) (five_bits path (c.first + steps)) (walk_follows path steps)))

    -- rows are the same where walks stand
    rows_follow : (x y b : ℕ) → Follows x y → row_in (words_at c2 y) b ≡ row_in (words_at c x) b
    rows_follow x y b (inl s) = elim (cases_eq x j) [
      | inl e ↦
          ap (λ z. row_in (words_at c2 z) b) (s.1 ∙ moved-here x e) ∙ rows_here b ∙ changes.rows b
          ∙ ap (λ o. row_in (words_in_block o) b) (sym at) ∙ ap (λ z. row_in (words_at c z) b) (sym e)
      | inr n ↦ ap (λ z. row_in (words_at c2 z) b) (s.1 ∙ moved-other x n) ∙ rows_other x b s.0 n
    ]
    rows_follow x y b (inr s) =
        ap (λ z. row_in (words_at c2 z) b) s.1 ∙ rows_other child b used other ∙ no_rows b
        ∙ sym (ap (λ z. row_in (words_at c z) b) s.0 ∙ row-nowhere c sound.nowhere b)

    -- no row has changed
    pub kid_words : (path len : ℕ) → word_at c2 path len ≡ word_at c path len
    unfolding long_word
    kid_words path len = elim (cases_lt (depth_of c.first) len) [
      | inl long ↦
          let down : ℕ = level_of len - c.first in
          word-long c2 path len long
          ∙ rows_follow (block_at c path down) (block_at c2 path down) (row_bit (five_bits path (level_of len)) (more_of len)) (walk_follows path down)
          ∙ sym (word-long c path len long)
      | inr low ↦ shorts_stay path len low
    ]

    -- the new kid stands on the path, below the block
    pub kid_place : (path steps : ℕ) → block_at c path steps ≡ j → five_bits path (c.first + steps) ≡ five → block_at c2 path (suc steps) ≡ child
    kid_place path steps there f =
        block-next c2 path steps ∙ ap (λ x. kid_at c2 x (five_bits path (c.first + steps))) (on (walk_follows path steps)) ∙ ap (kid_at c2 (moved j)) f ∙ kid_here
      where
        on : Follows (block_at c path steps) (block_at c2 path steps) → block_at c2 path steps ≡ moved j
        on (inl s) = s.1 ∙ ap moved there
        on (inr s) = absurd (real (sym there ∙ s.0))

    -- the image is sound
    pub kid_sound : IsBlock ws' → IsSoundCells c2
    kid_sound new = record {
      four_sizes = sound.four_sizes;
      nowhere = zeros_stay;
      blocks_there = there_still IsChild five sources child_used child_apart;
      names_apart = apart_still IsChild five sources child_used child_apart;
      blocks = blocks_stay new;
      row_words = λ path len w fits short e. sound.row_words path len w fits short (sym (kid_words path len) ∙ e);
      longest_shorts = λ p fits. shorts_found p (c.bests (path_start p (depth_of c.first))) (sound.longest_shorts p fits);
    }
      where
        child_used : (x : ℕ) → IsChild x → is_some (heap2 x) ≡ true
        child_used x h = subst (λ y. is_some (heap2 y) ≡ true) (sym h) (other_used child used other)

        child_apart : (x o m : ℕ) → IsChild x → x ≢ moved (named c o m)
        child_apart x o m h e = elim (cases_eq (named c o m) j) [
          | inl here ↦ not_new child used other (sym h ∙ e ∙ moved-here (named c o m) here)
          | inr away ↦ unnamed o m (sym (moved-other (named c o m) away) ∙ sym e ∙ h)
        ]

        by_index : (p m : ℕ) → p ≡ j' → (m ≡ five) ⊎ (m ≡ five → ⊥) → Source IsChild five p m
        by_index p m e (inl f) = inr (e, f, ap (λ x. named c2 x m) e ∙ names_here m ∙ ap (kid_in ws') f ∙ changes.here)
        by_index p m e (inr n) = inl (
          j,
          ap is_some at,
          e ∙ sym (moved-here j refl),
          ap (λ x. named c2 x m) e ∙ names_here m ∙ changes.others m n ∙ sym (names_before m) ∙ sym (moved-other (named c j m) (not_itself m)),
        )

        sources : (p m : ℕ) → named c2 p m ≢ 0 → Source IsChild five p m
        sources p m n = elim (holders p m n) [
          | inl e ↦ by_index p m e (cases_eq m five)
          | inr o ↦ inl (p, o.0, sym (moved-other p o.1), names_other p m o.0 o.1)
        ]

  -- ---- a kid without rows and kids has lost its name
  module _ (five child : ℕ) (changes : ChangesKid ws ws' five 0) (was : kid_in ws five ≡ child) (some : child ≢ 0)
      (no_kids : (m : ℕ) → kid_at c child m ≡ 0) (no_rows : (b : ℕ) → row_in (words_at c child) b ≡ None) where
    was_named : named c j five ≡ child
    was_named = names_before five ∙ was

    only_name : (p m : ℕ) → named c p m ≡ child → (p ≡ j) × (m ≡ five)
    only_name p m e = sound.names_apart p j m five (λ z. some (sym e ∙ z)) (e ∙ sym was_named)

    -- it is in use, and is another block
    pub lost_used : InUse child
    lost_used = subst InUse was_named (named_used c sound j five)

    pub lost_other : child ≢ j
    lost_other e = not_itself five (was_named ∙ e)

    -- it does not hold the name of the block
    pub lost_holds_none : child ≢ q
    lost_holds_none e = real (sym name ∙ ap (λ x. named c x k) (sym e) ∙ named-kid c child k some ∙ no_kids k)

    -- where a walk stood, and where it stands now: at the same block, or nowhere, where it stood at the kid
    abbrev Follows' : ℕ → ℕ → Type 0
    Follows' x y = (InUse x × (x ≢ child) × (y ≡ moved x)) ⊎ ((x ≡ child) × (y ≡ 0))

    -- what stands at a name follows
    name_follows : (p m : ℕ) → InUse p → Follows' (named c p m) (named c2 (moved p) m)
    name_follows p m u = by (cases_eq p j) (cases_eq m five)
      where
        by : (p ≡ j) ⊎ (p ≡ j → ⊥) → (m ≡ five) ⊎ (m ≡ five → ⊥) → Follows' (named c p m) (named c2 (moved p) m)
        by (inl e) (inl f) = inr (
          ap (λ x. named c x m) e ∙ ap (named c j) f ∙ was_named,
          ap (λ x. named c2 x m) (moved-here p e) ∙ names_here m ∙ ap (kid_in ws') f ∙ changes.here,
        )
        by (inl e) (inr n) = inl (
          named_used c sound p m,
          λ z. n (only_name p m z).1,
          ap (λ x. named c2 x m) (moved-here p e) ∙ names_here m ∙ changes.others m n ∙ sym (names_before m)
              ∙ sym (moved-other (named c j m) (not_itself m)) ∙ ap (λ x. moved (named c x m)) (sym e),
        )
        by (inr n) f = inl (named_used c sound p m, λ z. n (only_name p m z).0, ap (λ x. named c2 x m) (moved-other p n) ∙ names_other p m u n)

    -- no kid stands at 0
    zero_follows : (x y m : ℕ) → x ≡ 0 → y ≡ 0 → Follows' (kid_at c x m) (kid_at c2 y m)
    zero_follows x y m e f =
        let old : kid_at c x m ≡ 0 = ap (λ z. kid_at c z m) e ∙ kid-nowhere c sound.nowhere m in
        let new : kid_at c2 y m ≡ 0 = ap (λ z. kid_at c2 z m) f ∙ kid-nowhere c2 zeros_stay m in
        inl (subst InUse (sym old) zero_used, λ z. some (sym z ∙ old), new ∙ sym moved-zero ∙ ap moved (sym old))

    -- a step keeps that
    kid_follows : (x y m : ℕ) → Follows' x y → Follows' (kid_at c x m) (kid_at c2 y m)
    kid_follows x y m (inl s) = elim (cases_eq x 0) [
      | inl z ↦ zero_follows x y m z (s.2 ∙ ap moved z ∙ moved-zero)
      | inr n ↦
          let still : moved x ≢ 0 = λ z. n (moved_apart x 0 s.0 zero_used (z ∙ sym moved-zero)) in
          subst (λ v. Follows' v (kid_at c2 y m)) (named-kid c x m n)
          (subst (Follows' (named c x m)) (named-kid c2 (moved x) m still ∙ ap (λ p. kid_at c2 p m) (sym s.2)) (name_follows x m s.0))
    ]
    kid_follows x y m (inr s) =
        let old : kid_at c x m ≡ 0 = ap (λ z. kid_at c z m) s.0 ∙ no_kids m in
        let new : kid_at c2 y m ≡ 0 = ap (λ z. kid_at c2 z m) s.1 ∙ kid-nowhere c2 zeros_stay m in
        inl (subst InUse (sym old) zero_used, λ z. some (sym z ∙ old), new ∙ sym moved-zero ∙ ap moved (sym old))

    -- so do walks
    lost_follows : (path steps : ℕ) → Follows' (block_at c path steps) (block_at c2 path steps)
    lost_follows path zero =
        subst (λ x. Follows' x (block_at c2 path 0)) (sym (block-first c path))
        (subst (Follows' (named c 0 (path_start path (depth_of c.first)))) (ap (λ x. named c2 x (path_start path (depth_of c.first))) moved-zero ∙ sym (block-first c2 path))
        (name_follows 0 (path_start path (depth_of c.first)) zero_used))
    lost_follows path (suc steps) =
        subst (λ x. Follows' x (block_at c2 path (suc steps))) (sym (block-next c path steps))
        (subst (Follows' (kid_at c (block_at c path steps) (five_bits path (c.first + steps)))) (sym (block-next c2 path steps))
        (kid_follows (block_at c path steps) (block_at c2 path steps) (five_bits path (c.first + steps)) (lost_follows path steps)))

    -- and those to the kid end before it
    pub lost_gone : (path steps : ℕ) → block_at c path steps ≡ child → block_at c2 path steps ≡ 0
    lost_gone path steps e = by (lost_follows path steps)
      where
        by : Follows' (block_at c path steps) (block_at c2 path steps) → block_at c2 path steps ≡ 0
        by (inl s) = absurd (s.1 e)
        by (inr s) = s.1

    -- rows are the same where walks stand
    rows_left : (x y b : ℕ) → Follows' x y → row_in (words_at c2 y) b ≡ row_in (words_at c x) b
    rows_left x y b (inl s) = elim (cases_eq x j) [
      | inl e ↦
          ap (λ z. row_in (words_at c2 z) b) (s.2 ∙ moved-here x e) ∙ rows_here b ∙ changes.rows b
          ∙ ap (λ o. row_in (words_in_block o) b) (sym at) ∙ ap (λ z. row_in (words_at c z) b) (sym e)
      | inr n ↦ ap (λ z. row_in (words_at c2 z) b) (s.2 ∙ moved-other x n) ∙ rows_other x b s.0 n
    ]
    rows_left x y b (inr s) =
        ap (λ z. row_in (words_at c2 z) b) s.1 ∙ row-nowhere c2 zeros_stay b ∙ sym (ap (λ z. row_in (words_at c z) b) s.0 ∙ no_rows b)

    -- no row has changed
    pub lost_words : (path len : ℕ) → word_at c2 path len ≡ word_at c path len
    unfolding long_word
    lost_words path len = elim (cases_lt (depth_of c.first) len) [
      | inl long ↦
          let down : ℕ = level_of len - c.first in
          word-long c2 path len long
          ∙ rows_left (block_at c path down) (block_at c2 path down) (row_bit (five_bits path (level_of len)) (more_of len)) (lost_follows path down)
          ∙ sym (word-long c path len long)
      | inr low ↦ shorts_stay path len low
    ]

    -- each name is an old one
    lost_by_index : (p m : ℕ) → named c2 p m ≢ 0 → p ≡ j' → (m ≡ five) ⊎ (m ≡ five → ⊥) → Source Never 0 p m
    lost_by_index p m n e (inl f) = absurd (n (ap (λ x. named c2 x m) e ∙ names_here m ∙ ap (kid_in ws') f ∙ changes.here))
    lost_by_index p m n e (inr o) = inl (
      j,
      ap is_some at,
      e ∙ sym (moved-here j refl),
      ap (λ x. named c2 x m) e ∙ names_here m ∙ changes.others m o ∙ sym (names_before m) ∙ sym (moved-other (named c j m) (not_itself m)),
    )

    lost_sources : (p m : ℕ) → named c2 p m ≢ 0 → Source Never 0 p m
    lost_sources p m n = elim (holders p m n) [
      | inl e ↦ lost_by_index p m n e (cases_eq m five)
      | inr o ↦ inl (p, o.0, sym (moved-other p o.1), names_other p m o.0 o.1)
    ]

    -- none is that of the kid
    pub lost_unnamed : (p m : ℕ) → named c2 p m ≢ child
    lost_unnamed p m e = elim (lost_sources p m (λ z. some (sym e ∙ z))) [
      | inl s ↦
          let one : named c s.0 m ≡ child = moved_apart (named c s.0 m) child (named_used c sound s.0 m) lost_used (sym s.3 ∙ e ∙ sym (moved-other child lost_other)) in
          let both = only_name s.0 m one in
          let here : p ≡ j' = s.2 ∙ moved-here s.0 both.0 in
          some (sym e ∙ ap (λ x. named c2 x m) here ∙ names_here m ∙ ap (kid_in ws') both.1 ∙ changes.here)
      | inr s ↦ absurd s.2
    ]

    -- its words have stayed
    pub lost_stays : heap2 child ≡ c.heap child
    lost_stays = wr.elsewhere child lost_holds_none ∙ other_heap child lost_used lost_other

    -- the image is sound
    pub lost_sound : IsBlock ws' → IsSoundCells c2
    lost_sound new = record {
      four_sizes = sound.four_sizes;
      nowhere = zeros_stay;
      blocks_there = there_still Never 0 lost_sources lost_used_never lost_apart_never;
      names_apart = apart_still Never 0 lost_sources lost_used_never lost_apart_never;
      blocks = blocks_stay new;
      row_words = λ path len w fits short e. sound.row_words path len w fits short (sym (lost_words path len) ∙ e);
      longest_shorts = λ p fits. shorts_found p (c.bests (path_start p (depth_of c.first))) (sound.longest_shorts p fits);
    }
      where
        lost_used_never : (x : ℕ) → Never x → is_some (heap2 x) ≡ true
        lost_used_never x h = absurd h

        lost_apart_never : (x o m : ℕ) → Never x → x ≢ moved (named c o m)
        lost_apart_never x o m h = absurd h
