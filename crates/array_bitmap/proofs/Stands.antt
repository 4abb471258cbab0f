-- A block that stands on a path is changed, and its name is written.
use Rattle.std.proofs.Common.{ℕ, suc, ◌≡◌, ◌≢◌, inl, inr, ◌+◌, ◌-◌, ◌*◌, ◌/◌, ◌%◌, ◌^◌, ◌<◌, ◌≤◌, List, length, Option, Some, None, true, is_some, count_ones, arith, refl, sym, ap, subst, ◌∙◌, zero}
use Rattle.std.specs.Int.{bit_at}
use Rattle.std.proofs.{lemmas.Bool.cases_eq, lemmas.Bool.cases_lt, lemmas.Bool.false≢true, lemmas.Nat.Bits.bit_at-zero, lemmas.Nat.Bits.bit_at_above, Math.Nat.pow-le-pow_right}
use mathlib.Core.Path.{fun_ext}
use Rattle.array_bitmap.specs.Bits.{depth_of, five_bits, path_start, row_bit}
use Rattle.array_bitmap.specs.{Words.IsRowWord, Image.IsStand, Image.LosesBlock, declared.tree.Stand.Stand}
use Rattle.array_bitmap.specs.Blocks.{row_map, kid_map, size_for, row_in, kid_in, IsBlock}
use Rattle.array_bitmap.specs.Tree.{Cells, words_in_block, words_at, kid_at, block_at, word_at, named, IsSoundCells, SetsWord}
use Rattle.array_bitmap.specs.Changes.{IsReworded, WritesName, PutsRow, PutsKid, TakesBlank, TakesRow, TakesKid}
use Rattle.array_bitmap.proofs.{Covering.row-clear, ShortRows.start_small, PrefixRows.word_covers, Puts.four, PoolWords.is_words}
use Rattle.bitmaps.proofs.{Options.some-from, Ranks.ones_of_zero}
use Rattle.array_bitmap.proofs.Walks.{kid-clear, kid_is_set, block-first, block-next, word_in, gone}
use Rattle.array_bitmap.proofs.Drops.{unnamed_sound, unnamed_words, unnamed_gone, has_no_name, given_sound, given_words, given_walks}
use Rattle.array_bitmap.proofs.OnePath.{named-kid, holder, index_in, name_of, named_used, not_its_own}
use Rattle.array_bitmap.proofs.Moves.{row_sets, row_sound, kid_words, kid_place, kid_sound, lost_sound, lost_words, lost_unnamed, lost_stays, lost_gone}
use Rattle.array_bitmap.proofs.NewBlocks.{taken_names, taken_walks, taken_words, taken_unnamed, taken_sound, first_words, first_place, first_sound}

-- bitmaps without bits have no rows and no kids
pub no_rows_in : (ws : List ℕ) → row_map ws ≡ 0 → (b : ℕ) → row_in ws b ≡ None
no_rows_in ws e b = row-clear ws b (λ h. let z : bit_at 0 b ≡ 0 = bit_at-zero b in omega (arith, ap (λ n. bit_at n b) e, z, h))

pub no_kids_in : (ws : List ℕ) → kid_map ws ≡ 0 → (v : ℕ) → kid_in ws v ≡ 0
no_kids_in ws e v = kid-clear ws v (λ h. let z : bit_at 0 v ≡ 0 = bit_at-zero v in omega (arith, ap (λ n. bit_at n v) e, z, h))

module _ (c : Cells) (sound : IsSoundCells c) (path steps : ℕ) (stand : Stand) (st : IsStand c path steps stand) (deep : c.first + steps ≤ 6) where
  -- the block is not its own holder
  pub stand_apart : stand.holder ≢ stand.block
  stand_apart e =
      let at = st.at in
      let some : block_at c path steps ≢ 0 = λ z. st.real (sym at ∙ z) in
      let same = sound.names_apart stand.holder (holder c path steps) stand.index (index_in c path steps) (λ z. st.real (sym st.name ∙ z))
      (st.name ∙ sym at ∙ sym (name_of c sound path steps some)) in
      not_its_own c sound path steps deep some (sym same.0 ∙ e ∙ sym at)

  -- the holder is in use, and so is the block
  pub block_there : is_some (c.heap stand.block) ≡ true
  block_there = ap (λ p. is_some (c.heap p)) (sym st.name) ∙ named_used c sound stand.holder stand.index

  kid_there : stand.holder ≢ 0 → kid_in (words_at c stand.holder) stand.index ≢ 0
  kid_there n z = st.real (sym st.name ∙ named-kid c stand.holder stand.index n ∙ z)

  pub holder_there : is_some (c.heap stand.holder) ≡ true
  holder_there = elim (cases_eq stand.holder 0) [
    | inl e ↦ ap (λ p. is_some (c.heap p)) e ∙ ap is_some sound.nowhere
    | inr n ↦ by_words (c.heap stand.holder) refl n
  ]
    where
      by_words : (o : Option (List ℕ)) → c.heap stand.holder ≡ o → stand.holder ≢ 0 → is_some (c.heap stand.holder) ≡ true
      by_words None e n = absurd (kid_there n (ap (λ x. kid_in (words_in_block x) stand.index) e ∙ kid-clear _ stand.index (λ h. let z : bit_at 0 stand.index ≡ 0 = bit_at-zero stand.index in omega (arith, z, h))))
      by_words (Some x) e n = ap is_some e

  pub holder_is : IsBlock (words_at c stand.holder)
  holder_is = let s = some-from (c.heap stand.holder) holder_there in subst (λ o. IsBlock (words_in_block o)) (sym s.1) (sound.blocks stand.holder s.0 s.1)

  pub stand_is : IsBlock (words_at c stand.block)
  stand_is = let s = some-from (c.heap stand.block) block_there in subst (λ o. IsBlock (words_in_block o)) (sym s.1) (sound.blocks stand.block s.0 s.1)

  -- the bit of its name is set
  pub holder_bit : stand.holder ≢ 0 → bit_at (kid_map (words_at c stand.holder)) stand.index ≡ 1
  holder_bit n = kid_is_set (words_at c stand.holder) stand.index (kid_there n)

  pub holder_index : stand.holder ≢ 0 → stand.index < 32
  holder_index n = elim (cases_lt stand.index 32) [
    | inl l ↦ l
    | inr g ↦ absurd (let z : bit_at (kid_map (words_at c stand.holder)) stand.index ≡ 0 = bit_at_above (kid_map (words_at c stand.holder)) 32 stand.index holder_is.few_kids g in omega (arith, z, holder_bit n))
  ]

  module _ (heap1 : ℕ → Option (List ℕ)) (place : ℕ) (ws' : List ℕ) (re : IsReworded c.heap heap1 stand.block place ws') where
    -- the holder stays where the block changes
    pub holder_stays : heap1 stand.holder ≡ c.heap stand.holder
    holder_stays = re.others stand.holder stand_apart (λ e. elim (cases_eq place stand.block) [
      | inl same ↦ stand_apart (e ∙ same)
      | inr away ↦ false≢true (sym (ap is_some (re.fresh away)) ∙ ap (λ p. is_some (c.heap p)) (sym e) ∙ holder_there)
    ])

    pub holder_stays_block : IsBlock (words_in_block (heap1 stand.holder))
    holder_stays_block = subst (λ o. IsBlock (words_in_block o)) (sym holder_stays) holder_is

    pub holder_stays_bit : stand.holder ≢ 0 → bit_at (kid_map (words_in_block (heap1 stand.holder))) stand.index ≡ 1
    holder_stays_bit n = ap (λ o. bit_at (kid_map (words_in_block o)) stand.index) holder_stays ∙ holder_bit n

-- ---- a row is put into the block
module _ (c new : Cells) (heap1 : ℕ → Option (List ℕ)) (sound : IsSoundCells c) (path level more bit place word : ℕ) (stand : Stand)
    (low : c.first ≤ level) (deep : level ≤ 5) (few : more < 5) (st : IsStand c path (level - c.first) stand) (b : bit ≡ row_bit (five_bits path level) more)
    (put : PutsRow c.heap heap1 stand.block place bit word) (wr : WritesName (record c { heap = heap1 }) new stand.holder stand.index place) where
  on : c.first + (level - c.first) ≡ level
  on = omega arith

  named_so : WritesName (record c { heap = heap1 }) (record c { tops = new.tops; heap = new.heap }) stand.holder stand.index place
  named_so = subst (λ x. WritesName (record c { heap = heap1 }) x stand.holder stand.index place) wr.kept wr

  at_block : c.heap stand.block ≡ Some (words_at c stand.block)
  at_block = is_words (c.heap stand.block) (block_there c sound path (level - c.first) stand st (omega (arith, low, deep)))

  bit_here : bit ≡ row_bit (five_bits path (c.first + (level - c.first))) more
  bit_here = b ∙ ap (λ l. row_bit (five_bits path l) more) (sym on)

  pub put_sets : SetsWord (word_at c) (word_at new) path (depth_of level + (more + 1)) (Some word)
  put_sets =
      let s = row_sets c heap1 new.tops new.heap stand.block place stand.holder stand.index (words_at c stand.block) (words_in_block (heap1 place)) sound at_block st.real st.name
      (stand_apart c sound path (level - c.first) stand st (omega (arith, low, deep))) put.reworded named_so bit (Some word) put.changes path (level - c.first) more (omega (arith, on, deep)) few st.at bit_here in
      subst (λ x. SetsWord (word_at c) (word_at x) path (depth_of level + (more + 1)) (Some word)) (sym wr.kept)
      (subst (λ l. SetsWord (word_at c) (word_at (record c { tops = new.tops; heap = new.heap })) path (depth_of l + (more + 1)) (Some word)) on s)

  pub put_sound : IsRowWord (depth_of level + (more + 1)) word → IsSoundCells new
  put_sound own =
      let s = row_sound c heap1 new.tops new.heap stand.block place stand.holder stand.index (words_at c stand.block) (words_in_block (heap1 place)) sound at_block st.real st.name
      (stand_apart c sound path (level - c.first) stand st (omega (arith, low, deep))) put.reworded named_so bit (Some word) put.changes path (level - c.first) more (omega (arith, on, deep)) few st.at bit_here
      put.is_block (λ w e. let same : word ≡ w = cc in subst (IsRowWord (depth_of (c.first + (level - c.first)) + (more + 1))) same (subst (λ l. IsRowWord (depth_of l + (more + 1)) word) (sym on) own)) in
      subst IsSoundCells (sym wr.kept) s

-- ---- a block without rows and kids is taken for a kid
module _ (c : Cells) (heap0 : ℕ → Option (List ℕ)) (sound : IsSoundCells c) (path level kid : ℕ) (stand : Stand)
    (low : c.first ≤ level) (deep : level < 5) (st : IsStand c path (level - c.first) stand) (taken : TakesBlank c.heap heap0 kid) where
  -- the image with the block that was taken
  abbrev with_blank : Cells
  with_blank = record c { heap = heap0 }

  blank_there : heap0 kid ≡ Some (words_in_block (heap0 kid))
  blank_there = is_words (heap0 kid) taken.used

  pub blank_kids : (m : ℕ) → kid_in (words_in_block (heap0 kid)) m ≡ 0
  blank_kids = no_kids_in (words_in_block (heap0 kid)) taken.no_kids

  pub blank_rows : (b : ℕ) → row_in (words_in_block (heap0 kid)) b ≡ None
  blank_rows = no_rows_in (words_in_block (heap0 kid)) taken.no_rows

  pub blank_sound : IsSoundCells with_blank
  blank_sound = taken_sound c heap0 kid (words_in_block (heap0 kid)) sound taken.fresh blank_there taken.others blank_kids blank_rows taken.is_block

  -- the block stands where it stood
  pub blank_stand : IsStand with_blank path (level - c.first) stand
  blank_stand = record {
    at = taken_walks c heap0 kid (words_in_block (heap0 kid)) sound taken.fresh blank_there taken.others blank_kids blank_rows path (level - c.first) ∙ st.at;
    real = st.real;
    name = taken_names c heap0 kid (words_in_block (heap0 kid)) sound taken.fresh blank_there taken.others blank_kids blank_rows stand.holder stand.index ∙ st.name;
  }

  pub blank_words : (q m : ℕ) → word_at with_blank q m ≡ word_at c q m
  blank_words = taken_words c heap0 kid (words_in_block (heap0 kid)) sound taken.fresh blank_there taken.others blank_kids blank_rows

  pub blank_other : kid ≢ stand.block
  blank_other e = false≢true (sym (ap is_some taken.fresh) ∙ ap (λ p. is_some (c.heap p)) e ∙ block_there c sound path (level - c.first) stand st (omega (arith, low, deep)))

  pub blank_unnamed : (p m : ℕ) → named with_blank p m ≢ kid
  blank_unnamed = taken_unnamed c heap0 kid (words_in_block (heap0 kid)) sound taken.fresh blank_there taken.others blank_kids blank_rows

  -- ---- and put into the block
  module _ (new : Cells) (heap1 : ℕ → Option (List ℕ)) (five place : ℕ) (put : PutsKid heap0 heap1 stand.block place five kid) where
    pub kid_holder_block : IsBlock (words_in_block (heap1 stand.holder))
    kid_holder_block =
        holder_stays_block with_blank blank_sound path (level - c.first) stand blank_stand (omega (arith, low, deep)) heap1 place (words_in_block (heap1 place)) put.reworded

    pub kid_holder_bit : stand.holder ≢ 0 → bit_at (kid_map (words_in_block (heap1 stand.holder))) stand.index ≡ 1
    kid_holder_bit =
        holder_stays_bit with_blank blank_sound path (level - c.first) stand blank_stand (omega (arith, low, deep)) heap1 place (words_in_block (heap1 place)) put.reworded

    module _ (f : five ≡ five_bits path level) (none : kid_in (words_at c stand.block) five ≡ 0)
        (wr : WritesName (record c { heap = heap1 }) new stand.holder stand.index place) where
      down : c.first + (level - c.first) ≡ level
      down = omega arith

      named_kid : WritesName (record with_blank { heap = heap1 }) (record with_blank { tops = new.tops; heap = new.heap }) stand.holder stand.index place
      named_kid = subst (λ x. WritesName (record c { heap = heap1 }) x stand.holder stand.index place) wr.kept wr

      block_stays : heap0 stand.block ≡ Some (words_at with_blank stand.block)
      block_stays = is_words (heap0 stand.block) (block_there with_blank blank_sound path (level - c.first) stand blank_stand (omega (arith, low, deep)))

      still_none : kid_in (words_at with_blank stand.block) five ≡ 0
      still_none = ap (λ o. kid_in (words_in_block o) five) (taken.others stand.block (λ e. blank_other (sym e))) ∙ none

      apart : stand.holder ≢ stand.block
      apart = stand_apart c sound path (level - c.first) stand st (omega (arith, low, deep))

      pub kid_put_words : (q m : ℕ) → word_at new q m ≡ word_at c q m
      kid_put_words q m =
          ap (λ x. word_at x q m) wr.kept
          ∙ kid_words with_blank heap1 new.tops new.heap stand.block place stand.holder stand.index (words_at with_blank stand.block) (words_in_block (heap1 place)) blank_sound block_stays st.real blank_stand.name apart
          put.reworded named_kid five kid put.changes still_none taken.used blank_other taken.somewhere blank_unnamed blank_kids blank_rows q m
          ∙ blank_words q m

      pub kid_put_sound : IsSoundCells new
      kid_put_sound =
          subst IsSoundCells (sym wr.kept)
          (kid_sound with_blank heap1 new.tops new.heap stand.block place stand.holder stand.index (words_at with_blank stand.block) (words_in_block (heap1 place)) blank_sound block_stays st.real blank_stand.name apart
          put.reworded named_kid five kid put.changes still_none taken.used blank_other taken.somewhere blank_unnamed blank_kids blank_rows put.is_block)

      kid_stands : block_at new path (suc (level - c.first)) ≡ kid
      kid_stands =
          ap (λ x. block_at x path (suc (level - c.first))) wr.kept
          ∙ kid_place with_blank heap1 new.tops new.heap stand.block place stand.holder stand.index (words_at with_blank stand.block) (words_in_block (heap1 place)) blank_sound block_stays st.real blank_stand.name apart
          put.reworded named_kid five kid put.changes still_none taken.used blank_other taken.somewhere blank_unnamed blank_kids blank_rows path (level - c.first) blank_stand.at (ap (five_bits path) down ∙ sym f)

      kid_named : named new place five ≡ kid
      kid_named =
          wr.others place five (λ e x. not_moved (sym e))
          ∙ named-kid (record c { heap = heap1 }) place five put.reworded.somewhere ∙ put.changes.here
        where
          not_moved : stand.holder ≢ place
          not_moved e = elim (cases_eq place stand.block) [
            | inl same ↦ apart (e ∙ same)
            | inr away ↦ false≢true (sym (ap is_some (put.reworded.fresh away)) ∙ ap (λ p. is_some (heap0 p)) (sym e)
                ∙ holder_there with_blank blank_sound path (level - c.first) stand blank_stand (omega (arith, low, deep)))
          ]

      pub kid_put_stand : IsStand new path (level + 1 - new.first) (record { holder = place; index = five; block = kid })
      kid_put_stand =
          let first : new.first ≡ c.first = ap (λ (x : Cells). x.first) wr.kept in
          let e : level + 1 - new.first ≡ suc (level - c.first) = omega (arith, first, low) in
          subst (λ n. IsStand new path n (record { holder = place; index = five; block = kid })) (sym e)
          (record { at = kid_stands; real = taken.somewhere; name = kid_named })

-- ---- where a call is refused, all blocks stay
pub same_cells : (c : Cells) (heap1 : ℕ → Option (List ℕ)) → ((b : ℕ) → heap1 b ≡ c.heap b) → record c { heap = heap1 } ≡ c
same_cells c heap1 e = ap (λ h. record c { heap = h }) (fun_ext e)

-- a kid that there is stands below the block
pub kid_stand : (c : Cells) (sound : IsSoundCells c) (path level five kid : ℕ) (stand : Stand) → c.first ≤ level → IsStand c path (level - c.first) stand → five ≡ five_bits path level
    → kid ≡ kid_in (words_at c stand.block) five → kid ≢ 0 → IsStand c path (level + 1 - c.first) (record { holder = stand.block; index = five; block = kid })
kid_stand c sound path level five kid stand low st f k some =
    let e : level + 1 - c.first ≡ suc (level - c.first) = omega (arith, low) in
    let on : c.first + (level - c.first) ≡ level = omega (arith, low) in
    subst (λ n. IsStand c path n (record { holder = stand.block; index = five; block = kid })) (sym e) (record {
      at = block-next c path (level - c.first) ∙ ap (λ p. kid_at c p (five_bits path (c.first + (level - c.first)))) st.at
          ∙ ap (kid_at c stand.block) (ap (five_bits path) on ∙ sym f) ∙ sym k;
      real = some;
      name = named-kid c stand.block five st.real ∙ sym k;
    })

-- ---- the first block of a path is made
module _ (c new : Cells) (heap0 : ℕ → Option (List ℕ)) (sound : IsSoundCells c) (path index kid : ℕ) (none : block_at c path 0 ≡ 0) (i : index ≡ path_start path (depth_of c.first))
    (taken : TakesBlank c.heap heap0 kid) (wr : WritesName (record c { heap = heap0 }) new 0 index kid) where
  abbrev with_first : Cells
  with_first = record c { heap = heap0 }

  first_there : heap0 kid ≡ Some (words_in_block (heap0 kid))
  first_there = is_words (heap0 kid) taken.used

  first_kids : (m : ℕ) → kid_in (words_in_block (heap0 kid)) m ≡ 0
  first_kids = no_kids_in (words_in_block (heap0 kid)) taken.no_kids

  first_rows : (b : ℕ) → row_in (words_in_block (heap0 kid)) b ≡ None
  first_rows = no_rows_in (words_in_block (heap0 kid)) taken.no_rows

  first_taken : IsSoundCells with_first
  first_taken = taken_sound c heap0 kid (words_in_block (heap0 kid)) sound taken.fresh first_there taken.others first_kids first_rows taken.is_block

  first_unnamed : (p m : ℕ) → named with_first p m ≢ kid
  first_unnamed = taken_unnamed c heap0 kid (words_in_block (heap0 kid)) sound taken.fresh first_there taken.others first_kids first_rows

  none_named : c.tops index ≡ 0
  none_named = ap c.tops i ∙ sym (block-first c path) ∙ none

  first_named : WritesName with_first (record with_first { tops = new.tops; heap = new.heap }) 0 index kid
  first_named = subst (λ x. WritesName with_first x 0 index kid) wr.kept wr

  pub first_put_words : (q m : ℕ) → word_at new q m ≡ word_at c q m
  first_put_words q m =
      ap (λ x. word_at x q m) wr.kept
      ∙ first_words with_first new.tops new.heap index kid first_taken none_named first_named taken.used taken.somewhere first_unnamed first_kids first_rows q m
      ∙ taken_words c heap0 kid (words_in_block (heap0 kid)) sound taken.fresh first_there taken.others first_kids first_rows q m

  pub first_put_sound : IsSoundCells new
  first_put_sound =
      subst IsSoundCells (sym wr.kept) (first_sound with_first new.tops new.heap index kid first_taken none_named first_named taken.used taken.somewhere first_unnamed first_kids first_rows)

  pub first_put_stand : IsStand new path 0 (record { holder = 0; index = index; block = kid })
  first_put_stand = record {
    at = ap (λ x. block_at x path 0) wr.kept
        ∙ first_place with_first new.tops new.heap index kid first_taken none_named first_named taken.used taken.somewhere first_unnamed first_kids first_rows path (sym i);
    real = taken.somewhere;
    name = wr.here;
  }

-- a first block that there is stands in the array
pub first_stand_there : (c : Cells) (path index block : ℕ) → index ≡ path_start path (depth_of c.first) → block ≡ block_at c path 0 → block ≢ 0
    → IsStand c path 0 (record { holder = 0; index = index; block = block })
first_stand_there c path index block i b some = record {
  at = sym b;
  real = some;
  name = ap c.tops i ∙ sym (block-first c path) ∙ sym b;
}

-- the index of the array, by the first bits
pub index_is : (path first : ℕ) → first ≤ 3 → path / 2 ^ (30 - 5 * first) ≡ path_start path (depth_of first)
index_is path first four = let e : 30 - 5 * first ≡ 34 - (4 + 5 * first) = omega arith in ap (λ n. path / 2 ^ n) e

pub index_small : (path first : ℕ) → first ≤ 3 → path < 2 ^ 34 → path / 2 ^ (30 - 5 * first) < 2 ^ depth_of first
index_small path first four fits = rw (index_is path first four) (start_small path (depth_of first) fits (omega arith))

pub index_fits : (path first : ℕ) → first ≤ 3 → path < 2 ^ 34 → path / 2 ^ (30 - 5 * first) < 2 ^ 32
index_fits path first four fits =
    let few : 2 ^ depth_of first ≤ 2 ^ 19 = pow-le-pow_right {n = 2} (omega arith) {j = 19} (omega arith) in
    omega (arith, few, index_small path first four fits)

-- ---- a row is taken out of the block
module _ (c new : Cells) (heap1 : ℕ → Option (List ℕ)) (sound : IsSoundCells c) (path level more bit place : ℕ) (stand : Stand)
    (low : c.first ≤ level) (deep : level ≤ 5) (few : more < 5) (st : IsStand c path (level - c.first) stand) (b : bit ≡ row_bit (five_bits path level) more)
    (takes : TakesRow c.heap heap1 stand.block place bit) (wr : WritesName (record c { heap = heap1 }) new stand.holder stand.index place) where
  at_level : c.first + (level - c.first) ≡ level
  at_level = omega arith

  renamed : WritesName (record c { heap = heap1 }) (record c { tops = new.tops; heap = new.heap }) stand.holder stand.index place
  renamed = subst (λ x. WritesName (record c { heap = heap1 }) x stand.holder stand.index place) wr.kept wr

  block_words : c.heap stand.block ≡ Some (words_at c stand.block)
  block_words = is_words (c.heap stand.block) (block_there c sound path (level - c.first) stand st (omega (arith, low, deep)))

  bit_at_level : bit ≡ row_bit (five_bits path (c.first + (level - c.first))) more
  bit_at_level = b ∙ ap (λ l. row_bit (five_bits path l) more) (sym at_level)

  pub out_sets : SetsWord (word_at c) (word_at new) path (depth_of level + (more + 1)) None
  out_sets =
      let s = row_sets c heap1 new.tops new.heap stand.block place stand.holder stand.index (words_at c stand.block) (words_in_block (heap1 place)) sound block_words st.real st.name
      (stand_apart c sound path (level - c.first) stand st (omega (arith, low, deep))) takes.reworded renamed bit None takes.changes path (level - c.first) more (omega (arith, at_level, deep)) few st.at bit_at_level in
      subst (λ x. SetsWord (word_at c) (word_at x) path (depth_of level + (more + 1)) None) (sym wr.kept)
      (subst (λ l. SetsWord (word_at c) (word_at (record c { tops = new.tops; heap = new.heap })) path (depth_of l + (more + 1)) None) at_level s)

  pub out_sound : IsSoundCells new
  out_sound =
      subst IsSoundCells (sym wr.kept)
      (row_sound c heap1 new.tops new.heap stand.block place stand.holder stand.index (words_at c stand.block) (words_in_block (heap1 place)) sound block_words st.real st.name
      (stand_apart c sound path (level - c.first) stand st (omega (arith, low, deep))) takes.reworded renamed bit None takes.changes path (level - c.first) more (omega (arith, at_level, deep)) few st.at bit_at_level
      takes.is_block (λ w e. absurd (let z : None ≡ Some w = e in cc)))

-- a word of a path, by the block at its level
pub word_of_stand : (c : Cells) (path level more block : ℕ) → c.first ≤ level → more < 5 → block_at c path (level - c.first) ≡ block
    → word_at c path (depth_of level + (more + 1)) ≡ row_in (words_at c block) (row_bit (five_bits path level) more)
word_of_stand c path level more block low few at =
    let on : c.first + (level - c.first) ≡ level = omega arith in
    subst (λ l. word_at c path (depth_of l + (more + 1)) ≡ row_in (words_at c block) (row_bit (five_bits path l) more)) on
    (word_in c path (level - c.first) more few ∙ ap (λ p. row_in (words_at c p) (row_bit (five_bits path (c.first + (level - c.first))) more)) at)

-- where there is no row, none is taken out
pub nothing_to_take : (c : Cells) (path len : ℕ) → len ≤ 34 → word_at c path len ≡ None → SetsWord (word_at c) (word_at c) path len None
nothing_to_take c path len short none = record {
  hit = λ q same. word_covers c q path len short same ∙ none;
  miss = λ q m l b out. refl;
}

-- ---- the block has lost its name
module _ (c : Cells) (sound : IsSoundCells c) (path steps : ℕ) (stand : Stand) (st : IsStand c path steps stand)
    (rows : row_map (words_at c stand.block) ≡ 0) (kids : kid_map (words_at c stand.block) ≡ 0) where
  lost_kids : (m : ℕ) → kid_at c stand.block m ≡ 0
  lost_kids = no_kids_in (words_at c stand.block) kids

  lost_rows : (b : ℕ) → row_in (words_at c stand.block) b ≡ None
  lost_rows = no_rows_in (words_at c stand.block) rows

  -- in the array
  module _ (new : Cells) (wr : WritesName c new stand.holder stand.index 0) (deep : c.first + steps ≤ 6) where
    in_array : WritesName c (record c { tops = new.tops; heap = new.heap }) stand.holder stand.index 0
    in_array = subst (λ x. WritesName c x stand.holder stand.index 0) wr.kept wr

    pub top_lost : LosesBlock c new stand.block
    top_lost = record {
      sound = subst IsSoundCells (sym wr.kept) (unnamed_sound c new.tops new.heap stand.holder stand.index stand.block sound st.name st.real in_array lost_kids lost_rows);
      same = λ q m. ap (λ x. word_at x q m) wr.kept ∙ unnamed_words c new.tops new.heap stand.holder stand.index stand.block sound st.name st.real in_array lost_kids lost_rows q m;
      unnamed = λ p m e. has_no_name c new.tops new.heap stand.holder stand.index stand.block sound st.name st.real in_array lost_kids lost_rows p m (sym (ap (λ x. named x p m) wr.kept) ∙ e);
      stays = wr.elsewhere stand.block (λ e. stand_apart c sound path steps stand st deep (sym e));
      gone = λ p n e. ap (λ x. block_at x p n) wr.kept ∙ unnamed_gone c new.tops new.heap stand.holder stand.index stand.block sound st.name st.real in_array lost_kids lost_rows p n e;
    }

  -- or in a block, which may have moved, and whose name is written
  module _ (new : Cells) (heap1 : ℕ → Option (List ℕ)) (place up : ℕ) (above : Stand) (sa : IsStand c path up above) (deep : c.first + up ≤ 6)
      (here : stand.holder ≡ above.block) (takes : TakesKid c.heap heap1 above.block place stand.index)
      (wr : WritesName (record c { heap = heap1 }) new above.holder above.index place) where
    in_block : WritesName (record c { heap = heap1 }) (record c { tops = new.tops; heap = new.heap }) above.holder above.index place
    in_block = subst (λ x. WritesName (record c { heap = heap1 }) x above.holder above.index place) wr.kept wr

    holder_words : c.heap above.block ≡ Some (words_at c above.block)
    holder_words = is_words (c.heap above.block) (block_there c sound path up above sa deep)

    kid_was : kid_in (words_at c above.block) stand.index ≡ stand.block
    kid_was = sym (named-kid c above.block stand.index sa.real) ∙ ap (λ p. named c p stand.index) (sym here) ∙ st.name

    holder_apart : above.holder ≢ above.block
    holder_apart = stand_apart c sound path up above sa deep

    pub kid_lost : LosesBlock c new stand.block
    kid_lost = record {
      sound = subst IsSoundCells (sym wr.kept)
          (lost_sound c heap1 new.tops new.heap above.block place above.holder above.index (words_at c above.block) (words_in_block (heap1 place)) sound holder_words sa.real sa.name holder_apart
          takes.reworded in_block stand.index stand.block takes.changes kid_was st.real lost_kids lost_rows takes.is_block);
      same = λ q m. ap (λ x. word_at x q m) wr.kept
          ∙ lost_words c heap1 new.tops new.heap above.block place above.holder above.index (words_at c above.block) (words_in_block (heap1 place)) sound holder_words sa.real sa.name holder_apart
          takes.reworded in_block stand.index stand.block takes.changes kid_was st.real lost_kids lost_rows q m;
      unnamed = λ p m e. lost_unnamed c heap1 new.tops new.heap above.block place above.holder above.index (words_at c above.block) (words_in_block (heap1 place)) sound holder_words sa.real sa.name holder_apart
          takes.reworded in_block stand.index stand.block takes.changes kid_was st.real lost_kids lost_rows p m (sym (ap (λ x. named x p m) wr.kept) ∙ e);
      stays = lost_stays c heap1 new.tops new.heap above.block place above.holder above.index (words_at c above.block) (words_in_block (heap1 place)) sound holder_words sa.real sa.name holder_apart
          takes.reworded in_block stand.index stand.block takes.changes kid_was st.real lost_kids lost_rows;
      gone = λ p n e. ap (λ x. block_at x p n) wr.kept
          ∙ lost_gone c heap1 new.tops new.heap above.block place above.holder above.index (words_at c above.block) (words_in_block (heap1 place)) sound holder_words sa.real sa.name holder_apart
          takes.reworded in_block stand.index stand.block takes.changes kid_was st.real lost_kids lost_rows p n e;
    }

-- ---- and is given back
module _ (c mid : Cells) (heap2 : ℕ → Option (List ℕ)) (block : ℕ) (lost : LosesBlock c mid block) (real : block ≢ 0) (kids : kid_map (words_at c block) ≡ 0)
    (gone : heap2 block ≡ None) (others : (p : ℕ) → p ≢ block → heap2 p ≡ mid.heap p) where
  still_no_kids : (m : ℕ) → kid_at mid block m ≡ 0
  still_no_kids m = ap (λ o. kid_in (words_in_block o) m) lost.stays ∙ no_kids_in (words_at c block) kids m

  pub dropped_sound : IsSoundCells (record mid { heap = heap2 })
  dropped_sound = given_sound mid heap2 block lost.sound real lost.unnamed gone others still_no_kids

  pub dropped_words : (q m : ℕ) → word_at (record mid { heap = heap2 }) q m ≡ word_at c q m
  dropped_words q m = given_words mid heap2 block lost.sound real lost.unnamed gone others still_no_kids q m ∙ lost.same q m

  -- and a path that led to it ends before it
  pub dropped_gone : (path steps : ℕ) → block_at c path steps ≡ block → block_at (record mid { heap = heap2 }) path steps ≡ 0
  dropped_gone path steps at = given_walks mid heap2 block lost.sound real lost.unnamed gone others still_no_kids path steps ∙ lost.gone path steps at

-- a block that has a holder stands below the array, and its holder is the block above it on the path
pub holder_above : (c : Cells) (sound : IsSoundCells c) (path steps : ℕ) (stand : Stand) → IsStand c path steps stand → stand.holder ≢ 0 → (0 < steps) × (block_at c path (steps - 1) ≡ stand.holder)
holder_above c sound path zero stand st some =
    let at = st.at in
    let same = sound.names_apart stand.holder 0 stand.index (index_in c path 0) (λ z. st.real (sym st.name ∙ z)) (st.name ∙ sym at ∙ sym (name_of c sound path 0 (λ z. st.real (sym at ∙ z)))) in
    absurd (some same.0)
holder_above c sound path (suc steps) stand st some =
    let at = st.at in
    let same = sound.names_apart stand.holder (block_at c path steps) stand.index (five_bits path (c.first + steps)) (λ z. st.real (sym st.name ∙ z)) (st.name ∙ sym at ∙ sym (name_of c sound path (suc steps) (λ z. st.real (sym at ∙ z)))) in
    let e : suc steps - 1 ≡ steps = omega arith in
    (omega arith, ap (block_at c path) e ∙ sym same.0)

-- a block without rows and kids has the least size
pub dropped_size : (ws : List ℕ) → IsBlock ws → row_map ws ≡ 0 → kid_map ws ≡ 0 → length ws ≡ 4
dropped_size ws b r k = b.size ∙ ap size_for (omega (arith, ap count_ones r, ap count_ones k, ones_of_zero)) ∙ sym four

-- ---- the walk to a block
pub walk_ends : (c : Cells) (sound : IsSoundCells c) (path level d : ℕ) → c.first ≤ d → d ≤ level → block_at c path (d - c.first) ≡ 0 → block_at c path (level - c.first) ≡ 0
walk_ends c sound path level d low high e =
    let m : level - d + (d - c.first) ≡ level - c.first = omega (arith, low, high) in
    ap (block_at c path) (sym m) ∙ gone c sound.nowhere path (d - c.first) (level - d) e

-- a long word of a path, by the block at its level
pub word_of_len : (c : Cells) (path len block five bit : ℕ) → depth_of c.first < len → block_at c path ((len - 5) / 5 - c.first) ≡ block → five ≡ five_bits path ((len - 5) / 5) → bit ≡ row_bit five ((len - 5) % 5)
    → word_at c path len ≡ row_in (words_at c block) bit
word_of_len c path len block five bit long at f b =
    let whole : depth_of ((len - 5) / 5) + ((len - 5) % 5 + 1) ≡ len = omega (arith, long) in
    ap (word_at c path) (sym whole) ∙ word_of_stand c path ((len - 5) / 5) ((len - 5) % 5) block (omega (arith, long)) (omega arith) at
    ∙ ap (row_in (words_at c block)) (ap (λ v. row_bit v ((len - 5) % 5)) (sym f) ∙ sym b)
