-- What a change of one block makes of an image's words.
use Rattle.std.specs.Prelude.{ℕ, ◌≡◌, ◌≢◌, ◌+◌, ◌-◌, ◌<◌, ◌≤◌, List, length, slice_index, Option, Some, None, is_some, true}
use Rattle.word_pool.specs.Heap.{size_of, word_of, SameOthers}
use Rattle.array_bitmap.specs.Blocks.{row_map, kid_map, used_words, size_for, row_in, kid_in, IsBlock}
use Rattle.array_bitmap.specs.Tree.{Cells, words_in_block, words_at, named}

-- a block has other words now, and may stand elsewhere; all other blocks stay
pub record IsReworded (old new : ℕ → Option (List ℕ)) (place place' : ℕ) (ws : List ℕ) : Type 0 where
  pub here : new place' ≡ Some ws
  pub somewhere : place' ≢ 0
  pub fresh : place' ≢ place → old place' ≡ None
  pub gone : place' ≢ place → new place ≡ None
  pub others : (p : ℕ) → p ≢ place → p ≢ place' → new p ≡ old p

-- a block has this row at a bit now, or none; the rest of it stays
pub record ChangesRow (ws ws' : List ℕ) (bit : ℕ) (word : Option ℕ) : Type 0 where
  pub here : row_in ws' bit ≡ word
  pub others : (b : ℕ) → b ≢ bit → row_in ws' b ≡ row_in ws b
  pub kids : (five : ℕ) → kid_in ws' five ≡ kid_in ws five

-- a block has this kid at five bits now, or none; the rest of it stays
pub record ChangesKid (ws ws' : List ℕ) (five place : ℕ) : Type 0 where
  pub here : kid_in ws' five ≡ place
  pub others : (f : ℕ) → f ≢ five → kid_in ws' f ≡ kid_in ws f
  pub rows : (bit : ℕ) → row_in ws' bit ≡ row_in ws bit

-- at one name stands this place now, and all else stays
pub record WritesName (old new : Cells) (p k place : ℕ) : Type 0 where
  pub kept : new ≡ record old { tops = new.tops; heap = new.heap }
  pub here : named new p k ≡ place
  pub others : (q m : ℕ) → (q ≡ p → m ≡ k → ⊥) → named new q m ≡ named old q m
  pub rows : (q bit : ℕ) → row_in (words_at new q) bit ≡ row_in (words_at old q) bit
  pub used : (q : ℕ) → is_some (new.heap q) ≡ is_some (old.heap q)
  pub blocks : (q : ℕ) → ((ws : List ℕ) → old.heap q ≡ Some ws → IsBlock ws) → (ws : List ℕ) → new.heap q ≡ Some ws → IsBlock ws
  pub elsewhere : (q : ℕ) → q ≢ p → new.heap q ≡ old.heap q
  pub zeros : new.heap 0 ≡ old.heap 0

-- a block has one word more at an index; its bitmaps may be others
pub record IsInserted (ws ws' : List ℕ) (at word : ℕ) : Type 0 where
  pub low : (i : ℕ) → 3 ≤ i → i < at → slice_index ws' i ≡ slice_index ws i
  pub here : slice_index ws' at ≡ word
  pub high : (i : ℕ) → at ≤ i → i < used_words ws → slice_index ws' (i + 1) ≡ slice_index ws i
  pub size : length ws' ≡ size_for (used_words ws + 1)

-- a block has another word at an index
pub record IsReplaced (ws ws' : List ℕ) (at word : ℕ) : Type 0 where
  pub here : slice_index ws' at ≡ word
  pub others : (i : ℕ) → i ≢ at → slice_index ws' i ≡ slice_index ws i
  pub size : length ws' ≡ length ws

-- a block has room for one word more now, and may stand elsewhere; its words stay
pub record GetsRoom (old new : ℕ → Option (List ℕ)) (block place used : ℕ) : Type 0 where
  pub somewhere : place ≢ 0
  pub fresh : place ≢ block → old place ≡ None
  pub gone : place ≢ block → new block ≡ None
  pub others : (p : ℕ) → p ≢ block → p ≢ place → new p ≡ old p
  pub size : size_of (new place) ≡ size_for (used + 1)
  pub words : (i : ℕ) → i < used → word_of (new place) i ≡ word_of (old block) i

-- a block has one word more at an index, and may stand elsewhere
pub record PutsWord (old new : ℕ → Option (List ℕ)) (block place used at word : ℕ) : Type 0 where
  pub somewhere : place ≢ 0
  pub fresh : place ≢ block → old place ≡ None
  pub gone : place ≢ block → new block ≡ None
  pub others : (p : ℕ) → p ≢ block → p ≢ place → new p ≡ old p
  pub size : size_of (new place) ≡ size_for (used + 1)
  pub low : (i : ℕ) → i < at → word_of (new place) i ≡ word_of (old block) i
  pub here : word_of (new place) at ≡ word
  pub high : (i : ℕ) → at ≤ i → i < used → word_of (new place) (i + 1) ≡ word_of (old block) i

-- the words of a block from an index on have moved up by one, and a word stands before them
pub record ShiftsIn (old new : ℕ → Option (List ℕ)) (block used at word : ℕ) : Type 0 where
  pub others : SameOthers old new block
  pub size : size_of (new block) ≡ size_of (old block)
  pub low : (i : ℕ) → i < at → word_of (new block) i ≡ word_of (old block) i
  pub here : word_of (new block) at ≡ word
  pub high : (i : ℕ) → at ≤ i → i < used → word_of (new block) (i + 1) ≡ word_of (old block) i

-- a block begins with the words of another
pub record Copies (old new : ℕ → Option (List ℕ)) (from to used : ℕ) : Type 0 where
  pub others : SameOthers old new to
  pub size : size_of (new to) ≡ size_of (old to)
  pub words : (i : ℕ) → i < used → word_of (new to) i ≡ word_of (old from) i

-- a block has a row at a bit now, and may stand elsewhere
pub record PutsRow (old new : ℕ → Option (List ℕ)) (block place bit word : ℕ) : Type 0 where
  pub reworded : IsReworded old new block place (words_in_block (new place))
  pub changes : ChangesRow (words_in_block (old block)) (words_in_block (new place)) bit (Some word)
  pub is_block : IsBlock (words_in_block (new place))

-- a block has a kid at five bits now, and may stand elsewhere
pub record PutsKid (old new : ℕ → Option (List ℕ)) (block place five kid : ℕ) : Type 0 where
  pub reworded : IsReworded old new block place (words_in_block (new place))
  pub changes : ChangesKid (words_in_block (old block)) (words_in_block (new place)) five kid
  pub is_block : IsBlock (words_in_block (new place))

-- a block without rows and kids was taken
pub record TakesBlank (old new : ℕ → Option (List ℕ)) (place : ℕ) : Type 0 where
  pub somewhere : place ≢ 0
  pub fresh : old place ≡ None
  pub others : SameOthers old new place
  pub used : is_some (new place) ≡ true
  pub size : size_of (new place) ≡ 4
  pub no_rows : row_map (words_in_block (new place)) ≡ 0
  pub no_kids : kid_map (words_in_block (new place)) ≡ 0
  pub is_block : IsBlock (words_in_block (new place))

-- a block has a new kid without rows and kids at five bits, and may stand elsewhere
pub record GetsKid (old new : ℕ → Option (List ℕ)) (block place five kid : ℕ) : Type 0 where
  pub between : ℕ → Option (List ℕ)
  pub taken : TakesBlank old between kid
  pub put : PutsKid between new block place five kid

-- a block has the word at an index less; its bitmaps may be others
pub record IsRemoved (ws ws' : List ℕ) (at : ℕ) : Type 0 where
  pub low : (i : ℕ) → 3 ≤ i → i < at → slice_index ws' i ≡ slice_index ws i
  pub high : (i : ℕ) → at ≤ i → i + 1 < used_words ws → slice_index ws' i ≡ slice_index ws (i + 1)
  pub size : length ws' ≡ size_for (used_words ws - 1)

-- the words of a block behind an index have moved down by one
pub record ShiftsOut (old new : ℕ → Option (List ℕ)) (block used at : ℕ) : Type 0 where
  pub others : SameOthers old new block
  pub size : size_of (new block) ≡ size_of (old block)
  pub low : (i : ℕ) → i < at → word_of (new block) i ≡ word_of (old block) i
  pub high : (i : ℕ) → at ≤ i → i + 1 < used → word_of (new block) i ≡ word_of (old block) (i + 1)

-- a block has half of its size now, and may stand elsewhere; its first words stay
pub record Narrows (old new : ℕ → Option (List ℕ)) (block place half used : ℕ) : Type 0 where
  pub somewhere : place ≢ 0
  pub fresh : place ≢ block → old place ≡ None
  pub gone : place ≢ block → new block ≡ None
  pub others : (p : ℕ) → p ≢ block → p ≢ place → new p ≡ old p
  pub size : size_of (new place) ≡ half
  pub words : (i : ℕ) → i < used → word_of (new place) i ≡ word_of (old block) i

-- a block has the word at an index less, is as large as the others want, and may stand elsewhere
pub record TakesWord (old new : ℕ → Option (List ℕ)) (block place used at : ℕ) : Type 0 where
  pub somewhere : place ≢ 0
  pub fresh : place ≢ block → old place ≡ None
  pub gone : place ≢ block → new block ≡ None
  pub others : (p : ℕ) → p ≢ block → p ≢ place → new p ≡ old p
  pub size : size_of (new place) ≡ size_for (used - 1)
  pub low : (i : ℕ) → i < at → word_of (new place) i ≡ word_of (old block) i
  pub high : (i : ℕ) → at ≤ i → i + 1 < used → word_of (new place) i ≡ word_of (old block) (i + 1)

-- a block has no row at a bit now, and may stand elsewhere
pub record TakesRow (old new : ℕ → Option (List ℕ)) (block place bit : ℕ) : Type 0 where
  pub reworded : IsReworded old new block place (words_in_block (new place))
  pub changes : ChangesRow (words_in_block (old block)) (words_in_block (new place)) bit None
  pub is_block : IsBlock (words_in_block (new place))

-- a block has no kid at five bits now, and may stand elsewhere
pub record TakesKid (old new : ℕ → Option (List ℕ)) (block place five : ℕ) : Type 0 where
  pub reworded : IsReworded old new block place (words_in_block (new place))
  pub changes : ChangesKid (words_in_block (old block)) (words_in_block (new place)) five 0
  pub is_block : IsBlock (words_in_block (new place))
