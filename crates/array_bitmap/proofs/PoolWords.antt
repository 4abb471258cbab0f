-- What the calls of a pool leave of the words of its blocks.
use Rattle.std.proofs.Common.{ℕ, ◌≡◌, ◌≢◌, inl, inr, ◌+◌, ◌-◌, ◌*◌, ◌/◌, ◌^◌, ◌<◌, ◌≤◌, List, length, slice_index, Option, Some, None, Bool, true, cond, nat_lt, nat_le, ◌==◌, ◌&&◌, is_some, count_ones, arith, refl, sym, ap, subst, ◌∙◌}
use Rattle.std.specs.Int.{bit_at}
use Rattle.std.proofs.lemmas.Bool.{cases_lt, cond-true, cond-false, lt-ltb, le-ltb, leb-true, eqb-true, and_parts, agree_below_at, false≢true}
use Rattle.std.proofs.lemmas.Nat.{ones-le}
use Rattle.word_pool.specs.Heap.{Heap, size_of, word_of, is_size, IsWordWritten, IsAllocated, IsFreed, IsShortened, SameOthers}
use Rattle.word_pool.proofs.Reading.{word-with_word_same, word-with_word_other, size-with_word, word-shortened, size-shortened}
use Rattle.array_bitmap.specs.Blocks.{row_map, kid_map, size_for, used_words, IsBlock}
use Rattle.array_bitmap.specs.Tree.{words_in_block}
use Rattle.array_bitmap.specs.Changes.{Copies, GetsRoom, ShiftsIn, PutsWord, ShiftsOut, TakesWord, IsReworded, IsInserted, Narrows}
use Rattle.bitmaps.proofs.Ranks.{ones-add, add_lt}

-- a word and the size of a block, by the list of its words
pub word_listed : (o : Option (List ℕ)) (i : ℕ) → word_of o i ≡ slice_index (words_in_block o) i
word_listed None i = refl
word_listed (Some ws) i = refl

pub size_listed : (o : Option (List ℕ)) → size_of o ≡ length (words_in_block o)
size_listed None = refl
size_listed (Some ws) = refl

-- a block with a size is there
pub there : (o : Option (List ℕ)) → 0 < size_of o → is_some o ≡ true
there None h = absurd (omega arith)
there (Some ws) h = refl

pub is_words : (o : Option (List ℕ)) → is_some o ≡ true → o ≡ Some (words_in_block o)
is_words None h = absurd (false≢true h)
is_words (Some ws) h = refl

-- ---- a word is written
module _ (old new : Heap) (b i w : ℕ) (wr : IsWordWritten old new b i w) where
  pub written_here : i < size_of (old b) → word_of (new b) i ≡ w
  written_here h = ap (λ o. word_of o i) wr.here ∙ word-with_word_same (old b) i w h

  pub written_other : (k : ℕ) → k ≢ i → word_of (new b) k ≡ word_of (old b) k
  written_other k n = ap (λ o. word_of o k) wr.here ∙ word-with_word_other (old b) i w k n

  pub written_size : size_of (new b) ≡ size_of (old b)
  written_size = ap size_of wr.here ∙ size-with_word (old b) i w

-- ---- sizes, computed for each number of words

-- a size holds its words, and is one of the sizes
abbrev holds : ℕ → Bool
holds n = nat_le n (size_for n) && (is_size (size_for n) && nat_le 4 (size_for n))

size_check : (n : ℕ) → n < 129 → holds n ≡ true
unfolding size_for
size_check n h = agree_below_at holds (λ _. true) 129 n refl h

-- the next number of words has the same size, or twice the size
abbrev next_is : ℕ → Bool
next_is n = cond (nat_lt n (size_for n)) (size_for (n + 1) == size_for n) ((size_for (n + 1) == 2 * size_for n) && is_size (2 * size_for n))

next_check : (n : ℕ) → n < 97 → next_is n ≡ true
unfolding size_for
next_check n h = agree_below_at next_is (λ _. true) 97 n refl h

pub size_holds : (n : ℕ) → n ≤ 128 → n ≤ size_for n
size_holds n h = leb-true n (size_for n) (and_parts _ _ (size_check n (omega arith))).0

pub size_some : (n : ℕ) → n ≤ 128 → is_size (size_for n) ≡ true
size_some n h = (and_parts _ _ (and_parts _ _ (size_check n (omega arith))).1).0

pub size_least : (n : ℕ) → n ≤ 128 → 4 ≤ size_for n
size_least n h = leb-true 4 (size_for n) (and_parts _ _ (and_parts _ _ (size_check n (omega arith))).1).1

pub size_same_next : (n : ℕ) → n ≤ 96 → n < size_for n → size_for (n + 1) ≡ size_for n
size_same_next n h l = eqb-true _ _ (sym (cond-true _ _ _ (lt-ltb n (size_for n) l)) ∙ next_check n (omega arith))

twice : (n : ℕ) → n ≤ 96 → size_for n ≤ n → ((size_for (n + 1) == 2 * size_for n) && is_size (2 * size_for n)) ≡ true
twice n h l = sym (cond-false _ _ _ (le-ltb n (size_for n) l)) ∙ next_check n (omega arith)

pub size_twice_next : (n : ℕ) → n ≤ 96 → size_for n ≤ n → size_for (n + 1) ≡ 2 * size_for n
size_twice_next n h l = eqb-true _ _ (and_parts _ _ (twice n h l)).0

pub twice_some : (n : ℕ) → n ≤ 96 → size_for n ≤ n → is_size (2 * size_for n) ≡ true
twice_some n h l = (and_parts _ _ (twice n h l)).1

-- ---- a block's words
module _ (heap : Heap) (b : ℕ) (block : IsBlock (words_in_block (heap b))) where
  pub few_words : used_words (words_in_block (heap b)) ≤ 97
  few_words = omega (arith, ones-le 62 (row_map (words_in_block (heap b))) block.few_rows, ones-le 32 (kid_map (words_in_block (heap b))) block.few_kids)

  pub block_size : size_of (heap b) ≡ size_for (used_words (words_in_block (heap b)))
  block_size = size_listed (heap b) ∙ block.size

  pub block_holds : used_words (words_in_block (heap b)) ≤ size_of (heap b)
  block_holds = omega (arith, few_words, block_size, size_holds (used_words (words_in_block (heap b))))

  pub block_head : 3 < size_of (heap b)
  block_head = omega (arith, few_words, block_size, size_least (used_words (words_in_block (heap b))))

  -- where a bit is clear, there are fewer
  pub few_rows : (bit : ℕ) → bit < 62 → bit_at (row_map (words_in_block (heap b))) bit ≡ 0 → count_ones (row_map (words_in_block (heap b))) ≤ 61
  few_rows bit small clear =
      let n = row_map (words_in_block (heap b)) in
      omega (arith, ones-add n bit clear, ones-le 62 (n + 2 ^ bit) (add_lt n bit 62 block.few_rows small clear))

  pub few_kids : (five : ℕ) → five < 32 → bit_at (kid_map (words_in_block (heap b))) five ≡ 0 → count_ones (kid_map (words_in_block (heap b))) ≤ 31
  few_kids five small clear =
      let n = kid_map (words_in_block (heap b)) in
      omega (arith, ones-add n five clear, ones-le 32 (n + 2 ^ five) (add_lt n five 32 block.few_kids small clear))

  pub all_rows : count_ones (row_map (words_in_block (heap b))) ≤ 62
  all_rows = ones-le 62 (row_map (words_in_block (heap b))) block.few_rows

  pub all_kids : count_ones (kid_map (words_in_block (heap b))) ≤ 32
  all_kids = ones-le 32 (kid_map (words_in_block (heap b))) block.few_kids

-- ---- a block gets room
pub room_there : (old : Heap) (block used : ℕ) → block ≢ 0 → used ≤ 96 → size_of (old block) ≡ size_for used → used < size_for used → GetsRoom old old block block used
room_there old block used some few size l = record {
  somewhere = some;
  fresh = λ n. absurd (n refl);
  gone = λ n. absurd (n refl);
  others = λ p n m. refl;
  size = size ∙ sym (size_same_next used few l);
  words = λ i h. refl;
}

pub room_made : (old taken copied new : Heap) (block place used size : ℕ) → used ≤ 96 → size ≡ size_for used → size ≤ used → is_some (old block) ≡ true
    → IsAllocated old taken place (2 * size) → Copies taken copied block place used → IsFreed copied new block → GetsRoom old new block place used
room_made old taken copied new block place used size few s l there t p v = record {
  somewhere = t.not_zero;
  fresh = λ n. t.fresh;
  gone = λ n. v.gone;
  others = λ q n m. v.others q n ∙ p.others q m ∙ t.others q m;
  size = ap size_of (v.others place apart) ∙ p.size ∙ t.sized ∙ ap (λ x. 2 * x) s ∙ sym (size_twice_next used few (subst (λ x. x ≤ used) s l));
  words = λ i h. ap (λ o. word_of o i) (v.others place apart) ∙ p.words i h ∙ ap (λ o. word_of o i) (t.others block (λ e. apart (sym e)));
}
  where
    apart : place ≢ block
    apart e = false≢true (sym (ap is_some t.fresh) ∙ ap (λ x. is_some (old x)) e ∙ there)

pub word_put : (old mid new : Heap) (block place used at word : ℕ) → at ≤ used → GetsRoom old mid block place used → ShiftsIn mid new place used at word → PutsWord old new block place used at word
word_put old mid new block place used at word within r s = record {
  somewhere = r.somewhere;
  fresh = r.fresh;
  gone = λ n. s.others block (λ e. n (sym e)) ∙ r.gone n;
  others = λ p n m. s.others p m ∙ r.others p n m;
  size = s.size ∙ r.size;
  low = λ i h. s.low i h ∙ r.words i (omega arith);
  here = s.here;
  high = λ i h l. s.high i h l ∙ r.words i l;
}

-- ---- and other bitmaps
pub record WritesHead (old new : Heap) (place : ℕ) : Type 0 where
  pub others : SameOthers old new place
  pub size : size_of (new place) ≡ size_of (old place)
  pub words : (i : ℕ) → 3 ≤ i → word_of (new place) i ≡ word_of (old place) i

module _ (old mid new : Heap) (block place used at word : ℕ) (put : PutsWord old mid block place used at word) (head : WritesHead mid new place)
    (few : used + 1 ≤ 128) (u : used ≡ used_words (words_in_block (old block))) where
  -- the block is there
  is_there : is_some (new place) ≡ true
  is_there = there (new place) (omega (arith, head.size, put.size, size_least (used + 1) few))

  pub put_reworded : IsReworded old new block place (words_in_block (new place))
  put_reworded = record {
    here = is_words (new place) is_there;
    somewhere = put.somewhere;
    fresh = put.fresh;
    gone = λ n. head.others block (λ e. n (sym e)) ∙ put.gone n;
    others = λ p n m. head.others p m ∙ put.others p n m;
  }

  pub put_inserted : 3 ≤ at → IsInserted (words_in_block (old block)) (words_in_block (new place)) at word
  put_inserted behind = record {
    low = λ i h l. as_word i h ∙ put.low i l ∙ word_listed (old block) i;
    here = as_word at behind ∙ put.here;
    high = λ i h l. as_word (i + 1) (omega arith) ∙ put.high i h (omega (arith, l, u)) ∙ word_listed (old block) i;
    size = sym (size_listed (new place)) ∙ head.size ∙ put.size ∙ ap (λ n. size_for (n + 1)) u;
  }
    where
      as_word : (i : ℕ) → 3 ≤ i → slice_index (words_in_block (new place)) i ≡ word_of (mid place) i
      as_word i h = sym (word_listed (new place) i) ∙ head.words i h

-- ---- a block loses a word

-- one word fewer has the same size, or half of it
pub size_before : (n : ℕ) → 4 ≤ n → n ≤ 97 → size_for n ≤ size_for (n - 1) → size_for (n - 1) ≡ size_for n
size_before n some few l =
    let e : n - 1 + 1 ≡ n = omega arith in
    elim (cases_lt (n - 1) (size_for (n - 1))) [
      | inl room ↦ sym (sym (ap size_for e) ∙ size_same_next (n - 1) (omega arith) room)
      | inr full ↦
          let twice : size_for n ≡ 2 * size_for (n - 1) = sym (ap size_for e) ∙ size_twice_next (n - 1) (omega arith) full in
          omega (arith, twice, l)
    ]

pub size_halved : (n : ℕ) → 4 ≤ n → n ≤ 97 → size_for (n - 1) < size_for n → (size_for n ≡ 2 * size_for (n - 1)) × (4 < size_for n)
size_halved n some few l =
    let e : n - 1 + 1 ≡ n = omega arith in
    elim (cases_lt (n - 1) (size_for (n - 1))) [
      | inl room ↦ absurd (let same : size_for n ≡ size_for (n - 1) = sym (ap size_for e) ∙ size_same_next (n - 1) (omega arith) room in omega (arith, same, l))
      | inr full ↦
          let twice : size_for n ≡ 2 * size_for (n - 1) = sym (ap size_for e) ∙ size_twice_next (n - 1) (omega arith) full in
          (twice, omega (arith, twice, size_least (n - 1) (omega arith)))
    ]

-- the block keeps its lower half
pub narrow_halved : (old new : Heap) (block half used : ℕ) → block ≢ 0 → size_of (old block) ≡ 2 * half → used ≤ half → IsShortened old new block (2 * half / 2) → Narrows old new block block half used
narrow_halved old new block half used some size fits h =
    let e : 2 * half / 2 ≡ half = omega arith in
    record {
      somewhere = some;
      fresh = λ n. absurd (n refl);
      gone = λ n. absurd (n refl);
      others = λ p n m. h.others p n;
      size = ap size_of h.here ∙ size-shortened (old block) (2 * half / 2) (omega (arith, size)) ∙ e;
      words = λ i l. ap (λ o. word_of o i) h.here ∙ word-shortened (old block) (2 * half / 2) i (omega (arith, l, fits));
    }

-- or goes into another one
pub narrow_moved : (old taken copied new : Heap) (block place half used : ℕ) → is_some (old block) ≡ true
    → IsAllocated old taken place half → Copies taken copied block place used → IsFreed copied new block → Narrows old new block place half used
narrow_moved old taken copied new block place half used there t p v = record {
  somewhere = t.not_zero;
  fresh = λ n. t.fresh;
  gone = λ n. v.gone;
  others = λ q n m. v.others q n ∙ p.others q m ∙ t.others q m;
  size = ap size_of (v.others place apart) ∙ p.size ∙ t.sized;
  words = λ i h. ap (λ o. word_of o i) (v.others place apart) ∙ p.words i h ∙ ap (λ o. word_of o i) (t.others block (λ e. apart (sym e)));
}
  where
    apart : place ≢ block
    apart e = false≢true (sym (ap is_some t.fresh) ∙ ap (λ x. is_some (old x)) e ∙ there)

-- a block where all stayed
pub narrow_after : (old mid new : Heap) (block place half used : ℕ) → ((p : ℕ) → mid p ≡ old p) → Narrows mid new block place half used → Narrows old new block place half used
narrow_after old mid new block place half used same n = record {
  somewhere = n.somewhere;
  fresh = λ a. sym (same place) ∙ n.fresh a;
  gone = n.gone;
  others = λ p a b. n.others p a b ∙ same p;
  size = n.size;
  words = λ i l. n.words i l ∙ ap (λ o. word_of o i) (same block);
}

pub word_taken : (old new : Heap) (block used at : ℕ) → block ≢ 0 → 3 < used → used ≤ 97 → size_of (old block) ≡ size_for used → size_for used ≤ size_for (used - 1) → ShiftsOut old new block used at → TakesWord old new block block used at
word_taken old new block used at there some few size l s = record {
  somewhere = there;
  fresh = λ n. absurd (n refl);
  gone = λ n. absurd (n refl);
  others = λ p n m. s.others p n;
  size = s.size ∙ size ∙ sym (size_before used (omega arith) few l);
  low = s.low;
  high = s.high;
}

pub word_taken_half : (old mid new : Heap) (block place used at : ℕ) → 3 < used → at < used
    → ShiftsOut old mid block used at → Narrows mid new block place (size_for (used - 1)) (used - 1) → TakesWord old new block place used at
word_taken_half old mid new block place used at some within s n = record {
  somewhere = n.somewhere;
  fresh = λ a. sym (s.others place a) ∙ n.fresh a;
  gone = n.gone;
  others = λ p a b. n.others p a b ∙ s.others p a;
  size = n.size;
  low = λ i b. n.words i (omega (arith, b, within)) ∙ s.low i b;
  high = λ i b m. n.words i (omega (arith, m)) ∙ s.high i b m;
}
