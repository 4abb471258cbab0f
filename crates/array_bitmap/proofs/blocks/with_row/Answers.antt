use Rattle.std.proofs.Common.{ℕ, ◌≡◌, ◌+◌, ◌/◌, ◌%◌, ◌^◌, ◌<◌, ◌≤◌, refl, arith, ap, sym, ◌∙◌, count_ones}
use Rattle.std.specs.Int.{bit_at}
use Rattle.std.proofs.lemmas.Bool.{both_ways}
use Rattle.word_pool.specs.{Heap.Heap, Heap.size_of, Pool.blocks}
use Rattle.bitmaps.specs.Bits.{rank}
use Rattle.array_bitmap.specs.Blocks.{row_map, kid_map, size_for, used_words, IsBlock}
use Rattle.array_bitmap.specs.Tree.{words_in_block}
use Rattle.array_bitmap.proofs.{Covering.row-clear, Puts.row_over, Puts.row_new}
use Rattle.bitmaps.proofs.{Options.refused, Ranks.rank_lt, Ranks.rank_le, HighestBit.clear_bit}
use Rattle.array_bitmap.proofs.PoolWords.{block_head, block_holds, few_rows, all_kids, size_least, written_size}
use Rattle.array_bitmap.proofs.blocks.with_row.Goals as goal

pub rows_of-rows-requires : goal.rows_of-rows-requires
rows_of-rows-requires g c = block_head (blocks c.args.pool.now) c.args.block c.requires.is_block

pub kids_of-requires : goal.kids_of-requires
kids_of-requires g c = block_head (blocks c.args.pool.now) c.args.block c.requires.is_block

pub set_word-requires-clause-inside : goal.set_word-requires-clause-inside
set_word-requires-clause-inside g c =
    let rows : c.rows_of-rows.result ≡ row_map (words_in_block (blocks c.args.pool.now c.args.block)) = c.rows_of-rows.ensures in
    let set : bit_at (row_map (words_in_block (blocks c.args.pool.now c.args.block))) c.args.bit ≡ 1 = ap (λ n. bit_at n c.args.bit) (sym rows) ∙ c.is_set.ensures.0 c.if-is_set.true in
    omega (
      arith,
      c.rank-index.ensures.value,
      ap (λ n. rank n c.args.bit) rows,
      rank_lt (row_map (words_in_block (blocks c.args.pool.now c.args.block))) c.args.bit set,
      block_holds (blocks c.args.pool.now) c.args.block c.requires.is_block,
    )

pub returns-then-is_set-clause-ok : goal.returns-then-is_set-clause-ok
returns-then-is_set-clause-ok g c =
    let rows : c.rows_of-rows.result ≡ row_map (words_in_block (blocks c.args.pool.now c.args.block)) = c.rows_of-rows.ensures in
    let set : bit_at (row_map (words_in_block (blocks c.args.pool.now c.args.block))) c.args.bit ≡ 1 = ap (λ n. bit_at n c.args.bit) (sym rows) ∙ c.is_set.ensures.0 c.if-is_set.true in
    row_over (blocks c.args.pool.now) (blocks c.set_word.new.self) c.args.block c.args.bit (3 + c.rank-index.result) c.args.word c.requires.some c.requires.is_block
    (ap (λ r. 3 + r) (c.rank-index.ensures.value ∙ ap (λ n. rank n c.args.bit) rows)) set c.set_word.ensures.written

-- where the bit is not set, at most 96 words are in use
few_used : (heap : Heap) (b bit rows kids n m : ℕ) → IsBlock (words_in_block (heap b)) → bit < 62 → rows ≡ row_map (words_in_block (heap b)) → kids ≡ kid_map (words_in_block (heap b))
    → (bit_at rows bit ≡ 1 → ⊥) → n ≡ count_ones rows → m ≡ count_ones kids → 3 + n + m ≤ 96
few_used heap b bit rows kids n m block small r k unset x y =
    let clear : bit_at (row_map (words_in_block (heap b))) bit ≡ 0 = ap (λ z. bit_at z bit) (sym r) ∙ clear_bit rows bit unset in
    omega (arith, x, y, ap count_ones r, ap count_ones k, few_rows heap b block bit small clear, all_kids heap b block)

pub insert-requires-clause-few : goal.insert-requires-clause-few
insert-requires-clause-few g c =
    few_used (blocks c.args.pool.now) c.args.block c.args.bit c.rows_of-rows.result c.kids_of.result c.count.result c.count-2.result c.requires.is_block c.requires.small
    c.rows_of-rows.ensures c.kids_of.ensures.value (λ h. both_ways c.is_set.result c.if-is_set.false (c.is_set.ensures.1 h)) c.count.ensures.value c.count-2.ensures.value

pub insert-requires-clause-within : goal.insert-requires-clause-within
insert-requires-clause-within g c = omega (arith, c.rank-index.ensures.value, c.count.ensures.value, rank_le c.rows_of-rows.result c.args.bit)

pub returns-in_err-place-clause-full : goal.returns-in_err-place-clause-full
returns-in_err-place-clause-full g c =
    refused c.from_residual.result (row-clear (words_in_block (blocks c.args.pool.now c.args.block)) c.args.bit
    (λ h. both_ways c.is_set.result c.if-is_set.false (c.is_set.ensures.1 (ap (λ n. bit_at n c.args.bit) c.rows_of-rows.ensures ∙ h))))

-- the block is there, and has its first words
head : (used size n : ℕ) → used ≤ 96 → size ≡ size_for (used + 1) → n < 4 → n < size
head used size n few e l = omega (arith, e, l, size_least (used + 1) (omega (arith, few)))

pub set_word-requires-2-clause-inside : goal.set_word-requires-2-clause-inside
set_word-requires-2-clause-inside g c =
    let few : 3 + c.count.result + c.count-2.result ≤ 96 =
    few_used (blocks c.args.pool.now) c.args.block c.args.bit c.rows_of-rows.result c.kids_of.result c.count.result c.count-2.result c.requires.is_block c.requires.small
    c.rows_of-rows.ensures c.kids_of.ensures.value (λ h. both_ways c.is_set.result c.if-is_set.false (c.is_set.ensures.1 h)) c.count.ensures.value c.count-2.ensures.value in
    head (3 + c.count.result + c.count-2.result) (size_of (blocks c.insert.new.pool c.in_ok-place.place)) 0 few c.in_ok-place.ensures.ok.size (omega arith)

pub set_word-requires-3-clause-inside : goal.set_word-requires-3-clause-inside
set_word-requires-3-clause-inside g c =
    let few : 3 + c.count.result + c.count-2.result ≤ 96 =
    few_used (blocks c.args.pool.now) c.args.block c.args.bit c.rows_of-rows.result c.kids_of.result c.count.result c.count-2.result c.requires.is_block c.requires.small
    c.rows_of-rows.ensures c.kids_of.ensures.value (λ h. both_ways c.is_set.result c.if-is_set.false (c.is_set.ensures.1 h)) c.count.ensures.value c.count-2.ensures.value in
    head (3 + c.count.result + c.count-2.result) (size_of (blocks c.set_word-2.new.self c.in_ok-place.place)) 1 few
    (written_size (blocks c.insert.new.pool) (blocks c.set_word-2.new.self) c.in_ok-place.place 0 (c.with_bit-rows.result % 4294967296) c.set_word-2.ensures.written ∙ c.in_ok-place.ensures.ok.size) (omega arith)

pub returns-clause-ok : goal.returns-clause-ok
returns-clause-ok g c =
    let old = blocks c.args.pool.now in
    let ws = words_in_block (blocks c.args.pool.now c.args.block) in
    let rows : c.rows_of-rows.result ≡ row_map ws = c.rows_of-rows.ensures in
    let clear : bit_at (row_map ws) c.args.bit ≡ 0 =
    clear_bit (row_map ws) c.args.bit (λ h. both_ways c.is_set.result c.if-is_set.false (c.is_set.ensures.1 (ap (λ n. bit_at n c.args.bit) rows ∙ h))) in
    let used : 3 + c.count.result + c.count-2.result ≡ used_words ws = omega (arith, c.count.ensures.value, c.count-2.ensures.value, ap count_ones rows, ap count_ones c.kids_of.ensures.value) in
    let few : 3 + c.count.result + c.count-2.result ≤ 96 =
    omega (arith, used, few_rows old c.args.block c.requires.is_block c.args.bit c.requires.small clear, all_kids old c.args.block c.requires.is_block) in
    row_new old (blocks c.insert.new.pool) (blocks c.set_word-2.new.self) (blocks c.set_word-3.new.self) c.args.block c.in_ok-place.place c.args.bit c.args.word
    (3 + c.count.result + c.count-2.result) (3 + c.rank-index.result) c.with_bit-rows.result (c.with_bit-rows.result % 4294967296) (c.with_bit-rows.result / 4294967296)
    c.requires.is_block c.requires.small clear used few (ap (λ r. 3 + r) (c.rank-index.ensures.value ∙ ap (λ n. rank n c.args.bit) rows))
    (c.with_bit-rows.ensures ∙ ap (λ n. n + 2 ^ c.args.bit) rows) refl refl c.in_ok-place.ensures.ok c.set_word-2.ensures.written c.set_word-3.ensures.written
