use Rattle.std.proofs.Common.{ℕ, ◌≡◌, ◌+◌, ◌-◌, ◌/◌, ◌%◌, ◌<◌, ◌≤◌, refl, arith, ap, sym, ◌∙◌, count_ones}
use Rattle.word_pool.specs.{Heap.size_of, Pool.blocks}
use Rattle.bitmaps.specs.Bits.{rank}
use Rattle.array_bitmap.specs.{Blocks.row_map, Blocks.size_for, Blocks.used_words, Tree.words_in_block}
use Rattle.bitmaps.proofs.Ranks.{rank_lt}
use Rattle.array_bitmap.proofs.PoolWords.{block_head, few_words, size_least, written_size}
use Rattle.array_bitmap.proofs.Takes.{row_taken}
use Rattle.array_bitmap.proofs.blocks.without_row.Goals as goal

pub rows_of-rows-requires : goal.rows_of-rows-requires
rows_of-rows-requires g c = block_head (blocks c.args.pool.now) c.args.block c.requires.is_block

pub kids_of-requires : goal.kids_of-requires
kids_of-requires g c = block_head (blocks c.args.pool.now) c.args.block c.requires.is_block

pub take_word-place-requires-clause-few : goal.take_word-place-requires-clause-few
take_word-place-requires-clause-few g c =
    omega (arith, c.count.ensures.value, c.count-2.ensures.value, ap count_ones c.rows_of-rows.ensures, ap count_ones c.kids_of.ensures.value, few_words (blocks c.args.pool.now) c.args.block c.requires.is_block)

pub take_word-place-requires-clause-head : goal.take_word-place-requires-clause-head
take_word-place-requires-clause-head g c =
    omega (arith, c.count.ensures.value, ap count_ones c.rows_of-rows.ensures, rank_lt (row_map (words_in_block (blocks c.args.pool.now c.args.block))) c.args.bit c.requires.set)

pub take_word-place-requires-clause-within : goal.take_word-place-requires-clause-within
take_word-place-requires-clause-within g c =
    omega (arith, c.rank.ensures.value, c.count.ensures.value, ap count_ones c.rows_of-rows.ensures, ap (λ n. rank n c.args.bit) c.rows_of-rows.ensures, rank_lt (row_map (words_in_block (blocks c.args.pool.now c.args.block))) c.args.bit c.requires.set)

-- the block has its first words
head : (used size n : ℕ) → used ≤ 97 → size ≡ size_for (used - 1) → n < 4 → n < size
head used size n few e l = omega (arith, e, l, size_least (used - 1) (omega (arith, few)))

pub set_word-requires-clause-inside : goal.set_word-requires-clause-inside
set_word-requires-clause-inside g c =
    let few : 3 + c.count.result + c.count-2.result ≤ 97 =
    omega (arith, c.count.ensures.value, c.count-2.ensures.value, ap count_ones c.rows_of-rows.ensures, ap count_ones c.kids_of.ensures.value, few_words (blocks c.args.pool.now) c.args.block c.requires.is_block) in
    head (3 + c.count.result + c.count-2.result) (size_of (blocks c.take_word-place.new.pool c.take_word-place.result)) 0 few c.take_word-place.ensures.size (omega arith)

pub set_word-requires-2-clause-inside : goal.set_word-requires-2-clause-inside
set_word-requires-2-clause-inside g c =
    let few : 3 + c.count.result + c.count-2.result ≤ 97 =
    omega (arith, c.count.ensures.value, c.count-2.ensures.value, ap count_ones c.rows_of-rows.ensures, ap count_ones c.kids_of.ensures.value, few_words (blocks c.args.pool.now) c.args.block c.requires.is_block) in
    head (3 + c.count.result + c.count-2.result) (size_of (blocks c.set_word.new.self c.take_word-place.result)) 1 few
    (written_size (blocks c.take_word-place.new.pool) (blocks c.set_word.new.self) c.take_word-place.result 0 (c.without_bit-rows.result % 4294967296) c.set_word.ensures.written ∙ c.take_word-place.ensures.size) (omega arith)

pub returns : goal.returns
returns g c =
    let old = blocks c.args.pool.now in
    let ws = words_in_block (blocks c.args.pool.now c.args.block) in
    let used : 3 + c.count.result + c.count-2.result ≡ used_words ws = omega (arith, c.count.ensures.value, c.count-2.ensures.value, ap count_ones c.rows_of-rows.ensures, ap count_ones c.kids_of.ensures.value) in
    let few : 3 + c.count.result + c.count-2.result ≤ 97 = omega (arith, used, few_words (blocks c.args.pool.now) c.args.block c.requires.is_block) in
    let least : 3 < 3 + c.count.result + c.count-2.result = omega (arith, c.count.ensures.value, ap count_ones c.rows_of-rows.ensures, rank_lt (row_map ws) c.args.bit c.requires.set) in
    row_taken old (blocks c.take_word-place.new.pool) (blocks c.set_word.new.self) (blocks c.set_word-2.new.self) c.args.block c.take_word-place.result c.args.bit
    (3 + c.count.result + c.count-2.result) (3 + c.rank.result) c.without_bit-rows.result (c.without_bit-rows.result % 4294967296) (c.without_bit-rows.result / 4294967296)
    c.requires.is_block c.without_bit-rows.ensures.clear least few used (ap (λ r. 3 + r) (c.rank.ensures.value ∙ ap (λ n. rank n c.args.bit) c.rows_of-rows.ensures))
    (sym c.rows_of-rows.ensures ∙ c.without_bit-rows.ensures.rest) refl refl c.take_word-place.ensures c.set_word.ensures.written c.set_word-2.ensures.written
