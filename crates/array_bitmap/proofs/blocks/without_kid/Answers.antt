use Rattle.std.proofs.Common.{◌≡◌, ◌+◌, ◌-◌, ◌<◌, ◌≤◌, arith, ap, sym, ◌∙◌, count_ones}
use Rattle.word_pool.specs.Pool.{blocks}
use Rattle.bitmaps.specs.Bits.{rank}
use Rattle.array_bitmap.specs.{Blocks.kid_map, Blocks.kid_index, Blocks.used_words, Tree.words_in_block}
use Rattle.bitmaps.proofs.Ranks.{rank_lt}
use Rattle.array_bitmap.proofs.{PoolWords.block_head, PoolWords.few_words, PoolWords.size_least, Takes.kid_taken}
use Rattle.array_bitmap.proofs.blocks.without_kid.Goals as goal

pub kids_of-kids-requires : goal.kids_of-kids-requires
kids_of-kids-requires g c = block_head (blocks c.args.pool.now) c.args.block c.requires.is_block

pub rows_of-requires : goal.rows_of-requires
rows_of-requires g c = block_head (blocks c.args.pool.now) c.args.block c.requires.is_block

pub take_word-place-requires-clause-few : goal.take_word-place-requires-clause-few
take_word-place-requires-clause-few g c =
    omega (arith, c.count-before.ensures.value, c.count.ensures.value, ap count_ones c.rows_of.ensures, ap count_ones c.kids_of-kids.ensures.value, few_words (blocks c.args.pool.now) c.args.block c.requires.is_block)

pub take_word-place-requires-clause-head : goal.take_word-place-requires-clause-head
take_word-place-requires-clause-head g c =
    omega (arith, c.count.ensures.value, ap count_ones c.kids_of-kids.ensures.value, rank_lt (kid_map (words_in_block (blocks c.args.pool.now c.args.block))) c.args.five c.requires.set)

pub take_word-place-requires-clause-within : goal.take_word-place-requires-clause-within
take_word-place-requires-clause-within g c =
    omega (arith, c.rank.ensures.value, c.count.ensures.value, ap count_ones c.kids_of-kids.ensures.value, ap (λ n. rank n c.args.five) c.kids_of-kids.ensures.value, rank_lt (kid_map (words_in_block (blocks c.args.pool.now c.args.block))) c.args.five c.requires.set)

pub set_word-requires-clause-inside : goal.set_word-requires-clause-inside
set_word-requires-clause-inside g c =
    let few : 3 + c.count-before.result + c.count.result ≤ 97 =
    omega (arith, c.count-before.ensures.value, c.count.ensures.value, ap count_ones c.rows_of.ensures, ap count_ones c.kids_of-kids.ensures.value, few_words (blocks c.args.pool.now) c.args.block c.requires.is_block) in
    let size = c.take_word-place.ensures.size in
    omega (arith, size, size_least (3 + c.count-before.result + c.count.result - 1) (omega (arith, few)))

pub returns : goal.returns
returns g c =
    let old = blocks c.args.pool.now in
    let ws = words_in_block (blocks c.args.pool.now c.args.block) in
    let used : 3 + c.count-before.result + c.count.result ≡ used_words ws = omega (arith, c.count-before.ensures.value, c.count.ensures.value, ap count_ones c.rows_of.ensures, ap count_ones c.kids_of-kids.ensures.value) in
    let few : 3 + c.count-before.result + c.count.result ≤ 97 = omega (arith, used, few_words (blocks c.args.pool.now) c.args.block c.requires.is_block) in
    let least : 3 < 3 + c.count-before.result + c.count.result = omega (arith, c.count.ensures.value, ap count_ones c.kids_of-kids.ensures.value, rank_lt (kid_map ws) c.args.five c.requires.set) in
    let index : 3 + c.count-before.result + c.rank.result ≡ kid_index ws c.args.five =
    omega (arith, c.count-before.ensures.value, ap count_ones c.rows_of.ensures, c.rank.ensures.value, ap (λ n. rank n c.args.five) c.kids_of-kids.ensures.value) in
    kid_taken old (blocks c.take_word-place.new.pool) (blocks c.set_word.new.self) c.args.block c.take_word-place.result c.args.five
    (3 + c.count-before.result + c.count.result) (3 + c.count-before.result + c.rank.result) c.without_bit.result
    c.requires.is_block c.without_bit.ensures.clear least few used index (sym c.kids_of-kids.ensures.value ∙ c.without_bit.ensures.rest) c.take_word-place.ensures c.set_word.ensures.written
