use Rattle.std.proofs.Common.{◌≡◌, ◌+◌, ◌≤◌, ◌^◌, arith, ap, ◌∙◌, count_ones}
use Rattle.std.specs.Int.{bit_at}
use Rattle.word_pool.specs.Pool.{blocks}
use Rattle.bitmaps.specs.Bits.{rank}
use Rattle.array_bitmap.specs.{Blocks.kid_map, Blocks.kid_index, Blocks.used_words, Tree.words_in_block}
use Rattle.bitmaps.proofs.Ranks.{rank_le, add_lt}
use Rattle.array_bitmap.proofs.{PoolWords.block_head, PoolWords.few_kids, PoolWords.all_rows, Puts.kid_new}
use Rattle.array_bitmap.proofs.blocks.with_kid.Goals as goal

pub kids_of-kids-requires : goal.kids_of-kids-requires
kids_of-kids-requires g c = block_head (blocks c.args.pool.now) c.args.block c.requires.is_block

pub rows_of-requires : goal.rows_of-requires
rows_of-requires g c = block_head (blocks c.args.pool.now) c.args.block c.requires.is_block

pub insert-requires-clause-few : goal.insert-requires-clause-few
insert-requires-clause-few g c =
    let old = blocks c.args.pool.now in
    omega (
      arith,
      c.count-before.ensures.value,
      c.count.ensures.value,
      ap count_ones c.rows_of.ensures,
      ap count_ones c.kids_of-kids.ensures.value,
      few_kids old c.args.block c.requires.is_block c.args.five c.requires.small c.requires.clear,
      all_rows old c.args.block c.requires.is_block,
    )

pub insert-requires-clause-within : goal.insert-requires-clause-within
insert-requires-clause-within g c = omega (arith, c.rank.ensures.value, c.count.ensures.value, rank_le c.kids_of-kids.result c.args.five)

pub overflow_cast-with_bit : goal.overflow_cast-with_bit
overflow_cast-with_bit g c =
    let clear : bit_at c.kids_of-kids.result c.args.five ≡ 0 = ap (λ n. bit_at n c.args.five) c.kids_of-kids.ensures.value ∙ c.requires.clear in
    omega (arith, c.with_bit.ensures, add_lt c.kids_of-kids.result c.args.five 32 c.kids_of-kids.ensures.bound c.requires.small clear)

pub returns-clause-ok : goal.returns-clause-ok
returns-clause-ok g c =
    let old = blocks c.args.pool.now in
    let ws = words_in_block (blocks c.args.pool.now c.args.block) in
    let kids : c.kids_of-kids.result ≡ kid_map ws = c.kids_of-kids.ensures.value in
    let used : 3 + c.count-before.result + c.count.result ≡ used_words ws = omega (arith, c.count-before.ensures.value, c.count.ensures.value, ap count_ones c.rows_of.ensures, ap count_ones kids) in
    let few : 3 + c.count-before.result + c.count.result ≤ 96 =
    omega (arith, used, few_kids old c.args.block c.requires.is_block c.args.five c.requires.small c.requires.clear, all_rows old c.args.block c.requires.is_block) in
    let index : 3 + c.count-before.result + c.rank.result ≡ kid_index ws c.args.five =
    omega (arith, c.count-before.ensures.value, ap count_ones c.rows_of.ensures, c.rank.ensures.value, ap (λ n. rank n c.args.five) kids) in
    kid_new old (blocks c.insert.new.pool) (blocks c.set_word.new.self) c.args.block c.in_ok-place.place c.args.five c.args.kid
    (3 + c.count-before.result + c.count.result) (3 + c.count-before.result + c.rank.result) c.with_bit.result
    c.requires.is_block c.requires.small c.requires.real c.requires.clear used few index (c.with_bit.ensures ∙ ap (λ n. n + 2 ^ c.args.five) kids)
    c.in_ok-place.ensures.ok c.set_word.ensures.written
