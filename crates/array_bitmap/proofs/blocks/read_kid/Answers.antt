use Rattle.std.proofs.Common.{◌≡◌, ◌+◌, arith, ap, sym, ◌∙◌, slice_index, count_ones}
use Rattle.std.specs.Int.{bit_at}
use Rattle.word_pool.specs.{Heap.size_of, Heap.word_of, Pool.blocks}
use Rattle.bitmaps.specs.Bits.{rank}
use Rattle.array_bitmap.specs.{Blocks.kid_map, Blocks.kid_index, Tree.words_in_block}
use Rattle.array_bitmap.proofs.{Picks.times_one, Picks.picked_inside, Walks.kid-set, Walks.kid-clear, PoolWords.block_head, PoolWords.block_holds, PoolWords.word_listed}
use Rattle.bitmaps.proofs.Ranks.{rank_lt}
use Rattle.array_bitmap.proofs.blocks.read_kid.Goals as goal

pub word-requires : goal.word-requires
word-requires g c =
    let ws = words_in_block (blocks c.args.pool.now c.args.block) in
    let some = block_head (blocks c.args.pool.now) c.args.block c.requires.is_block in
    picked_inside (3 + c.count.result + c.rank.result) c.bit-there.result (size_of (blocks c.args.pool.now c.args.block)) c.bit-there.ensures.bound (omega (arith, some))
    (λ one.
    let set : bit_at (kid_map ws) c.args.five ≡ 1 = ap (λ n. bit_at n c.args.five) (sym c.requires.head.kids) ∙ sym c.bit-there.ensures.value ∙ one in
    omega (
      arith,
      c.count.ensures.value,
      ap count_ones c.requires.head.rows,
      c.rank.ensures.value,
      ap (λ n. rank n c.args.five) c.requires.head.kids,
      rank_lt (kid_map ws) c.args.five set,
      block_holds (blocks c.args.pool.now) c.args.block c.requires.is_block,
    ))

pub returns-clause-some : goal.returns-clause-some
returns-clause-some g c = λ one.
    let o = blocks c.args.pool.now c.args.block in
    let ws = words_in_block (blocks c.args.pool.now c.args.block) in
    let set : bit_at (kid_map ws) c.args.five ≡ 1 = ap (λ n. bit_at n c.args.five) (sym c.requires.head.kids) ∙ sym c.bit-there.ensures.value ∙ one in
    let index : 3 + c.count.result + c.rank.result ≡ kid_index ws c.args.five =
    omega (arith, c.count.ensures.value, ap count_ones c.requires.head.rows, c.rank.ensures.value, ap (λ n. rank n c.args.five) c.requires.head.kids) in
    c.word.ensures ∙ ap (word_of (blocks c.args.pool.now c.args.block)) (times_one (3 + c.count.result + c.rank.result) c.bit-there.result one)
    ∙ word_listed (blocks c.args.pool.now c.args.block) (3 + c.count.result + c.rank.result) ∙ ap (slice_index ws) index ∙ sym (kid-set ws c.args.five set)

pub returns-clause-none : goal.returns-clause-none
returns-clause-none g c = λ zero.
    let ws = words_in_block (blocks c.args.pool.now c.args.block) in
    kid-clear ws c.args.five (λ h. let one : c.bit-there.result ≡ 1 = c.bit-there.ensures.value ∙ ap (λ n. bit_at n c.args.five) c.requires.head.kids ∙ h in absurd (omega (arith, one, zero)))
