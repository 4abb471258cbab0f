use Rattle.std.proofs.Common.{◌≡◌, ◌+◌, arith, ap, count_ones}
use Rattle.std.specs.Int.{bit_at}
use Rattle.word_pool.specs.Pool.{blocks}
use Rattle.bitmaps.specs.Bits.{rank}
use Rattle.array_bitmap.specs.{Blocks.kid_map, Blocks.kid_index, Tree.words_in_block, Image.cells_of}
use Rattle.bitmaps.proofs.Ranks.{rank_lt}
use Rattle.array_bitmap.proofs.{PoolWords.block_head, PoolWords.block_holds, Puts.name_in_block}
use Rattle.array_bitmap.proofs.tree.Tree.rename.Goals as goal

pub kids_of-kids-requires : goal.kids_of-kids-requires
kids_of-kids-requires g c = block_head (blocks c.args.self.now.pool) c.args.holder c.requires.is_block

pub rows_of-requires : goal.rows_of-requires
rows_of-requires g c = block_head (blocks c.args.self.now.pool) c.args.holder c.requires.is_block

pub set_word-requires-clause-inside : goal.set_word-requires-clause-inside
set_word-requires-clause-inside g c =
    let ws = words_in_block (blocks c.args.self.now.pool c.args.holder) in
    let set : bit_at (kid_map ws) c.args.index ≡ 1 = c.requires.kid c.if-holder-eq0.false in
    omega (
      arith,
      c.count.ensures.value,
      ap count_ones c.rows_of.ensures,
      c.rank.ensures.value,
      ap (λ n. rank n c.args.index) c.kids_of-kids.ensures.value,
      rank_lt (kid_map ws) c.args.index set,
      block_holds (blocks c.args.self.now.pool) c.args.holder c.requires.is_block,
    )

pub returns-clause-name : goal.returns-clause-name
returns-clause-name g c =
    let ws = words_in_block (blocks c.args.self.now.pool c.args.holder) in
    let set : bit_at (kid_map ws) c.args.index ≡ 1 = c.requires.kid c.if-holder-eq0.false in
    let index : 3 + c.count.result + c.rank.result ≡ kid_index ws c.args.index =
    omega (arith, c.count.ensures.value, ap count_ones c.rows_of.ensures, c.rank.ensures.value, ap (λ n. rank n c.args.index) c.kids_of-kids.ensures.value) in
    name_in_block (cells_of c.args.self.now) (blocks c.set_word.new.self) c.args.holder c.args.index (3 + c.count.result + c.rank.result) c.args.place
    c.if-holder-eq0.false c.requires.real c.requires.is_block set index
    (omega (arith, index, rank_lt (kid_map ws) c.args.index set, block_holds (blocks c.args.self.now.pool) c.args.holder c.requires.is_block)) c.set_word.ensures.written
