use Rattle.std.proofs.Common.{◌≡◌, ◌+◌, ◌-◌, ◌/◌, Some, arith, ap, sym, ◌∙◌, slice_index}
use Rattle.std.specs.Int.{bit_at}
use Rattle.std.proofs.lemmas.Bool.{both_ways}
use Rattle.word_pool.specs.Pool.{blocks}
use Rattle.bitmaps.specs.Bits.{rank}
use Rattle.array_bitmap.specs.{Blocks.row_map, Blocks.row_index, Tree.words_in_block, Tree.words_at, Tree.word_at, Image.cells_of}
use Rattle.bitmaps.proofs.Ranks.{rank_lt}
use Rattle.array_bitmap.proofs.{Covering.row-set, Covering.row-clear, Lookups.block_is, PoolWords.block_head, PoolWords.block_holds, PoolWords.word_listed, ShortRows.row_shown, Stands.word_of_len}
use Rattle.array_bitmap.proofs.tree.Tree.word_on.Goals as goal

pub rows_of-rows-requires : goal.rows_of-rows-requires
rows_of-rows-requires g c =
    block_head (blocks c.args.self.now.pool) c.in_ok-block.block
    (block_is (cells_of c.args.self.now) c.requires.sound.cells c.args.path ((c.args.len - 5) / 5 - c.args.self.now.first) c.in_ok-block.block (sym c.in_ok-block.ensures.block))

pub returns-then-not-is_set-clause-word : goal.returns-then-not-is_set-clause-word
returns-then-not-is_set-clause-word g c =
    let t = cells_of c.args.self.now in
    word_of_len t c.args.path c.args.len c.in_ok-block.block c.five_bits.result c.row_bit-bit.result (omega arith) c.in_ok-block.ensures.block c.five_bits.ensures.value c.row_bit-bit.ensures.value
    ∙ row-clear (words_at t c.in_ok-block.block) c.row_bit-bit.result
    (λ h. both_ways c.is_set.result c.if-not-is_set.true (c.is_set.ensures.1 (ap (λ n. bit_at n c.row_bit-bit.result) c.rows_of-rows.ensures ∙ h)))

pub word-requires : goal.word-requires
word-requires g c =
    let ws = words_in_block (blocks c.args.self.now.pool c.in_ok-block.block) in
    let set : bit_at (row_map ws) c.row_bit-bit.result ≡ 1 = ap (λ n. bit_at n c.row_bit-bit.result) (sym c.rows_of-rows.ensures) ∙ c.is_set.ensures.0 c.if-not-is_set.false in
    omega (
      arith,
      c.rank.ensures.value,
      ap (λ n. rank n c.row_bit-bit.result) c.rows_of-rows.ensures,
      rank_lt (row_map ws) c.row_bit-bit.result set,
      block_holds (blocks c.args.self.now.pool) c.in_ok-block.block
          (block_is (cells_of c.args.self.now) c.requires.sound.cells c.args.path ((c.args.len - 5) / 5 - c.args.self.now.first) c.in_ok-block.block (sym c.in_ok-block.ensures.block)),
    )

pub returns-clause-word : goal.returns-clause-word
returns-clause-word g c =
    let t = cells_of c.args.self.now in
    let ws = words_in_block (blocks c.args.self.now.pool c.in_ok-block.block) in
    let set : bit_at (row_map ws) c.row_bit-bit.result ≡ 1 = ap (λ n. bit_at n c.row_bit-bit.result) (sym c.rows_of-rows.ensures) ∙ c.is_set.ensures.0 c.if-not-is_set.false in
    let index : 3 + c.rank.result ≡ row_index ws c.row_bit-bit.result = ap (λ r. 3 + r) (c.rank.ensures.value ∙ ap (λ n. rank n c.row_bit-bit.result) c.rows_of-rows.ensures) in
    let word : slice_index ws (row_index ws c.row_bit-bit.result) ≡ c.word.result =
    sym (c.word.ensures ∙ word_listed (blocks c.args.self.now.pool c.in_ok-block.block) (3 + c.rank.result) ∙ ap (slice_index ws) index) in
    let is : word_at t c.args.path c.args.len ≡ Some c.word.result =
    word_of_len t c.args.path c.args.len c.in_ok-block.block c.five_bits.result c.row_bit-bit.result (omega arith) c.in_ok-block.ensures.block c.five_bits.ensures.value c.row_bit-bit.ensures.value
    ∙ row-set ws c.row_bit-bit.result set ∙ ap Some word in
    is ∙ sym (row_shown c.args.len c.word.result (c.requires.sound.cells.row_words c.args.path c.args.len c.word.result c.requires.fits c.requires.short is))
