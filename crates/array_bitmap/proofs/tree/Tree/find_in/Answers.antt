use Rattle.std.proofs.Common.{◌≡◌, ◌+◌, ◌-◌, ◌*◌, ◌/◌, ◌%◌, ◌^◌, Some, option_map, slice_index, arith, sym, ap, subst, ◌∙◌}
use Rattle.std.specs.Int.{bit_at}
use Rattle.std.proofs.lemmas.Bool.{both_ways}
use Rattle.word_pool.specs.Pool.{blocks}
use Rattle.bitmaps.specs.Bits.{rank}
use Rattle.array_bitmap.specs.Bits.{depth_of, five_bits, path_start, row_bit}
use Rattle.array_bitmap.specs.{Blocks.row_map, Blocks.row_index, Cursor.IsFoundAt, Image.cells_of, Words.word_entry}
use Rattle.array_bitmap.specs.Tree.{words_in_block, block_at, word_at, entry_in}
use Rattle.array_bitmap.proofs.{BlockSteps.no_five_after, BlockSteps.none_until_block_end, BlockSteps.none_until_spot, Covering.row-set, Lookups.block_is, PoolWords.block_head, PoolWords.block_holds, PoolWords.word_listed, Stands.word_of_len}
use Rattle.bitmaps.proofs.Ranks.{rank_lt}
use Rattle.array_bitmap.proofs.tree.Tree.find_in.Goals as goal

pub head_of-head-requires : goal.head_of-head-requires
head_of-head-requires g c =
    block_head (blocks c.args.self.now.pool) c.args.block (block_is (cells_of c.args.self.now) c.requires.sound.cells (c.args.at.addr * 4) (c.args.level - c.args.self.now.first) c.args.block (sym c.requires.block))

pub word-requires : goal.word-requires
word-requires g c =
    let ws = words_in_block (blocks c.args.self.now.pool c.args.block) in
    let set : bit_at (row_map ws) c.row_bit-bit.result ≡ 1 = ap (λ n. bit_at n c.row_bit-bit.result) (sym c.head_of-head.ensures.rows) ∙ c.is_set.ensures.0 c.if-is_set.true in
    omega (
      arith,
      c.rank.ensures.value,
      ap (λ n. rank n c.row_bit-bit.result) c.head_of-head.ensures.rows,
      rank_lt (row_map ws) c.row_bit-bit.result set,
      block_holds (blocks c.args.self.now.pool) c.args.block (block_is (cells_of c.args.self.now) c.requires.sound.cells (c.args.at.addr * 4) (c.args.level - c.args.self.now.first) c.args.block (sym c.requires.block)),
    )

pub returns-then-is_set : goal.returns-then-is_set
returns-then-is_set g c =
    let t = cells_of c.args.self.now in
    let ws = words_in_block (blocks c.args.self.now.pool c.args.block) in
    let set : bit_at (row_map ws) c.row_bit-bit.result ≡ 1 = ap (λ n. bit_at n c.row_bit-bit.result) (sym c.head_of-head.ensures.rows) ∙ c.is_set.ensures.0 c.if-is_set.true in
    let path : c.path_of.result ≡ c.args.at.addr * 4 = c.path_of.ensures.value ∙ ap (λ a. a * 4) c.addr-addr.ensures.value in
    let len : c.from.result ≡ c.args.at.len = c.from.ensures ∙ c.len.ensures.value in
    let at : block_at t (c.args.at.addr * 4) ((c.args.at.len - 5) / 5 - c.args.self.now.first) ≡ c.args.block = ap (λ l. block_at t (c.args.at.addr * 4) (l - c.args.self.now.first)) (sym c.requires.level) ∙ c.requires.block in
    let five : c.five_bits-five.result ≡ five_bits (c.args.at.addr * 4) ((c.args.at.len - 5) / 5) = c.five_bits-five.ensures.value ∙ ap (λ p. five_bits p c.args.level) path ∙ ap (five_bits (c.args.at.addr * 4)) c.requires.level in
    let bit : c.row_bit-bit.result ≡ row_bit c.five_bits-five.result ((c.args.at.len - 5) % 5) = c.row_bit-bit.ensures.value ∙ ap (λ l. row_bit c.five_bits-five.result ((l - 5) % 5)) len in
    let index : 3 + c.rank.result ≡ row_index ws c.row_bit-bit.result = ap (λ r. 3 + r) (c.rank.ensures.value ∙ ap (λ n. rank n c.row_bit-bit.result) c.head_of-head.ensures.rows) in
    let word : slice_index ws (row_index ws c.row_bit-bit.result) ≡ c.word.result =
    sym (c.word.ensures ∙ word_listed (blocks c.args.self.now.pool c.args.block) (3 + c.rank.result) ∙ ap (slice_index ws) index) in
    let is : word_at t (c.args.at.addr * 4) c.args.at.len ≡ Some c.word.result =
    word_of_len t (c.args.at.addr * 4) c.args.at.len c.args.block c.five_bits-five.result c.row_bit-bit.result c.requires.long at five bit ∙ row-set ws c.row_bit-bit.result set ∙ ap Some word in
    ap (option_map word_entry) is ∙ ap Some (sym c.entry_of.ensures)

pub next_spot-next-requires-clause-start : goal.next_spot-next-requires-clause-start
next_spot-next-requires-clause-start g c =
    let path : c.path_of.result ≡ c.args.at.addr * 4 = c.path_of.ensures.value ∙ ap (λ a. a * 4) c.addr-addr.ensures.value in
    let len : c.from.result ≡ c.args.at.len = c.from.ensures ∙ c.len.ensures.value in
    let five : c.five_bits-five.result ≡ five_bits (c.args.at.addr * 4) c.args.level = c.five_bits-five.ensures.value ∙ ap (λ p. five_bits p c.args.level) path in
    let short = c.requires.valid.short in
    ap (λ n. n % 2 ^ (4 - (c.from.result - 5) % 5)) five
    ∙ no_five_after c.args.at c.args.level ((c.from.result - 5) % 5) c.requires.valid (omega (arith, c.requires.level, short)) (omega arith) (omega (arith, len, c.requires.level, c.requires.long))

pub returns-then-next-eq32 : goal.returns-then-next-eq32
returns-then-next-eq32 g c =
    let t = cells_of c.args.self.now in
    let path : c.path_of.result ≡ c.args.at.addr * 4 = c.path_of.ensures.value ∙ ap (λ a. a * 4) c.addr-addr.ensures.value in
    let len : c.from.result ≡ c.args.at.len = c.from.ensures ∙ c.len.ensures.value in
    let five : c.five_bits-five.result ≡ five_bits (c.args.at.addr * 4) c.args.level = c.five_bits-five.ensures.value ∙ ap (λ p. five_bits p c.args.level) path in
    let short = c.requires.valid.short in
    subst (IsFoundAt (entry_in t) c.args.at) (sym c.none_until.ensures)
    (none_until_block_end t c.requires.sound.cells c.args.at c.args.level c.args.block c.five_bits-five.result ((c.from.result - 5) % 5) c.head_of-head.result c.next_spot-next.result
    c.requires.valid (omega (arith, c.requires.level, c.requires.long)) (omega (arith, c.requires.level, short)) (omega (arith, len, c.requires.level, c.requires.long)) (omega arith) five c.requires.block c.head_of-head.ensures
    (λ h. both_ways c.is_set.result c.if-is_set.false (c.is_set.ensures.1 (ap (λ b. bit_at c.head_of-head.result.rows b) c.row_bit-bit.ensures.value ∙ h)))
    c.next_spot-next.ensures c.addr-addr.result c.first_past.result c.if-next-eq32.true c.addr-addr.ensures.value c.first_past.ensures)

pub returns : goal.returns
returns g c =
    let t = cells_of c.args.self.now in
    let path : c.path_of.result ≡ c.args.at.addr * 4 = c.path_of.ensures.value ∙ ap (λ a. a * 4) c.addr-addr.ensures.value in
    let len : c.from.result ≡ c.args.at.len = c.from.ensures ∙ c.len.ensures.value in
    let five : c.five_bits-five.result ≡ five_bits (c.args.at.addr * 4) c.args.level = c.five_bits-five.ensures.value ∙ ap (λ p. five_bits p c.args.level) path in
    let short = c.requires.valid.short in
    let within = c.next_spot-next.ensures.within in
    none_until_spot t c.requires.sound.cells c.args.at c.args.level c.args.block c.five_bits-five.result ((c.from.result - 5) % 5) c.head_of-head.result c.next_spot-next.result
    c.requires.valid (omega (arith, c.requires.level, c.requires.long)) (omega (arith, c.requires.level, short)) (omega (arith, len, c.requires.level, c.requires.long)) (omega arith) five c.requires.block c.head_of-head.ensures
    (λ h. both_ways c.is_set.result c.if-is_set.false (c.is_set.ensures.1 (ap (λ b. bit_at c.head_of-head.result.rows b) c.row_bit-bit.ensures.value ∙ h)))
    c.next_spot-next.ensures c.prefix_at.result (omega (arith, within, c.if-next-eq32.false)) c.prefix_at.ensures.valid
    (c.prefix_at.ensures.addr ∙ ap (λ a. (path_start (a * 4) (depth_of c.args.level) * 32 + c.next_spot-next.result.five) * 2 ^ (25 - 5 * c.args.level)) c.addr-addr.ensures.value)
    c.prefix_at.ensures.len
