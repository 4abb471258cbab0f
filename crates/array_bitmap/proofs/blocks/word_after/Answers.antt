use Rattle.std.proofs.Common.{◌≡◌, inl, inr, ◌+◌, arith, ap, sym, subst, ◌∙◌, slice_index, bit_and, Some, None}
use Rattle.std.specs.Int.{bit_at}
use Rattle.std.proofs.lemmas.Bool.{cases_eq}
use Rattle.word_pool.specs.Pool.{blocks}
use Rattle.bitmaps.specs.Bits.{rank, IsHighest}
use Rattle.array_bitmap.specs.{Blocks.row_map, Blocks.row_index, Tree.words_in_block}
use Rattle.array_bitmap.proofs.{Picks.pick_none, Picks.pick_some, PoolWords.block_head, PoolWords.block_holds, PoolWords.word_listed}
use Rattle.bitmaps.proofs.{Ranks.rank_lt, HighestBit.both_bits}
use Rattle.array_bitmap.proofs.blocks.word_after.Goals as goal

pub word-word-requires : goal.word-word-requires
word-word-requires g c =
    let ws = words_in_block (blocks c.args.pool.now c.args.block) in
    elim (cases_eq (bit_and c.args.head.rows c.args.cover) 0) [
      | inl none ↦
          omega (arith, c.highest.ensures.none none, c.rank.ensures.bound, block_head (blocks c.args.pool.now) c.args.block c.requires.is_block)
      | inr some ↦
          let top = c.highest.ensures.some some in
          let set : bit_at (row_map ws) c.highest.result ≡ 1 = ap (λ n. bit_at n c.highest.result) (sym c.requires.head.rows) ∙ (both_bits c.args.head.rows c.args.cover c.highest.result top.1).0 in
          omega (arith, c.rank.ensures.value, ap (λ n. rank n c.highest.result) c.requires.head.rows, rank_lt (row_map ws) c.highest.result set, block_holds (blocks c.args.pool.now) c.args.block c.requires.is_block)
    ]

pub returns : goal.returns
returns g c =
    let ws = words_in_block (blocks c.args.pool.now c.args.block) in
    let rows = ap (λ n. bit_and n c.args.cover) c.requires.head.rows in
    elim (cases_eq (bit_and c.args.head.rows c.args.cover) 0) [
      | inl none ↦ (None, sym rows ∙ none, c.chosen.ensures.other (pick_none (bit_and c.args.head.rows c.args.cover) c.from.result c.from.ensures none))
      | inr some ↦
          let index : 3 + c.rank.result ≡ row_index ws c.highest.result = omega (arith, c.rank.ensures.value, ap (λ n. rank n c.highest.result) c.requires.head.rows) in (
            Some c.highest.result,
            subst (λ n. IsHighest 64 n (Some c.highest.result)) rows (c.highest.ensures.some some),
            c.chosen.ensures.one (pick_some (bit_and c.args.head.rows c.args.cover) c.from.result c.from.ensures some)
                ∙ c.word-word.ensures ∙ word_listed (blocks c.args.pool.now c.args.block) (3 + c.rank.result) ∙ ap (slice_index ws) index,
          )
    ]
