use Rattle.std.proofs.Common.{ℕ, ◌≡◌, ◌+◌, ◌-◌, ◌/◌, ◌%◌, ◌<◌, None, is_some, arith, ap, sym, ◌∙◌, ◌^◌}
use Rattle.std.specs.Int.{bit_at}
use Rattle.std.proofs.lemmas.Bool.{both_ways}
use Rattle.word_pool.specs.Pool.{blocks}
use Rattle.array_bitmap.specs.{Bits.depth_of, Bits.row_bit, Image.cells_of}
use Rattle.array_bitmap.specs.Tree.{Cells, words_at, block_at, word_at, IsSoundCells, words_in_block}
use Rattle.array_bitmap.proofs.{Covering.row-set, Covering.row-clear, PoolWords.block_head, SetsWords.sets_to, Refusals.no_word_below}
use Rattle.array_bitmap.proofs.Stands.{stand_is, holder_stays_block, holder_stays_bit, holder_index, word_of_len, nothing_to_take, out_sets, out_sound}
use Rattle.array_bitmap.proofs.tree.Tree.remove_long.Goals as goal

-- where there is no block, a path has no long word
none_here : (c : Cells) (sound : IsSoundCells c) (path len : ℕ) → depth_of c.first < len → block_at c path ((len - 5) / 5 - c.first) ≡ 0 → word_at c path len ≡ None
none_here c sound path len long none = no_word_below c sound path len ((len - 5) / 5) (omega (arith, long)) (omega (arith, long)) none

pub returns-in_default-clause-gone : goal.returns-in_default-clause-gone
returns-in_default-clause-gone g c =
    nothing_to_take (cells_of c.args.self.now) c.args.path c.args.len (omega (arith, c.requires.short)) (none_here (cells_of c.args.self.now) c.requires.sound.cells c.args.path c.args.len c.requires.long c.in_default.ensures)

pub returns-in_default-clause-found : goal.returns-in_default-clause-found
returns-in_default-clause-found g c = sym (ap is_some (none_here (cells_of c.args.self.now) c.requires.sound.cells c.args.path c.args.len c.requires.long c.in_default.ensures))

pub rows_of-requires : goal.rows_of-requires
rows_of-requires g c = block_head (blocks c.args.self.now.pool) c.in-Some.stand.block (stand_is (cells_of c.args.self.now) c.requires.sound.cells c.args.path ((c.args.len - 5) / 5 - c.args.self.now.first) c.in-Some.stand c.in-Some.ensures (omega (arith, c.requires.long, c.requires.short)))

pub returns-then-not-is_set-clause-gone : goal.returns-then-not-is_set-clause-gone
returns-then-not-is_set-clause-gone g c =
    let t = cells_of c.args.self.now in
    let st = c.in-Some.ensures in
    nothing_to_take t c.args.path c.args.len (omega (arith, c.requires.short))
    (word_of_len t c.args.path c.args.len c.in-Some.stand.block c.five_bits.result c.row_bit-bit.result c.requires.long st.at c.five_bits.ensures.value c.row_bit-bit.ensures.value
    ∙ row-clear (words_at t c.in-Some.stand.block) c.row_bit-bit.result
    (λ h. both_ways c.is_set.result c.if-not-is_set.true (c.is_set.ensures.1 (ap (λ n. bit_at n c.row_bit-bit.result) c.rows_of.ensures ∙ h))))

pub returns-then-not-is_set-clause-found : goal.returns-then-not-is_set-clause-found
returns-then-not-is_set-clause-found g c =
    let t = cells_of c.args.self.now in
    let st = c.in-Some.ensures in
    sym (ap is_some (word_of_len t c.args.path c.args.len c.in-Some.stand.block c.five_bits.result c.row_bit-bit.result c.requires.long st.at c.five_bits.ensures.value c.row_bit-bit.ensures.value
    ∙ row-clear (words_at t c.in-Some.stand.block) c.row_bit-bit.result
    (λ h. both_ways c.is_set.result c.if-not-is_set.true (c.is_set.ensures.1 (ap (λ n. bit_at n c.row_bit-bit.result) c.rows_of.ensures ∙ h)))))

pub rename-requires-clause-is_block : goal.rename-requires-clause-is_block
rename-requires-clause-is_block g c =
    holder_stays_block (cells_of c.args.self.now) c.requires.sound.cells c.args.path ((c.args.len - 5) / 5 - c.args.self.now.first) c.in-Some.stand c.in-Some.ensures (omega (arith, c.requires.long, c.requires.short))
    (blocks c.without_row-place.new.pool) c.without_row-place.result (words_in_block (blocks c.without_row-place.new.pool c.without_row-place.result)) c.without_row-place.ensures.reworded

pub rename-requires-clause-kid : goal.rename-requires-clause-kid
rename-requires-clause-kid g c =
    holder_stays_bit (cells_of c.args.self.now) c.requires.sound.cells c.args.path ((c.args.len - 5) / 5 - c.args.self.now.first) c.in-Some.stand c.in-Some.ensures (omega (arith, c.requires.long, c.requires.short))
    (blocks c.without_row-place.new.pool) c.without_row-place.result (words_in_block (blocks c.without_row-place.new.pool c.without_row-place.result)) c.without_row-place.ensures.reworded

pub rename-requires-clause-five : goal.rename-requires-clause-five
rename-requires-clause-five g c =
    holder_index (cells_of c.args.self.now) c.requires.sound.cells c.args.path ((c.args.len - 5) / 5 - c.args.self.now.first) c.in-Some.stand c.in-Some.ensures (omega (arith, c.requires.long, c.requires.short))

pub prune-requires-clause-sound : goal.prune-requires-clause-sound
prune-requires-clause-sound g c = record {
  cells = out_sound (cells_of c.args.self.now) (cells_of c.rename.new.self) (blocks c.without_row-place.new.pool) c.requires.sound.cells c.args.path ((c.args.len - 5) / 5) ((c.args.len - 5) % 5) c.row_bit-bit.result c.without_row-place.result c.in-Some.stand
      (omega (arith, c.requires.long)) (omega (arith, c.requires.short)) (omega arith) c.in-Some.ensures (c.row_bit-bit.ensures.value ∙ ap (λ v. row_bit v ((c.args.len - 5) % 5)) c.five_bits.ensures.value)
      c.without_row-place.ensures c.rename.ensures.name;
  shorts = c.rename.ensures.shorts ∙ c.requires.sound.shorts ∙ ap (λ f. 2 ^ (depth_of f + 1)) (sym c.rename.ensures.first);
  tops = c.rename.ensures.tops ∙ c.requires.sound.tops ∙ ap (λ f. 2 ^ depth_of f) (sym c.rename.ensures.first);
}

pub returns-clause-gone : goal.returns-clause-gone
returns-clause-gone g c =
    let whole : depth_of ((c.args.len - 5) / 5) + ((c.args.len - 5) % 5 + 1) ≡ c.args.len = omega (arith, c.requires.long) in
    sets_to (word_at (cells_of c.args.self.now)) (word_at (cells_of c.rename.new.self)) (word_at (cells_of c.prune.new.self)) c.args.path c.args.len (depth_of ((c.args.len - 5) / 5) + ((c.args.len - 5) % 5 + 1)) None c.prune.ensures.same whole
    (out_sets (cells_of c.args.self.now) (cells_of c.rename.new.self) (blocks c.without_row-place.new.pool) c.requires.sound.cells c.args.path ((c.args.len - 5) / 5) ((c.args.len - 5) % 5) c.row_bit-bit.result c.without_row-place.result c.in-Some.stand
    (omega (arith, c.requires.long)) (omega (arith, c.requires.short)) (omega arith) c.in-Some.ensures (c.row_bit-bit.ensures.value ∙ ap (λ v. row_bit v ((c.args.len - 5) % 5)) c.five_bits.ensures.value)
    c.without_row-place.ensures c.rename.ensures.name)

pub returns-clause-found : goal.returns-clause-found
returns-clause-found g c =
    let t = cells_of c.args.self.now in
    let st = c.in-Some.ensures in
    sym (ap is_some (word_of_len t c.args.path c.args.len c.in-Some.stand.block c.five_bits.result c.row_bit-bit.result c.requires.long st.at c.five_bits.ensures.value c.row_bit-bit.ensures.value
    ∙ row-set (words_at t c.in-Some.stand.block) c.row_bit-bit.result
    (ap (λ n. bit_at n c.row_bit-bit.result) (sym c.rows_of.ensures) ∙ c.is_set.ensures.0 c.if-not-is_set.false)))
