use Rattle.std.proofs.Common.{◌≡◌, ◌+◌, ◌-◌, ◌^◌, ℕ, arith, ap, sym, subst, ◌∙◌}
use Rattle.word_pool.specs.Pool.{blocks}
use Rattle.array_bitmap.specs.{Bits.depth_of, Bits.five_bits, Bits.row_bit, Blocks.row_in, Tree.words_in_block, Tree.words_at, Tree.IsSoundCells, Image.cells_of}
use Rattle.bitmaps.proofs.Options.{refused}
use Rattle.array_bitmap.proofs.Stands.{holder_stays_block, holder_stays_bit, holder_index, put_sets, put_sound, same_cells, word_of_stand}
use Rattle.array_bitmap.proofs.tree.Tree.put_row.Goals as goal

bit_is : (path level more five bit : ℕ) → five ≡ five_bits path level → bit ≡ row_bit five more → bit ≡ row_bit (five_bits path level) more
bit_is path level more five bit f b = b ∙ ap (λ v. row_bit v more) f

pub rename-requires-clause-is_block : goal.rename-requires-clause-is_block
rename-requires-clause-is_block g c =
    holder_stays_block (cells_of c.args.self.now) c.requires.sound.cells c.args.path (c.args.level - c.args.self.now.first) c.args.stand c.requires.stand (omega (arith, c.requires.low, c.requires.deep))
    (blocks c.with_row.new.pool) c.in_ok-place.place (words_in_block (blocks c.with_row.new.pool c.in_ok-place.place)) c.in_ok-place.ensures.ok.reworded

pub rename-requires-clause-kid : goal.rename-requires-clause-kid
rename-requires-clause-kid g c =
    holder_stays_bit (cells_of c.args.self.now) c.requires.sound.cells c.args.path (c.args.level - c.args.self.now.first) c.args.stand c.requires.stand (omega (arith, c.requires.low, c.requires.deep))
    (blocks c.with_row.new.pool) c.in_ok-place.place (words_in_block (blocks c.with_row.new.pool c.in_ok-place.place)) c.in_ok-place.ensures.ok.reworded

pub rename-requires-clause-five : goal.rename-requires-clause-five
rename-requires-clause-five g c =
    holder_index (cells_of c.args.self.now) c.requires.sound.cells c.args.path (c.args.level - c.args.self.now.first) c.args.stand c.requires.stand (omega (arith, c.requires.low, c.requires.deep))

pub returns-in_err-place-clause-sound : goal.returns-in_err-place-clause-sound
returns-in_err-place-clause-sound g c = record {
  cells = subst IsSoundCells (sym (same_cells (cells_of c.args.self.now) (blocks c.with_row.new.pool) c.in_err-place.ensures.err)) c.requires.sound.cells;
  shorts = c.requires.sound.shorts;
  tops = c.requires.sound.tops;
}

pub returns-in_err-place-clause-full : goal.returns-in_err-place-clause-full
returns-in_err-place-clause-full g c =
    let bit = bit_is c.args.path c.args.level c.args.more c.five_bits.result c.row_bit-bit.result c.five_bits.ensures.value c.row_bit-bit.ensures.value in
    refused c.from_residual.result
    (word_of_stand (cells_of c.args.self.now) c.args.path c.args.level c.args.more c.args.stand.block c.requires.low c.requires.few c.requires.stand.at
    ∙ ap (row_in (words_at (cells_of c.args.self.now) c.args.stand.block)) (sym bit) ∙ c.in_err-place.ensures.full)

pub returns-clause-sound : goal.returns-clause-sound
returns-clause-sound g c = record {
  cells = put_sound (cells_of c.args.self.now) (cells_of c.rename.new.self) (blocks c.with_row.new.pool) c.requires.sound.cells c.args.path c.args.level c.args.more c.row_bit-bit.result c.in_ok-place.place c.args.word
      c.args.stand c.requires.low c.requires.deep c.requires.few c.requires.stand (bit_is c.args.path c.args.level c.args.more c.five_bits.result c.row_bit-bit.result c.five_bits.ensures.value c.row_bit-bit.ensures.value)
      c.in_ok-place.ensures.ok c.rename.ensures.name c.requires.row;
  shorts = c.rename.ensures.shorts ∙ c.requires.sound.shorts ∙ ap (λ f. 2 ^ (depth_of f + 1)) (sym c.rename.ensures.first);
  tops = c.rename.ensures.tops ∙ c.requires.sound.tops ∙ ap (λ f. 2 ^ depth_of f) (sym c.rename.ensures.first);
}

pub returns-clause-ok : goal.returns-clause-ok
returns-clause-ok g c =
    put_sets (cells_of c.args.self.now) (cells_of c.rename.new.self) (blocks c.with_row.new.pool) c.requires.sound.cells c.args.path c.args.level c.args.more c.row_bit-bit.result c.in_ok-place.place c.args.word
    c.args.stand c.requires.low c.requires.deep c.requires.few c.requires.stand (bit_is c.args.path c.args.level c.args.more c.five_bits.result c.row_bit-bit.result c.five_bits.ensures.value c.row_bit-bit.ensures.value)
    c.in_ok-place.ensures.ok c.rename.ensures.name
