use Rattle.std.proofs.Common.{◌+◌, ◌-◌, ◌^◌, arith, ap, sym, subst, ◌∙◌}
use Rattle.word_pool.specs.Pool.{blocks}
use Rattle.array_bitmap.specs.{Bits.depth_of, Tree.IsSoundCells, Image.cells_of}
use Rattle.array_bitmap.proofs.Lookups.{next_block}
use Rattle.bitmaps.proofs.Options.{refused}
use Rattle.array_bitmap.proofs.Stands.{holder_index, same_cells, kid_stand, kid_holder_block, kid_holder_bit, kid_put_words, kid_put_sound, kid_put_stand}
use Rattle.array_bitmap.proofs.tree.Tree.child.Goals as goal

pub returns-then-kid-ne0-clause-ok : goal.returns-then-kid-ne0-clause-ok
returns-then-kid-ne0-clause-ok g c =
    kid_stand (cells_of c.args.self.now) c.requires.sound.cells c.args.path c.args.level c.five_bits-five.result c.kid_of-kid.result c.args.stand c.requires.low c.requires.stand c.five_bits-five.ensures.value
    c.kid_of-kid.ensures c.if-kid-ne0.true

pub returns-in_err-made-clause-sound : goal.returns-in_err-made-clause-sound
returns-in_err-made-clause-sound g c = record {
  cells = subst IsSoundCells (sym (same_cells (cells_of c.args.self.now) (blocks c.with_new_kid.new.pool) c.in_err-made.ensures.err)) c.requires.sound.cells;
  shorts = c.requires.sound.shorts;
  tops = c.requires.sound.tops;
}

pub returns-in_err-made-clause-full : goal.returns-in_err-made-clause-full
returns-in_err-made-clause-full g c =
    refused c.from_residual.result
    (sym (next_block (cells_of c.args.self.now) c.args.path c.args.level c.five_bits-five.result c.args.stand.block c.kid_of-kid.result c.requires.low (sym c.requires.stand.at) c.five_bits-five.ensures.value c.kid_of-kid.ensures)
    ∙ c.if-kid-ne0.false)

pub rename-requires-clause-is_block : goal.rename-requires-clause-is_block
rename-requires-clause-is_block g c =
    kid_holder_block (cells_of c.args.self.now) c.in_ok-made.ensures.ok.between c.requires.sound.cells c.args.path c.args.level c.in_ok-made.made.kid c.args.stand c.requires.low c.requires.deep c.requires.stand c.in_ok-made.ensures.ok.taken
    (cells_of c.args.self.now) (blocks c.with_new_kid.new.pool) c.five_bits-five.result c.in_ok-made.made.place c.in_ok-made.ensures.ok.put

pub rename-requires-clause-kid : goal.rename-requires-clause-kid
rename-requires-clause-kid g c =
    kid_holder_bit (cells_of c.args.self.now) c.in_ok-made.ensures.ok.between c.requires.sound.cells c.args.path c.args.level c.in_ok-made.made.kid c.args.stand c.requires.low c.requires.deep c.requires.stand c.in_ok-made.ensures.ok.taken
    (cells_of c.args.self.now) (blocks c.with_new_kid.new.pool) c.five_bits-five.result c.in_ok-made.made.place c.in_ok-made.ensures.ok.put

pub rename-requires-clause-five : goal.rename-requires-clause-five
rename-requires-clause-five g c =
    holder_index (cells_of c.args.self.now) c.requires.sound.cells c.args.path (c.args.level - c.args.self.now.first) c.args.stand c.requires.stand (omega (arith, c.requires.low, c.requires.deep))

pub returns-clause-sound : goal.returns-clause-sound
returns-clause-sound g c = record {
  cells = kid_put_sound (cells_of c.args.self.now) c.in_ok-made.ensures.ok.between c.requires.sound.cells c.args.path c.args.level c.in_ok-made.made.kid c.args.stand c.requires.low c.requires.deep c.requires.stand c.in_ok-made.ensures.ok.taken
      (cells_of c.rename.new.self) (blocks c.with_new_kid.new.pool) c.five_bits-five.result c.in_ok-made.made.place c.in_ok-made.ensures.ok.put
      c.five_bits-five.ensures.value (sym c.kid_of-kid.ensures ∙ c.if-kid-ne0.false) c.rename.ensures.name;
  shorts = c.rename.ensures.shorts ∙ c.requires.sound.shorts ∙ ap (λ f. 2 ^ (depth_of f + 1)) (sym c.rename.ensures.first);
  tops = c.rename.ensures.tops ∙ c.requires.sound.tops ∙ ap (λ f. 2 ^ depth_of f) (sym c.rename.ensures.first);
}

pub returns-clause-ok : goal.returns-clause-ok
returns-clause-ok g c =
    kid_put_stand (cells_of c.args.self.now) c.in_ok-made.ensures.ok.between c.requires.sound.cells c.args.path c.args.level c.in_ok-made.made.kid c.args.stand c.requires.low c.requires.deep c.requires.stand c.in_ok-made.ensures.ok.taken
    (cells_of c.rename.new.self) (blocks c.with_new_kid.new.pool) c.five_bits-five.result c.in_ok-made.made.place c.in_ok-made.ensures.ok.put
    c.five_bits-five.ensures.value (sym c.kid_of-kid.ensures ∙ c.if-kid-ne0.false) c.rename.ensures.name

pub returns-clause-same : goal.returns-clause-same
returns-clause-same g c =
    kid_put_words (cells_of c.args.self.now) c.in_ok-made.ensures.ok.between c.requires.sound.cells c.args.path c.args.level c.in_ok-made.made.kid c.args.stand c.requires.low c.requires.deep c.requires.stand c.in_ok-made.ensures.ok.taken
    (cells_of c.rename.new.self) (blocks c.with_new_kid.new.pool) c.five_bits-five.result c.in_ok-made.made.place c.in_ok-made.ensures.ok.put
    c.five_bits-five.ensures.value (sym c.kid_of-kid.ensures ∙ c.if-kid-ne0.false) c.rename.ensures.name
