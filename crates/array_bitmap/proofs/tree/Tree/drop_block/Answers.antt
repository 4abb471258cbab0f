use Rattle.std.proofs.Common.{◌+◌, ◌-◌, ◌^◌, arith, ap, sym, ◌∙◌}
use Rattle.word_pool.specs.{Heap.size_of, Pool.blocks}
use Rattle.array_bitmap.specs.{Bits.depth_of, Tree.words_in_block, Tree.block_at, Image.cells_of}
use Rattle.array_bitmap.proofs.PoolWords.{block_head, size_listed}
use Rattle.array_bitmap.proofs.Stands.{stand_is, dropped_size, dropped_sound, dropped_words, dropped_gone}
use Rattle.array_bitmap.proofs.tree.Tree.drop_block.Goals as goal

pub rows_of-requires : goal.rows_of-requires
rows_of-requires g c = block_head (blocks c.args.self.now.pool) c.in-Some.stand.block (stand_is (cells_of c.args.self.now) c.requires.sound.cells c.args.path (c.args.level - c.args.self.now.first) c.in-Some.stand c.in-Some.ensures (omega (arith, c.requires.low, c.requires.deep)))

pub kids_of-requires : goal.kids_of-requires
kids_of-requires g c = block_head (blocks c.args.self.now.pool) c.in-Some.stand.block (stand_is (cells_of c.args.self.now) c.requires.sound.cells c.args.path (c.args.level - c.args.self.now.first) c.in-Some.stand c.in-Some.ensures (omega (arith, c.requires.low, c.requires.deep)))

pub unname-requires-clause-no_rows : goal.unname-requires-clause-no_rows
unname-requires-clause-no_rows g c = sym c.rows_of.ensures ∙ c.if-rows_of-ne0.false

pub unname-requires-clause-no_kids : goal.unname-requires-clause-no_kids
unname-requires-clause-no_kids g c = sym c.kids_of.ensures.value ∙ c.if-kids_of-ne0.false

pub give-requires-clause-used : goal.give-requires-clause-used
give-requires-clause-used g c =
    ap size_of c.unname.ensures.lost.stays ∙ size_listed (blocks c.args.self.now.pool c.in-Some.stand.block)
    ∙ dropped_size (words_in_block (blocks c.args.self.now.pool c.in-Some.stand.block)) (stand_is (cells_of c.args.self.now) c.requires.sound.cells c.args.path (c.args.level - c.args.self.now.first) c.in-Some.stand c.in-Some.ensures (omega (arith, c.requires.low, c.requires.deep)))
    (sym c.rows_of.ensures ∙ c.if-rows_of-ne0.false) (sym c.kids_of.ensures.value ∙ c.if-kids_of-ne0.false)

pub returns-clause-sound : goal.returns-clause-sound
returns-clause-sound g c = record {
  cells = dropped_sound (cells_of c.args.self.now) (cells_of c.unname.new.self) (blocks c.give.new.self) c.in-Some.stand.block c.unname.ensures.lost c.in-Some.ensures.real
      (sym c.kids_of.ensures.value ∙ c.if-kids_of-ne0.false) c.give.ensures.given.gone c.give.ensures.given.others;
  shorts = c.unname.ensures.shorts ∙ c.requires.sound.shorts ∙ ap (λ f. 2 ^ (depth_of f + 1)) (sym c.unname.ensures.first);
  tops = c.unname.ensures.tops ∙ c.requires.sound.tops ∙ ap (λ f. 2 ^ depth_of f) (sym c.unname.ensures.first);
}

pub returns-clause-same : goal.returns-clause-same
returns-clause-same g c =
    dropped_words (cells_of c.args.self.now) (cells_of c.unname.new.self) (blocks c.give.new.self) c.in-Some.stand.block c.unname.ensures.lost c.in-Some.ensures.real
    (sym c.kids_of.ensures.value ∙ c.if-kids_of-ne0.false) c.give.ensures.given.gone c.give.ensures.given.others

pub returns-clause-dropped : goal.returns-clause-dropped
returns-clause-dropped g c = λ _.
    ap (λ f. block_at (record (cells_of c.unname.new.self) { heap = blocks c.give.new.self }) c.args.path (c.args.level - f)) c.unname.ensures.first
    ∙ dropped_gone (cells_of c.args.self.now) (cells_of c.unname.new.self) (blocks c.give.new.self) c.in-Some.stand.block c.unname.ensures.lost c.in-Some.ensures.real
    (sym c.kids_of.ensures.value ∙ c.if-kids_of-ne0.false) c.give.ensures.given.gone c.give.ensures.given.others c.args.path (c.args.level - c.args.self.now.first) c.in-Some.ensures.at
