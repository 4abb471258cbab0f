use Rattle.std.proofs.Common.{ℕ, ◌≡◌, ◌+◌, ◌-◌, ◌*◌, ◌/◌, ◌^◌, ◌<◌, ◌≤◌, arith, ap, sym, subst, ◌∙◌}
use Rattle.std.proofs.Math.Nat.{pow-le-pow_right}
use Rattle.word_pool.specs.Pool.{blocks}
use Rattle.array_bitmap.specs.{Bits.depth_of, Bits.path_start, Tree.IsSoundCells, Image.cells_of}
use Rattle.array_bitmap.proofs.ShortRows.{start_small}
use Rattle.array_bitmap.proofs.Stands.{same_cells, first_stand_there, first_put_sound, first_put_words, first_put_stand}
use Rattle.array_bitmap.proofs.tree.Tree.first_stand.Goals as goal

-- the index, by the first bits, is one of the array
index_is : (path first : ℕ) → first ≤ 3 → path / 2 ^ (30 - 5 * first) ≡ path_start path (depth_of first)
index_is path first four = let e : 30 - 5 * first ≡ 34 - (4 + 5 * first) = omega arith in ap (λ n. path / 2 ^ n) e

index_small : (path first : ℕ) → first ≤ 3 → path < 2 ^ 34 → path / 2 ^ (30 - 5 * first) < 2 ^ depth_of first
index_small path first four fits = rw (index_is path first four) (start_small path (depth_of first) fits (omega arith))

pub overflow_cast-index-2 : goal.overflow_cast-index-2
overflow_cast-index-2 g c =
    let four = c.requires.sound.cells.four_sizes in
    let few : 2 ^ depth_of c.args.self.now.first ≤ 2 ^ 19 = pow-le-pow_right {n = 2} (omega arith) {j = 19} (omega (arith, four)) in
    omega (arith, few, index_small c.args.path c.args.self.now.first four c.requires.fits)

pub returns-then-top-ne0-clause-ok : goal.returns-then-top-ne0-clause-ok
returns-then-top-ne0-clause-ok g c =
    first_stand_there (cells_of c.args.self.now) c.args.path (c.args.path / 2 ^ (30 - 5 * c.args.self.now.first)) c.top-top.result.block
    (index_is c.args.path c.args.self.now.first c.requires.sound.cells.four_sizes) c.top-top.ensures.block c.if-top-ne0.true

pub returns-in_err-block-clause-sound : goal.returns-in_err-block-clause-sound
returns-in_err-block-clause-sound g c = record {
  cells = subst IsSoundCells (sym (same_cells (cells_of c.args.self.now) (blocks c.blank.new.pool) c.in_err-block.ensures.err)) c.requires.sound.cells;
  shorts = c.requires.sound.shorts;
  tops = c.requires.sound.tops;
}

pub rename-requires-clause-within : goal.rename-requires-clause-within
rename-requires-clause-within g c = λ e. rw c.requires.sound.tops (index_small c.args.path c.args.self.now.first c.requires.sound.cells.four_sizes c.requires.fits)

pub returns-clause-sound : goal.returns-clause-sound
returns-clause-sound g c = record {
  cells = first_put_sound (cells_of c.args.self.now) (cells_of c.rename.new.self) (blocks c.blank.new.pool) c.requires.sound.cells c.args.path (c.args.path / 2 ^ (30 - 5 * c.args.self.now.first)) c.in_ok-block.block
      (sym c.top-top.ensures.block ∙ c.if-top-ne0.false) (index_is c.args.path c.args.self.now.first c.requires.sound.cells.four_sizes) c.in_ok-block.ensures.ok c.rename.ensures.name;
  shorts = c.rename.ensures.shorts ∙ c.requires.sound.shorts ∙ ap (λ f. 2 ^ (depth_of f + 1)) (sym c.rename.ensures.first);
  tops = c.rename.ensures.tops ∙ c.requires.sound.tops ∙ ap (λ f. 2 ^ depth_of f) (sym c.rename.ensures.first);
}

pub returns-clause-ok : goal.returns-clause-ok
returns-clause-ok g c =
    first_put_stand (cells_of c.args.self.now) (cells_of c.rename.new.self) (blocks c.blank.new.pool) c.requires.sound.cells c.args.path (c.args.path / 2 ^ (30 - 5 * c.args.self.now.first)) c.in_ok-block.block
    (sym c.top-top.ensures.block ∙ c.if-top-ne0.false) (index_is c.args.path c.args.self.now.first c.requires.sound.cells.four_sizes) c.in_ok-block.ensures.ok c.rename.ensures.name

pub returns-clause-same : goal.returns-clause-same
returns-clause-same g c =
    first_put_words (cells_of c.args.self.now) (cells_of c.rename.new.self) (blocks c.blank.new.pool) c.requires.sound.cells c.args.path (c.args.path / 2 ^ (30 - 5 * c.args.self.now.first)) c.in_ok-block.block
    (sym c.top-top.ensures.block ∙ c.if-top-ne0.false) (index_is c.args.path c.args.self.now.first c.requires.sound.cells.four_sizes) c.in_ok-block.ensures.ok c.rename.ensures.name
