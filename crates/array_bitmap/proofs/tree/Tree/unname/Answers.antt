use Rattle.std.proofs.Common.{ℕ, ◌≡◌, ◌≢◌, ◌+◌, ◌-◌, ◌≤◌, arith, ap, sym, subst, ◌∙◌}
use Rattle.std.specs.Int.{bit_at}
use Rattle.word_pool.specs.Pool.{blocks}
use Rattle.array_bitmap.specs.{Blocks.kid_map, Changes.WritesName, Image.cells_of, Image.IsStand, declared.tree.Stand.Stand}
use Rattle.array_bitmap.specs.Tree.{Cells, IsSoundCells, words_in_block, block_at}
use Rattle.array_bitmap.proofs.Stands.{stand_is, holder_bit, holder_index, holder_stays_block, holder_stays_bit, holder_above, top_lost, kid_lost}
use Rattle.array_bitmap.proofs.tree.Tree.unname.Goals as goal

above_at : (c : Cells) (sound : IsSoundCells c) (path level : ℕ) (stand : Stand) → IsStand c path (level - c.first) stand → stand.holder ≢ 0
    → (c.first + 1 ≤ level) × (block_at c path (level - 1 - c.first) ≡ stand.holder)
above_at c sound path level stand st some =
    let h = holder_above c sound path (level - c.first) stand st some in
    let e : level - c.first - 1 ≡ level - 1 - c.first = omega arith in
    (omega (arith, h.0), sym (ap (block_at c path) e) ∙ h.1)

pub overflow_sub-level : goal.overflow_sub-level
overflow_sub-level g c = let h = above_at (cells_of c.args.self.now) c.requires.sound.cells c.args.path c.args.level c.args.stand c.requires.stand c.if-stand-eq0.false in omega (arith, h.0)

pub stand_on-requires-clause-low : goal.stand_on-requires-clause-low
stand_on-requires-clause-low g c = let h = above_at (cells_of c.args.self.now) c.requires.sound.cells c.args.path c.args.level c.args.stand c.requires.stand c.if-stand-eq0.false in omega (arith, h.0)

pub returns-in_default-clause-lost : goal.returns-in_default-clause-lost
returns-in_default-clause-lost g c =
    let h = above_at (cells_of c.args.self.now) c.requires.sound.cells c.args.path c.args.level c.args.stand c.requires.stand c.if-stand-eq0.false in
    absurd (c.if-stand-eq0.false (sym h.1 ∙ c.in_default.ensures))

pub without_kid-place-requires-clause-is_block : goal.without_kid-place-requires-clause-is_block
without_kid-place-requires-clause-is_block g c =
    stand_is (cells_of c.args.self.now) c.requires.sound.cells c.args.path (c.args.level - 1 - c.args.self.now.first) c.in-Some.above c.in-Some.ensures (omega (arith, c.requires.deep, c.requires.low))

pub without_kid-place-requires-clause-small : goal.without_kid-place-requires-clause-small
without_kid-place-requires-clause-small g c =
    holder_index (cells_of c.args.self.now) c.requires.sound.cells c.args.path (c.args.level - c.args.self.now.first) c.args.stand c.requires.stand (omega (arith, c.requires.deep, c.requires.low)) c.if-stand-eq0.false

held : (c : Cells) (sound : IsSoundCells c) (path level : ℕ) (stand above : Stand) → IsStand c path (level - c.first) stand → stand.holder ≢ 0 → IsStand c path (level - 1 - c.first) above → stand.holder ≡ above.block
held c sound path level stand above st some sa = let at = sa.at in sym (above_at c sound path level stand st some).1 ∙ at

pub without_kid-place-requires-clause-set : goal.without_kid-place-requires-clause-set
without_kid-place-requires-clause-set g c =
    let t = cells_of c.args.self.now in
    subst (λ p. bit_at (kid_map (words_in_block (blocks c.args.self.now.pool p))) c.args.stand.index ≡ 1)
    (held t c.requires.sound.cells c.args.path c.args.level c.args.stand c.in-Some.above c.requires.stand c.if-stand-eq0.false c.in-Some.ensures)
    (holder_bit t c.requires.sound.cells c.args.path (c.args.level - c.args.self.now.first) c.args.stand c.requires.stand (omega (arith, c.requires.deep, c.requires.low)) c.if-stand-eq0.false)

pub rename-requires-clause-is_block : goal.rename-requires-clause-is_block
rename-requires-clause-is_block g c =
    holder_stays_block (cells_of c.args.self.now) c.requires.sound.cells c.args.path (c.args.level - 1 - c.args.self.now.first) c.in-Some.above c.in-Some.ensures (omega (arith, c.requires.deep, c.requires.low))
    (blocks c.without_kid-place.new.pool) c.without_kid-place.result (words_in_block (blocks c.without_kid-place.new.pool c.without_kid-place.result)) c.without_kid-place.ensures.reworded

pub rename-requires-clause-kid : goal.rename-requires-clause-kid
rename-requires-clause-kid g c =
    holder_stays_bit (cells_of c.args.self.now) c.requires.sound.cells c.args.path (c.args.level - 1 - c.args.self.now.first) c.in-Some.above c.in-Some.ensures (omega (arith, c.requires.deep, c.requires.low))
    (blocks c.without_kid-place.new.pool) c.without_kid-place.result (words_in_block (blocks c.without_kid-place.new.pool c.without_kid-place.result)) c.without_kid-place.ensures.reworded

pub rename-requires-clause-five : goal.rename-requires-clause-five
rename-requires-clause-five g c =
    holder_index (cells_of c.args.self.now) c.requires.sound.cells c.args.path (c.args.level - 1 - c.args.self.now.first) c.in-Some.above c.in-Some.ensures (omega (arith, c.requires.deep, c.requires.low))

pub returns-then-stand-eq0-clause-lost : goal.returns-then-stand-eq0-clause-lost
returns-then-stand-eq0-clause-lost g c =
    top_lost (cells_of c.args.self.now) c.requires.sound.cells c.args.path (c.args.level - c.args.self.now.first) c.args.stand c.requires.stand c.requires.no_rows c.requires.no_kids (cells_of c.forget_top.new.self)
    (subst (λ p. WritesName (cells_of c.args.self.now) (cells_of c.forget_top.new.self) p c.args.stand.index 0) (sym c.if-stand-eq0.true) c.forget_top.ensures.name) (omega (arith, c.requires.deep, c.requires.low))

pub returns-clause-lost : goal.returns-clause-lost
returns-clause-lost g c =
    let t = cells_of c.args.self.now in
    kid_lost t c.requires.sound.cells c.args.path (c.args.level - c.args.self.now.first) c.args.stand c.requires.stand c.requires.no_rows c.requires.no_kids (cells_of c.rename.new.self)
    (blocks c.without_kid-place.new.pool) c.without_kid-place.result (c.args.level - 1 - c.args.self.now.first) c.in-Some.above c.in-Some.ensures (omega (arith, c.requires.deep, c.requires.low))
    (held t c.requires.sound.cells c.args.path c.args.level c.args.stand c.in-Some.above c.requires.stand c.if-stand-eq0.false c.in-Some.ensures) c.without_kid-place.ensures c.rename.ensures.name
