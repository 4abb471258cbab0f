use Rattle.std.proofs.Common.{◌≡◌, ◌-◌, arith, ap, sym, ◌∙◌}
use Rattle.array_bitmap.specs.{Tree.block_at, Image.cells_of, Image.top_at}
use Rattle.array_bitmap.proofs.{Walks.block-first, OnePath.named-kid, Lookups.next_block, Stands.index_is, Stands.index_fits, Stands.walk_ends}
use Rattle.array_bitmap.proofs.tree.Tree.stand_on.Goals as goal

pub overflow_cast-index-2 : goal.overflow_cast-index-2
overflow_cast-index-2 g c = omega (arith, index_fits c.args.path c.args.self.now.first c.requires.sound.cells.four_sizes c.requires.fits)

pub loop-d-init : goal.loop-d-init
loop-d-init g c =
    let t = cells_of c.args.self.now in
    let z : c.args.self.now.first - c.args.self.now.first ≡ 0 = omega arith in
    record {
      at = ap (block_at t c.args.path) z ∙ sym c.top.ensures.block;
      name = ap (λ x. (top_at c.args.self.now.tops.items x).block) (index_is c.args.path c.args.self.now.first c.requires.sound.cells.four_sizes)
          ∙ sym (block-first t c.args.path) ∙ sym c.top.ensures.block;
    }

pub returns-then-stand-eq0 : goal.returns-then-stand-eq0
returns-then-stand-eq0 g c =
    walk_ends (cells_of c.args.self.now) c.requires.sound.cells c.args.path c.args.level c.loop-d.d (omega arith) (omega arith) (c.loop-d.invariant.at ∙ c.if-stand-eq0.true)

pub loop-d-preserved : goal.loop-d-preserved
loop-d-preserved g c =
    let t = cells_of c.args.self.now in
    record {
      at = sym (next_block t c.args.path c.loop-d.d c.five_bits-five.result c.loop-d.stand.block c.kid_of.result (omega arith) (sym c.loop-d.invariant.at) c.five_bits-five.ensures.value c.kid_of.ensures);
      name = named-kid t c.loop-d.stand.block c.five_bits-five.result c.if-stand-eq0.false ∙ sym c.kid_of.ensures;
    }
