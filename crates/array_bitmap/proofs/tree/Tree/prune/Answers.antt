use Rattle.std.proofs.Common.{◌-◌, ◌∙◌, arith, ap}
use Rattle.array_bitmap.specs.{Tree.block_at, Image.cells_of}
use Rattle.array_bitmap.proofs.{Pruned.all_used, Stands.walk_ends}
use Rattle.array_bitmap.proofs.tree.Tree.prune.Goals as goal

pub returns-then-not-drop_block-clause-pruned : goal.returns-then-not-drop_block-clause-pruned
returns-then-not-drop_block-clause-pruned g c =
    let kept = c.drop_block.ensures.kept c.if-not-drop_block.true in
    let first = c.drop_block.ensures.first in
    all_used (cells_of c.drop_block.new.self) c.drop_block.ensures.sound.cells c.args.path c.args.level (c.args.level - c.loop-up.up) kept.1 kept.2
    (λ d low below high. kept.0 (d - c.drop_block.new.self.first) ∙ ap (λ f. block_at (cells_of c.loop-up.self) c.args.path (d - f)) first
    ∙ c.loop-up.invariant.gone d (omega (arith, low, first)) (omega (arith, below)) high)

pub loop-up-preserved : goal.loop-up-preserved
loop-up-preserved g c =
    let first = c.drop_block.ensures.first in
    record {
      sound = c.drop_block.ensures.sound;
      first = c.drop_block.ensures.first ∙ c.loop-up.invariant.first;
      same = λ q m. c.drop_block.ensures.same q m ∙ c.loop-up.invariant.same q m;
      gone = λ d low below high.
          walk_ends (cells_of c.drop_block.new.self) c.drop_block.ensures.sound.cells c.args.path d (c.args.level - c.loop-up.up)
          (omega (arith, first, c.loop-up.invariant.first, c.loop-up-test.true, c.requires.low)) (omega (arith, below)) (c.drop_block.ensures.dropped c.if-not-drop_block.false);
    }

pub returns-clause-pruned : goal.returns-clause-pruned
returns-clause-pruned g c = λ d low high some rows kids. some (c.loop-up.invariant.gone d low (omega (arith, c.loop-up-test.false, c.loop-up.invariant.first, low)) high)
