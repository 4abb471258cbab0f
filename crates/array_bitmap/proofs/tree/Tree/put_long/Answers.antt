use Rattle.std.proofs.Common.{◌≡◌, ◌+◌, ◌-◌, ◌/◌, ◌%◌, ◌∙◌, Some, arith, ap, sym}
use Rattle.std.proofs.lemmas.Result.{on_ok_weaker}
use Rattle.array_bitmap.specs.{Bits.depth_of, Tree.block_at, Tree.word_at, Image.cells_of}
use Rattle.bitmaps.proofs.Options.{refused}
use Rattle.array_bitmap.proofs.{Refusals.no_word_below, SetsWords.sets_from}
use Rattle.array_bitmap.proofs.tree.Tree.put_long.Goals as goal

pub returns-in_err-stand-clause-full : goal.returns-in_err-stand-clause-full
returns-in_err-stand-clause-full g c =
    let t = cells_of c.args.self.now in
    let start : c.args.self.now.first - c.args.self.now.first ≡ 0 = omega arith in
    refused c.from_residual.result
    (no_word_below t c.requires.sound.cells c.args.path c.args.len c.args.self.now.first (omega arith) c.requires.long (ap (block_at t c.args.path) start ∙ c.in_err-stand.ensures.full))

pub returns-in_err-stand-2-clause-full : goal.returns-in_err-stand-2-clause-full
returns-in_err-stand-2-clause-full g c =
    refused c.from_residual-in_err-stand-2.result
    (sym (c.loop-d.invariant.same c.args.path c.args.len)
    ∙ no_word_below (cells_of c.loop-d.self) c.loop-d.invariant.sound.cells c.args.path c.args.len (c.loop-d.d + 1) (omega (arith, c.loop-d.invariant.first)) (omega (arith, c.loop-d-test.true)) c.in_err-stand-2.ensures.full)

pub returns-clause-ok : goal.returns-clause-ok
returns-clause-ok g c =
    let whole : depth_of ((c.args.len - 5) / 5) + ((c.args.len - 5) % 5 + 1) ≡ c.args.len = omega (arith, c.requires.long) in
    on_ok_weaker c.put_row.result
    (sets_from (word_at (cells_of c.args.self.now)) (word_at (cells_of c.loop-d.self)) (word_at (cells_of c.put_row.new.self)) c.args.path c.args.len (depth_of ((c.args.len - 5) / 5) + ((c.args.len - 5) % 5 + 1)) (Some c.args.word) c.loop-d.invariant.same whole)
    c.put_row.ensures.ok
