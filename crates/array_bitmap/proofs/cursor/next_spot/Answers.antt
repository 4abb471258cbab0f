use Rattle.std.proofs.Common.{◌<◌, arith, refl}
use Rattle.array_bitmap.specs.Bits.{width}
use Rattle.array_bitmap.proofs.NextSpots.{one_length_more}
use Rattle.array_bitmap.proofs.cursor.next_spot.Goals as goal
use Rattle.array_bitmap.proofs.cursor.next_spot.Goals.{then-level-eq-LAST_LEVEL, else-level-eq-LAST_LEVEL}

pub loop-length-preserved : goal.loop-length-preserved
loop-length-preserved c =
    let short : c.loop-length.length < width c.args.level = elim c.if-level-eq-LAST_LEVEL.branch [ then-level-eq-LAST_LEVEL w ↦ omega arith | else-level-eq-LAST_LEVEL w ↦ omega arith ] in
    one_length_more c.args.head.rows c.args.level c.args.five c.args.more c.loop-length.length c.value_after-from.result c.loop-length.next (record { five = c.next_row.result; more = c.loop-length.length })
    c.sooner-next.result c.requires.deep short c.loop-length.invariant refl c.next_row.ensures.bound c.next_row.ensures.start c.next_row.ensures.from c.next_row.ensures.none c.value_after-from.ensures.after
    c.sooner-next.ensures.other c.sooner-next.ensures.one
