use Rattle.std.proofs.Common.{◌≡◌, ◌∙◌, List, Some, arith, refl, sym, ap, length, slice_get}
use Rattle.no_packet_loops.proofs.Common.{Prefix, World, slice_get_read, slice_get_within}
use Rattle.timed_reports.proofs.Marking.{marked_more}
use Rattle.timed_reports.proofs.looks.mark_moved.Goals as goal

pub loop-number-preserved : goal.loop-number-preserved
loop-number-preserved g c =
    let w : World = c.args.world.now in
    let ps = c.prefixes-prefixes.result.now in
    let n = c.loop-number.number in
    let test = c.loop-number-test.true in
    let all : length c.args.marks.now.items ≡ length c.args.world.now.prefixes = c.requires in
    let many = c.loop-number.invariant.many in
    let prefixes = ap (λ (qs : List Prefix). length qs) c.prefixes-prefixes.ensures in
    let at : slice_get w.prefixes n ≡ Some c.index-prefixes-number.result = ap (λ (qs : List Prefix). slice_get qs n) (sym c.prefixes-prefixes.ensures) ∙ slice_get_read ps (length ps) n c.index-prefixes-number.result refl test c.index-prefixes-number.is in
    let M = marked_more w c.args.step.now n c.index-prefixes-number.result at c.moves_no_way-still.result c.moves_no_way-still.ensures c.loop-number.marks.items (omega (arith, test, all, many, prefixes)) c.loop-number.invariant.marked c.set_mark.new.marks.items c.set_mark.ensures in
    record { marked = M.0; many = M.1 ∙ many }

pub returns-clause-marked : goal.returns-clause-marked
returns-clause-marked g c = λ moves k p at unmarked.
    let over = c.loop-number-test.false in
    let prefixes = ap (λ (qs : List Prefix). length qs) c.prefixes-prefixes.ensures in
    let below = slice_get_within c.args.world.now.prefixes k p at in
    c.loop-number.invariant.marked k p (omega (arith, over, prefixes, below)) at unmarked
