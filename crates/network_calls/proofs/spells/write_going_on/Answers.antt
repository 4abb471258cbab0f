use Rattle.std.proofs.Common.{◌≡◌, refl, Some, arith, length, slice_get, slice_set, ◌+◌}
use Rattle.std.proofs.lemmas.Option.{slice_get_read}
use Rattle.network_calls.proofs.Going as going
use Rattle.network_calls.proofs.spells.write_going_on.Goals as goal
use Rattle.network_calls.proofs.spells.write_going_on.Goals.{in-Some+else-written-spells, in_default}

pub loop-place-init : goal.loop-place-init
loop-place-init c = going.none c.args.all.now c.args.spells.now

pub returns-then-written-spells : goal.returns-then-written-spells
returns-then-written-spells c =
    let at : slice_get c.args.all.now c.loop-place.place ≡ Some c.index-all-place.result = slice_get_read c.args.all.now (length c.args.all.now) c.loop-place.place c.index-all-place.result refl c.loop-place-test.true c.index-all-place.is in
    let room = c.loop-place.invariant.room in
    going.full c.args.all.now c.args.spells.now c.loop-place.spells c.loop-place.place c.loop-place.written c.index-all-place.result at c.in-Some.ensures.some.0 (omega (arith, room, c.if-written-spells.true)) c.loop-place.invariant

pub loop-place-preserved : goal.loop-place-preserved
loop-place-preserved c =
    let at : slice_get c.args.all.now c.loop-place.place ≡ Some c.index-all-place.result = slice_get_read c.args.all.now (length c.args.all.now) c.loop-place.place c.index-all-place.result refl c.loop-place-test.true c.index-all-place.is in
    elim c.match-going.branch [
      | in-Some+else-written-spells w ↦ going.kept_by c.args.all.now c.args.spells.now (slice_set c.loop-place.spells c.loop-place.written w.in-Some.spell) c.match-going.spells (c.loop-place.place + 1) (c.loop-place.written + 1) c.match-going.written w.spells-is w.written-is
          (going.written_more c.args.all.now c.args.spells.now c.loop-place.spells c.loop-place.place c.loop-place.written c.index-all-place.result w.in-Some.spell at w.in-Some.ensures.some.0 w.in-Some.ensures.some.1 (omega (arith, w.if-written-spells.false)) c.loop-place.invariant)
      | in_default w ↦ going.kept_by c.args.all.now c.args.spells.now c.loop-place.spells c.match-going.spells (c.loop-place.place + 1) c.loop-place.written c.match-going.written w.spells-is w.written-is
          (going.passed c.args.all.now c.args.spells.now c.loop-place.spells c.loop-place.place c.loop-place.written c.index-all-place.result at (w.in_default.ensures.none refl) c.loop-place.invariant)
    ]

pub returns : goal.returns
returns c = going.ended c.args.all.now c.args.spells.now c.loop-place.spells c.loop-place.place c.loop-place.written (omega arith) c.loop-place.invariant
