use Rattle.std.proofs.Common.{◌∙◌, sym, arith}
use Rattle.course.specs.Turns.{open_step}
use Rattle.course.proofs.Turning.{one_more_idle}
use Rattle.course.proofs.due.first_of_all.Goals as goal

pub loop-place-preserved : goal.loop-place-preserved
loop-place-preserved g c = one_more_idle (open_step (g.S.Shut.shuts c.args.shut.now) c.args.world.now) c.loop-place.place c.loop-place.invariant (sym c.open_step.ensures ∙ c.in-None.is)

pub returns-clause-none : goal.returns-clause-none
returns-clause-none g c = λ none i within. c.loop-place.invariant i (let over = c.loop-place-test.false in omega (arith, within, over))
