use Rattle.play.proofs.Stepping.{has_place}
use Rattle.play.proofs.replay.do_next.Goals as goal

pub returns-clause-cause : goal.returns-clause-cause
returns-clause-cause c = has_place c.args.live.now.simulation c.args.done c.args.step c.step.result c.requires c.if-done-ge-MOST_STEPS.false c.step.ensures.cause
