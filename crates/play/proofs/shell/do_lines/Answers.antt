use Rattle.play.proofs.Trying.{tried_more}
use Rattle.play.proofs.shell.do_lines.Goals as goal

pub loop-line-preserved : goal.loop-line-preserved
loop-line-preserved g c = tried_more g.N.Live.meaning c.args.net.now c.loop-line.net c.do_line.new.net c.loop-line.invariant c.do_line.ensures

pub returns-then-not-do_line-clause-tried : goal.returns-then-not-do_line-clause-tried
returns-then-not-do_line-clause-tried g c = tried_more g.N.Live.meaning c.args.net.now c.loop-line.net c.do_line.new.net c.loop-line.invariant c.do_line.ensures
