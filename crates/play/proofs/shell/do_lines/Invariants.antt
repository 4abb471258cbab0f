use Rattle.play.specs.Works.{WereTried}
use Rattle.play.proofs.shell.do_lines.Given as goal

abbrev pub invariant-loop-line : goal.invariant-loop-line
invariant-loop-line g l = WereTried g.N.Live.meaning l.initial.net l.net
