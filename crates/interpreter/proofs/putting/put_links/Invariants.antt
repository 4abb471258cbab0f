use Rattle.interpreter.specs.Commands.{ArePut}
use Rattle.interpreter.proofs.putting.put_links.Given as goal

abbrev pub invariant-loop-place : goal.invariant-loop-place
invariant-loop-place g l = ArePut g.N.Live.meaning l.up l.router l.place l.initial.net l.net
