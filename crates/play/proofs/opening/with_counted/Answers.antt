use Rattle.std.proofs.Common.{is_some}
use Rattle.interpreter.specs.Nets.{counted_meaning, opening_counted}
use Rattle.play.specs.Works.{Comes, Stops}
use Rattle.play.proofs.Working.{stops_there, works_there}
use Rattle.play.proofs.opening.with_counted.Goals as goal

pub returns-clause-ok : goal.returns-clause-ok
returns-clause-ok g c =
    works_there opening_counted (Comes counted_meaning (is_some c.args.typed)) c.args.network c.args.directory.now c.in_ok-net.net c.do_all.new.net c.args.commands.now c.do_all.result c.in_ok-net.ensures c.do_all.ensures.ok

pub returns-clause-fault : goal.returns-clause-fault
returns-clause-fault g c =
    stops_there opening_counted (Stops counted_meaning (is_some c.args.typed)) c.args.network c.in_ok-net.net c.do_all.new.net c.args.commands.now c.do_all.result c.in_ok-net.ensures c.do_all.ensures.fault
