use Rattle.interpreter.proofs.Settling.{stops_drawn, stops_here}
use Rattle.interpreter.proofs.kept.Staffed.settle.Goals as goal

pub returns-in-Some-clause-err : goal.returns-in-Some-clause-err
returns-in-Some-clause-err g c =
    rw (← c.self.view_is) (stops_drawn c.settle_in_order.result c.self.inside.fabric c.settle_in_order.new.fabric c.settle_in_order.ensures.turns c.settle_in_order.ensures.err)

pub returns-in-None-clause-err : goal.returns-in-None-clause-err
returns-in-None-clause-err g c =
    rw (← c.self.view_is) (stops_here c.settle.result c.self.inside.fabric c.settle.new.fabric c.settle.ensures.turns c.settle.ensures.err)
