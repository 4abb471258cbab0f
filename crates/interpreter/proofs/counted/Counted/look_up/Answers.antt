use Rattle.std.proofs.Common.{◌∙◌, ap, sym}
use Rattle.interpreter.specs.Nets.{Counted}
use Rattle.interpreter.proofs.Answering.{answered_there, unanswered}
use Rattle.interpreter.proofs.counted.Counted.look_up.Goals as goal

pub returns-in-Some-clause-answer : goal.returns-in-Some-clause-answer
returns-in-Some-clause-answer c =
    rw (← ap (λ (x : Counted). x.simulation) c.self.view_is) (answered_there c.self.inside.simulation c.holds.ensures.forwards c.args.router c.args.addr c.in-Some.answer (sym c.lookup.ensures ∙ c.in-Some.is))

pub returns-in-None-clause-err : goal.returns-in-None-clause-err
returns-in-None-clause-err c =
    rw (← ap (λ (x : Counted). x.simulation) c.self.view_is) (unanswered c.self.inside.simulation c.holds.ensures.forwards c.args.router c.args.addr (sym c.lookup.ensures ∙ c.in-None.is))
