use Rattle.std.proofs.Common.{◌≡◌, ◌∙◌, ◌⊎◌, true, ap, sym}
use Rattle.network_model.specs.Turns.{is_settled}
use Rattle.simulation.specs.Settling.{IsStopped}
use Rattle.interpreter.specs.Nets.{Counted}
use Rattle.interpreter.proofs.Settling.{all_done, stop_none, stopped_there}
use Rattle.interpreter.proofs.counted.Counted.take_turns.Goals as goal

-- it is not settled after as many steps as can be counted
pub returns-then-not-is_settled-clause-err : goal.returns-then-not-is_settled-clause-err
returns-then-not-is_settled-clause-err c =
    let ran = c.settle-ran.result in
    let after = c.settle-ran.new.self in
    let unsettled = sym c.is_settled.ensures.settled ∙ c.if-not-is_settled.true in
    rw (← ap (λ (x : Counted). x.simulation) c.self.view_is) (stopped_there c.self.inside.simulation after ran.done c.settle-ran.ensures.turns
    (all_done (ran.done ≡ 18446744073709551615) after unsettled (stop_none ((is_settled after.world ≡ true) ⊎ (ran.done ≡ 18446744073709551615)) (IsStopped after) ran.refusal c.in_default.is c.settle-ran.ensures.stop)) unsettled)
