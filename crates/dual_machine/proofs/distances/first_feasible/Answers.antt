use Rattle.std.proofs.Common.{length, arith, sym, ◌∙◌}
use Rattle.network_model.specs.Machine.{home_ways}
use Rattle.dual_machine.proofs.Ways.{position_from-first, position_from-second, position_from-home, position_from-no_home}
use Rattle.dual_machine.proofs.distances.first_feasible.Goals as goal

pub returns-in-Some-clause-value : goal.returns-in-Some-clause-value
returns-in-Some-clause-value c =
    sym (position_from-first _ 0 c.in-Some.port c.args.ports.now (home_ways c.args.attachment.now) (sym c.first_feasible_port.ensures.value ∙ c.in-Some.is))

pub returns-in-None-clause-value : goal.returns-in-None-clause-value
returns-in-None-clause-value c =
    sym (position_from-second _ 0 (length c.args.ports.now) c.args.ports.now (home_ways c.args.attachment.now) (sym c.first_feasible_port.ensures.value ∙ c.in-None.is) (omega arith)
    ∙ position_from-home _ c.args.attachment.now _ (sym c.is_home_feasible.ensures ∙ c.if-is_home_feasible.true))

pub returns-in-None-2-clause-value : goal.returns-in-None-2-clause-value
returns-in-None-2-clause-value c =
    sym (position_from-second _ 0 (length c.args.ports.now) c.args.ports.now (home_ways c.args.attachment.now) (sym c.first_feasible_port.ensures.value ∙ c.in-None.is) (omega arith)
    ∙ position_from-no_home _ c.args.attachment.now _ (sym c.is_home_feasible.ensures ∙ c.if-is_home_feasible.false))
