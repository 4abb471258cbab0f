use Rattle.std.proofs.Common.{◌∙◌, sym, subst}
use Rattle.std.proofs.lemmas.Bool.{not-true}
use Rattle.network_model.specs.declared.step.Step.{Step}
use Rattle.timed_reports.specs.Records.{MovesNoWay}
use Rattle.timed_reports.proofs.looks.moves_no_way.Goals as goal

pub returns-in-Publish : goal.returns-in-Publish
returns-in-Publish g c = λ kept. subst (λ (s : Step). MovesNoWay c.args.world.now s c.args.prefix) (sym c.in-Publish.is) (c.keeps_row.ensures kept)

pub returns-in-Attach : goal.returns-in-Attach
returns-in-Attach g c = λ other. subst (λ (s : Step). MovesNoWay c.args.world.now s c.args.prefix) (sym c.in-Attach.is) (sym c.is_same-attached.ensures ∙ not-true c.is_same-attached.result other)

pub returns-in-Detach : goal.returns-in-Detach
returns-in-Detach g c = λ other. subst (λ (s : Step). MovesNoWay c.args.world.now s c.args.prefix) (sym c.in-Detach.is) (sym c.is_same-detached.ensures ∙ not-true c.is_same-detached.result other)
