use Rattle.std.proofs.Common.{IfErr, OnOk, is_some, subst}
use Rattle.fabric.specs.Fabric.{opening_fabric}
use Rattle.interpreter.specs.Nets.{kept_meaning}
use Rattle.play.specs.Works.{Comes, IsOfWorkers, Stops, StopsWorkOn, WorksOn}
use Rattle.play.proofs.opening.with_fabric.Goals as goal

pub returns-clause-ok : goal.returns-clause-ok
returns-clause-ok g c =
    subst (λ cs. OnOk c.with_named.result (WorksOn opening_fabric (Comes kept_meaning (is_some c.args.typed))
    (λ d f. g.K.Keeper.keeps c.args.keeper.now d f (g.V.Write.contents c.args.kept.now) (g.V.Write.contents c.with_named.new.kept) c.with_named.new.keeper) c.args.plan.network c.args.plan.directory cs)) c.deref.ensures.value c.with_named.ensures.ok

pub returns-clause-fault : goal.returns-clause-fault
returns-clause-fault g c =
    subst (λ cs. IfErr c.with_named.result (StopsWorkOn opening_fabric IsOfWorkers (Stops kept_meaning (is_some c.args.typed)) c.args.plan.network cs)) c.deref.ensures.value c.with_named.ensures.fault
