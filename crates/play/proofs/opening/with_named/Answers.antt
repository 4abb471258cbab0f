use Rattle.std.proofs.Common.{◌∙◌, is_some}
use Rattle.interpreter.specs.Nets.{kept_meaning}
use Rattle.play.specs.Works.{Comes, Stops}
use Rattle.play.proofs.Working.{stops_kept, works_kept}
use Rattle.play.proofs.opening.with_named.Goals as goal

pub returns-in-Ok-clause-ok : goal.returns-in-Ok-clause-ok
returns-in-Ok-clause-ok g c =
    works_kept (Comes kept_meaning (is_some c.args.typed)) (λ d f. g.K.Keeper.keeps c.args.keeper.now d f (g.V.Write.contents c.args.kept.now) (g.V.Write.contents c.keep-ended.new.kept) c.keep-ended.new.keeper) c.args.network c.args.directory.now
    c.in-Ok.net c.do_all-done.new.net c.close-fabric.result.0 c.do_all-done.result c.keep-ended.result c.args.commands.now (c.in-Ok.ensures ∙ c.in_ok-fabric.ensures.ok) c.close-fabric.ensures.fabric c.do_all-done.ensures.ok c.keep-ended.ensures.ok

pub returns-in-Ok-clause-fault : goal.returns-in-Ok-clause-fault
returns-in-Ok-clause-fault g c =
    stops_kept (Stops kept_meaning (is_some c.args.typed)) c.args.network c.in-Ok.net c.do_all-done.new.net c.do_all-done.result c.keep-ended.result c.args.commands.now (c.in-Ok.ensures ∙ c.in_ok-fabric.ensures.ok)
    c.do_all-done.ensures.fault c.keep-ended.ensures.fault
