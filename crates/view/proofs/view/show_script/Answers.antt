use Rattle.std.proofs.Common.{false}
use Rattle.fabric.specs.Fabric.{Fabric, opening_fabric}
use Rattle.script.specs.Directories.{Directory}
use Rattle.interpreter.specs.Nets.{kept_meaning}
use Rattle.play.specs.Works.{Comes}
use Rattle.play.proofs.Working.{worked}
use Rattle.view.specs.Shown.{IsRunShown}
use Rattle.view.proofs.view.show_script.Goals as goal

pub returns : goal.returns
returns g c =
    let runs = c.in_ok-run_quietly.ensures.ok in
    let shown : Directory → Fabric → Type 0 = λ d f. IsRunShown c.args.json d f (g.W.Write.contents c.args.out.now) (g.W.Write.contents c.run_quietly.new.kept) in
    worked opening_fabric c.args.text.now c.in_ok-plan.plan c.requires c.in_ok-plan.ensures.ok (Comes kept_meaning false) shown (runs.0, runs.1, runs.2 c.if-states.false)
