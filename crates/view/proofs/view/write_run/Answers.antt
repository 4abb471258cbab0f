use Rattle.std.proofs.Common.{subst, sym, ◌∙◌}
use Rattle.network_model.specs.{World.opening, Run.Runs}
use Rattle.timed_reports.specs.Recordings.{timed_in}
use Rattle.view.specs.Shown.{IsWritten}
use Rattle.view.proofs.view.write_run.Goals as goal

pub write_steps-requires : goal.write_steps-requires
write_steps-requires g c =
    let run = c.args.run.now in
    let w = c.requires.0 in
    let network = ((timed_in run.recording).simulation).network in (
      w,
      subst (λ m. Runs (opening m) c.deref.result.now w) (sym c.network-network.ensures) (subst (λ ss. Runs (opening network) ss w) (sym c.deref.ensures.value) c.requires.1),
    )

pub returns : goal.returns
returns g c =
    let run = c.args.run.now in
    let d = c.args.directory.now in
    let old = g.W.Write.contents c.args.out.now in
    let new = g.W.Write.contents c.write_steps.new.out in
    subst (λ m. IsWritten c.args.json m d run.steps.items run.moments.items old new) c.network-network.ensures
    (subst (λ ss. IsWritten c.args.json c.network-network.result.now d ss run.moments.items old new) c.deref.ensures.value
    (subst (λ ms. IsWritten c.args.json c.network-network.result.now d c.deref.result.now ms old new) c.deref-2.ensures.value c.in_ok-write_steps.ensures))
