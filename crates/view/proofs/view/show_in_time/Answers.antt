use Rattle.std.proofs.Common.{subst, sym}
use Rattle.std.proofs.lemmas.Result.{on_ok_weaker}
use Rattle.network_model.specs.{World.opening, Run.Runs}
use Rattle.timed_simulation.specs.Timed.{world_of}
use Rattle.timed_reports.specs.Recordings.{timed_in}
use Rattle.timing.specs.Times.{IsTimes}
use Rattle.timing.proofs.Stepping.{network_stays, steps_run}
use Rattle.view.specs.Shown.{IsWritten}
use Rattle.view.proofs.view.show_in_time.Goals as goal

pub write_run-requires : goal.write_run-requires
write_run-requires g c =
    let n = c.args.plan.network in
    let times = c.in_ok-times.times in
    let run = c.in_ok-run.run' in
    let end = timed_in run.recording in (
      world_of end,
      subst (λ m. Runs (opening m) run.steps.items (world_of end)) (sym (network_stays n times run.steps.items run.moments.items end c.in_ok-run.ensures))
          (steps_run n times run.steps.items run.moments.items end c.in_ok-run.ensures),
    )

pub returns : goal.returns
returns g c =
    let n = c.args.plan.network in
    let d = c.args.plan.directory in
    let times = c.in_ok-times.times in
    let run = c.in_ok-run.run' in
    let end = timed_in run.recording in
    let old = g.W.Write.contents c.args.out.now in
    let new = g.W.Write.contents c.write_run.new.out in
    on_ok_weaker c.write_run.result
    (λ written. record {
      times = times;
      says = subst (λ ns. IsTimes ns n c.args.lines.now times) c.names.ensures c.in_ok-times.ensures.times;
      steps = run.steps.items;
      moments = run.moments.items;
      end = end;
      runs = c.in_ok-run.ensures;
      written = subst (λ m. IsWritten c.args.json m d run.steps.items run.moments.items old new)
          (network_stays n times run.steps.items run.moments.items end c.in_ok-run.ensures) written;
    })
    c.write_run.ensures
