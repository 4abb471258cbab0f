use Rattle.std.proofs.Common.{◌≡◌, ◌+◌, ◌++◌, [], ◌∷◌, take, sym, ap, ◌∙◌, arith, add-one}
use Rattle.no_packet_loops.proofs.Common.{take-suc, Step}
use Rattle.world.proofs.Runs.{with_last_step}
use Rattle.interpreter.specs.Nets.{Counted}
use Rattle.play.proofs.replay.do_steps.Goals as goal

pub loop-done-preserved : goal.loop-done-preserved
loop-done-preserved g c =
    let s : Step = c.index-steps-done.result in
    let first = take c.loop-done.done c.args.steps.now in
    let more : take (c.loop-done.done + 1) c.args.steps.now ≡ first ++ s ∷ []
    = ap (λ n. take n c.args.steps.now) (add-one c.loop-done.done) ∙ take-suc c.args.steps.now c.loop-done.done s (omega arith)
    ∙ ap (λ x. first ++ x ∷ []) (sym c.index-steps-done.is) in
    let ok = c.in_default.ensures.ok in
    record {
      runs = rw (ap (λ (x : Counted). x.simulation.world) ok.1, more) (with_last_step c.args.live.now.simulation.world first c.loop-done.live.simulation.world s c.loop-done.invariant.runs ok.0);
      counted = ap (λ (x : Counted). x.simulation.steps) ok.1 ∙ ap (λ n. n + 1) c.loop-done.invariant.counted;
      few = omega (arith, c.in_default.ensures.place);
    }
