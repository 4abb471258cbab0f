use Rattle.std.proofs.Common.{◌≡◌, ◌∙◌, IfSome, ap, sym, subst}
use Rattle.no_packet_loops.proofs.Common.{Prefix, World}
use Rattle.simulation.specs.Simulation.{Simulation}
use Rattle.timed_simulation.specs.Timed.{world_of}
use Rattle.timed_reports.specs.Looks.{HasMarks, IsToldPrefix, MarksMoved}
use Rattle.timed_reports.proofs.report.look_ahead.Goals as goal

pub mark_moved-requires : goal.mark_moved-requires
mark_moved-requires g c =
    let world : c.world-world.result.now ≡ world_of c.args.timed.now = c.world-world.ensures ∙ ap (λ (s : Simulation). s.world) c.simulation.ensures in
    subst (λ (w : World). HasMarks w c.args.marks.now.items) (sym world) c.requires

pub returns-clause-told : goal.returns-clause-told
returns-clause-told g c =
    let world : c.world-world.result.now ≡ world_of c.args.timed.now = c.world-world.ensures ∙ ap (λ (s : Simulation). s.world) c.simulation.ensures in
    subst (λ (w : World). IfSome c.told_prefix.result (λ (p : Prefix). IsToldPrefix w c.args.step.now p)) world c.told_prefix.ensures

pub returns-clause-marked : goal.returns-clause-marked
returns-clause-marked g c = λ moves.
    let world : c.world-world.result.now ≡ world_of c.args.timed.now = c.world-world.ensures ∙ ap (λ (s : Simulation). s.world) c.simulation.ensures in
    subst (λ (w : World). MarksMoved w c.args.step.now c.mark_moved.new.marks.items) world (c.mark_moved.ensures.marked moves)
