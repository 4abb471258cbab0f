use Rattle.std.proofs.Common.{◌≡◌, ◌∙◌, ◌≤◌, List, [], length, ℕ, ap, sym, subst}
use Rattle.no_packet_loops.proofs.Common.{Prefix, World}
use Rattle.simulation.specs.Simulation.{Simulation}
use Rattle.timed_simulation.specs.Timed.{world_of}
use Rattle.timed_reports.proofs.Whole.{few_at, report_opens}
use Rattle.timed_reports.proofs.report.Report.open.Goals as goal

pub watch_all-requires : goal.watch_all-requires
watch_all-requires g c =
    let count : length c.routers-count.result.now ≡ length (world_of c.in_ok-timed.timed).routers = ap length c.routers-count.ensures.routers ∙ ap (λ (w : World). length w.routers) (c.world.ensures ∙ ap (λ (s : Simulation). s.world) c.simulation.ensures) in
    record { few = subst (λ (k : ℕ). k ≤ 65536) (sym count) (few_at c.in_ok-timed.timed c.holds.ensures.timed) }

pub watch_all-requires-2 : goal.watch_all-requires-2
watch_all-requires-2 g c =
    let count : length c.routers-count.result.now ≡ length (world_of c.in_ok-timed.timed).routers = ap length c.routers-count.ensures.routers ∙ ap (λ (w : World). length w.routers) (c.world.ensures ∙ ap (λ (s : Simulation). s.world) c.simulation.ensures) in
    record { few = subst (λ (k : ℕ). k ≤ 65536) (sym count) (few_at c.in_ok-timed.timed c.holds.ensures.timed) }

pub invariant_of-result : goal.invariant_of-result
invariant_of-result g c =
    let count : length c.routers-count.result.now ≡ length (world_of c.in_ok-timed.timed).routers = ap length c.routers-count.ensures.routers ∙ ap (λ (w : World). length w.routers) (c.world.ensures ∙ ap (λ (s : Simulation). s.world) c.simulation.ensures) in
    let prefixes : c.prefixes-prefixes.result.now ≡ (world_of c.in_ok-timed.timed).prefixes = c.prefixes-prefixes.ensures ∙ ap (λ (w : World). w.prefixes) (c.world-2.ensures ∙ ap (λ (s : Simulation). s.world) c.simulation-2.ensures) in (
      record {
        done = [];
        exact = report_opens c.in_ok-timed.timed c.holds.ensures.timed c.args.network c.args.links.now c.args.routers.now c.in_ok-timed.ensures (length c.routers-count.result.now) count c.prefixes-prefixes.result.now prefixes c.in_ok-computing.computing.items c.in_ok-cut_off.cut_off.items
            c.in_ok-computing.ensures.each c.in_ok-computing.ensures.none c.in_ok-cut_off.ensures.each c.in_ok-cut_off.ensures.none c.in_ok-computing.ensures.order c.in_ok-cut_off.ensures.order c.new-2.result.items c.new-3.result.items c.new-2.ensures.items c.new-3.ensures.items;
      },
      c.in_ok-cut.ensures.size ∙ count,
      c.in_ok-marks.ensures ∙ ap (λ (ps : List Prefix). length ps) prefixes,
    )

pub returns-clause-fresh : goal.returns-clause-fresh
returns-clause-fresh g c =
    let count : length c.routers-count.result.now ≡ length (world_of c.in_ok-timed.timed).routers = ap length c.routers-count.ensures.routers ∙ ap (λ (w : World). length w.routers) (c.world.ensures ∙ ap (λ (s : Simulation). s.world) c.simulation.ensures) in
    let prefixes : c.prefixes-prefixes.result.now ≡ (world_of c.in_ok-timed.timed).prefixes = c.prefixes-prefixes.ensures ∙ ap (λ (w : World). w.prefixes) (c.world-2.ensures ∙ ap (λ (s : Simulation). s.world) c.simulation-2.ensures) in
    report_opens c.in_ok-timed.timed c.holds.ensures.timed c.args.network c.args.links.now c.args.routers.now c.in_ok-timed.ensures (length c.routers-count.result.now) count c.prefixes-prefixes.result.now prefixes c.in_ok-computing.computing.items c.in_ok-cut_off.cut_off.items
    c.in_ok-computing.ensures.each c.in_ok-computing.ensures.none c.in_ok-cut_off.ensures.each c.in_ok-cut_off.ensures.none c.in_ok-computing.ensures.order c.in_ok-cut_off.ensures.order c.new-2.result.items c.new-3.result.items c.new-2.ensures.items c.new-3.ensures.items
