use Rattle.std.proofs.Common.{◌≡◌, ◌∙◌, Bool, List, length, sym, ap, subst}
use Rattle.no_packet_loops.proofs.Common.{Prefix, World}
use Rattle.reachability.specs.Ways.{IsCutOff}
use Rattle.simulation.specs.Simulation.{Simulation}
use Rattle.timed_simulation.specs.{Timed.Timed, Timed.after_event, Timed.world_of, Events.next_event, Runs.IsNext, Runs.IsStoppedAt}
use Rattle.timed_reports.specs.{Looks.HasMarks, Looks.HasRoomForMarks, Looks.IsStill, Records.AreLooked}
use Rattle.timed_reports.specs.Reports.{IsReport, RecordsEvent, Reported, reported_of}
use Rattle.timed_reports.proofs.Whole.{as_many_after, in_order_after, joined_after, kept_after, records_event, same_prefixes_after, same_report, taker_within}
use Rattle.timed_reports.proofs.report.Report.do_event.Goals as goal

pub do_next-requires : goal.do_next-requires
do_next-requires g c = ap (λ (r : Reported). next_event r.timed) c.self.view_is ∙ c.requires

-- not done
pub invariant_of-self : goal.invariant_of-self
invariant_of-self g c =
    let old : Reported = reported_of c.self.inside.timed c.self.inside.computations.items c.self.inside.computing.items c.self.inside.outages.items c.self.inside.cut_off.items in (
      subst IsReport (sym (same_report old c.do_next.new.timed c.do_next.new.computations.items c.do_next.new.outages.items c.in-Err.ensures.err c.do_next.ensures.computations c.do_next.ensures.outages)) c.self.invariant.0,
      subst (λ (t : Timed). HasRoomForMarks (world_of t) c.self.inside.cut) (sym c.in-Err.ensures.err) c.self.invariant.1,
      subst (λ (t : Timed). HasMarks (world_of t) c.look_ahead-told.new.marks.items) (sym c.in-Err.ensures.err) (c.look_ahead-told.ensures.many ∙ c.self.invariant.2),
    )

pub returns-in-Err-clause-err : goal.returns-in-Err-clause-err
returns-in-Err-clause-err g c =
    let old : Reported = reported_of c.self.inside.timed c.self.inside.computations.items c.self.inside.computing.items c.self.inside.outages.items c.self.inside.cut_off.items in
    same_report old c.do_next.new.timed c.do_next.new.computations.items c.do_next.new.outages.items c.in-Err.ensures.err c.do_next.ensures.computations c.do_next.ensures.outages ∙ c.self.view_is

pub returns-in-Err-clause-cause : goal.returns-in-Err-clause-cause
returns-in-Err-clause-cause g c = subst (λ (r : Reported). IsStoppedAt r.timed c.in-Err.fault) c.self.view_is c.in-Err.ensures.cause

-- done
pub look_for_computations-requires-clause-order : goal.look_for_computations-requires-clause-order
look_for_computations-requires-clause-order g c =
    let old : Reported = reported_of c.self.inside.timed c.self.inside.computations.items c.self.inside.computing.items c.self.inside.outages.items c.self.inside.cut_off.items in
    (in_order_after old c.args.event c.do_next.new.timed c.world.result.now c.self.invariant.0 c.in_default.ensures.ok.0 c.in_default.ensures.ok.1 (c.world.ensures ∙ ap (λ (s : Simulation). s.world) c.simulation.ensures)).0

pub look_for_computations-requires-clause-known : goal.look_for_computations-requires-clause-known
look_for_computations-requires-clause-known g c =
    let old : Reported = reported_of c.self.inside.timed c.self.inside.computations.items c.self.inside.computing.items c.self.inside.outages.items c.self.inside.cut_off.items in
    taker_within old c.args.event c.do_next.new.timed c.world.result.now c.in_default.ensures.ok.0 c.in_default.ensures.ok.1 (c.world.ensures ∙ ap (λ (s : Simulation). s.world) c.simulation.ensures)

pub look_for_outages-requires-clause-order : goal.look_for_outages-requires-clause-order
look_for_outages-requires-clause-order g c =
    let old : Reported = reported_of c.self.inside.timed c.self.inside.computations.items c.self.inside.computing.items c.self.inside.outages.items c.self.inside.cut_off.items in
    (in_order_after old c.args.event c.do_next.new.timed c.world-2.result.now c.self.invariant.0 c.in_default.ensures.ok.0 c.in_default.ensures.ok.1 (c.world-2.ensures ∙ ap (λ (s : Simulation). s.world) c.simulation-2.ensures)).1

pub look_for_outages-requires-clause-size : goal.look_for_outages-requires-clause-size
look_for_outages-requires-clause-size g c =
    c.self.invariant.1 ∙ sym (as_many_after c.self.inside.timed c.do_next.new.timed c.args.event c.in_default.ensures.ok.1) ∙ ap (λ (w : World). length w.routers) (sym (c.world-2.ensures ∙ ap (λ (s : Simulation). s.world) c.simulation-2.ensures))

pub look_for_outages-requires-clause-joined : goal.look_for_outages-requires-clause-joined
look_for_outages-requires-clause-joined g c =
    let old : Reported = reported_of c.self.inside.timed c.self.inside.computations.items c.self.inside.computing.items c.self.inside.outages.items c.self.inside.cut_off.items in
    joined_after old c.args.event c.do_next.new.timed c.world-2.result.now c.self.invariant.0 c.in_default.ensures.ok.0 c.in_default.ensures.ok.1 (c.world-2.ensures ∙ ap (λ (s : Simulation). s.world) c.simulation-2.ensures)

pub invariant_of-self-2 : goal.invariant_of-self-2
invariant_of-self-2 g c =
    let old : Reported = reported_of c.self.inside.timed c.self.inside.computations.items c.self.inside.computing.items c.self.inside.outages.items c.self.inside.cut_off.items in
    let new : Reported = reported_of c.do_next.new.timed c.look_for_computations.new.ended.items c.look_for_computations.new.all.items c.look_for_outages.new.ended.items c.look_for_outages.new.all.items in
    let records : RecordsEvent old c.args.event new = records_event old c.args.event c.do_next.new.timed c.look_ahead-told.result c.look_ahead-told.new.marks.items c.world.result.now c.world-2.result.now c.do_next.new.computations.items c.do_next.new.outages.items c.look_for_computations.new.ended.items c.look_for_computations.new.all.items c.look_for_outages.new.ended.items c.look_for_outages.new.all.items
    c.in_default.ensures.ok.0 c.in_default.ensures.ok.1 c.look_ahead-told.ensures.told c.look_ahead-told.ensures.marked (c.world.ensures ∙ ap (λ (s : Simulation). s.world) c.simulation.ensures) (c.world-2.ensures ∙ ap (λ (s : Simulation). s.world) c.simulation-2.ensures) c.do_next.ensures.computations c.do_next.ensures.outages c.look_for_computations.ensures
    (subst (λ (ms : List Bool). AreLooked IsCutOff c.world-2.result.now c.args.event.moment (IsStill c.world-2.result.now c.args.event.step ms) (length c.self.inside.cut_off.items) c.self.inside.cut_off.items c.look_for_outages.new.all.items c.do_next.new.outages.items c.look_for_outages.new.ended.items) c.deref.ensures.value c.look_for_outages.ensures.looked) in (
      kept_after old new c.args.event c.self.invariant.0 records,
      c.look_for_outages.ensures.size ∙ c.self.invariant.1 ∙ sym (as_many_after c.self.inside.timed c.do_next.new.timed c.args.event c.in_default.ensures.ok.1),
      c.look_ahead-told.ensures.many ∙ c.self.invariant.2 ∙ ap (λ (ps : List Prefix). length ps) (sym (same_prefixes_after c.self.inside.timed c.do_next.new.timed c.args.event c.in_default.ensures.ok.1)),
    )

pub returns-clause-ok : goal.returns-clause-ok
returns-clause-ok g c =
    let old : Reported = reported_of c.self.inside.timed c.self.inside.computations.items c.self.inside.computing.items c.self.inside.outages.items c.self.inside.cut_off.items in
    let new : Reported = reported_of c.do_next.new.timed c.look_for_computations.new.ended.items c.look_for_computations.new.all.items c.look_for_outages.new.ended.items c.look_for_outages.new.all.items in
    let records : RecordsEvent old c.args.event new = records_event old c.args.event c.do_next.new.timed c.look_ahead-told.result c.look_ahead-told.new.marks.items c.world.result.now c.world-2.result.now c.do_next.new.computations.items c.do_next.new.outages.items c.look_for_computations.new.ended.items c.look_for_computations.new.all.items c.look_for_outages.new.ended.items c.look_for_outages.new.all.items
    c.in_default.ensures.ok.0 c.in_default.ensures.ok.1 c.look_ahead-told.ensures.told c.look_ahead-told.ensures.marked (c.world.ensures ∙ ap (λ (s : Simulation). s.world) c.simulation.ensures) (c.world-2.ensures ∙ ap (λ (s : Simulation). s.world) c.simulation-2.ensures) c.do_next.ensures.computations c.do_next.ensures.outages c.look_for_computations.ensures
    (subst (λ (ms : List Bool). AreLooked IsCutOff c.world-2.result.now c.args.event.moment (IsStill c.world-2.result.now c.args.event.step ms) (length c.self.inside.cut_off.items) c.self.inside.cut_off.items c.look_for_outages.new.all.items c.do_next.new.outages.items c.look_for_outages.new.ended.items) c.deref.ensures.value c.look_for_outages.ensures.looked) in
    subst (λ (r : Reported). IsNext r.timed c.args.event × (c.do_next.new.timed ≡ after_event r.timed c.args.event) × RecordsEvent r c.args.event new) c.self.view_is (c.in_default.ensures.ok.0, c.in_default.ensures.ok.1, records)
