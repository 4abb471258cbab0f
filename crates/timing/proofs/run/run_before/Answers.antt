use Rattle.std.proofs.Common.{◌≡◌, ◌-◌, Some, slice_get, refl, sym, subst, ◌∙◌}
use Rattle.timed_simulation.specs.Runs.{IsTimed}
use Rattle.timed_reports.specs.Recordings.{timed_in}
use Rattle.timing.specs.Runs.{LeadsAlone}
use Rattle.timing.proofs.Alone.{alone_none, before_alone, before_ready, ready_at_once, some_first}
use Rattle.timing.proofs.Leading.{on_ok_more}
use Rattle.timing.proofs.run.run_before.Goals as goal

pub unreachable-requires : goal.unreachable-requires
unreachable-requires c = some_first (timed_in c.args.recording.now).changes c.requires (sym c.first_change.ensures ∙ c.in_default.is)

-- the first change is one of the first moment
pub returns-then-moment-eq0-clause-alone : goal.returns-then-moment-eq0-clause-alone
returns-then-moment-eq0-clause-alone c = alone_none (timed_in c.args.recording.now)

pub returns-then-moment-eq0-clause-ready : goal.returns-then-moment-eq0-clause-ready
returns-then-moment-eq0-clause-ready c =
    ready_at_once (timed_in c.args.recording.now) c.in-Some.change (sym c.first_change.ensures ∙ c.in-Some.is) c.if-moment-eq0.true

-- or what is due before is done
pub returns-clause-alone : goal.returns-clause-alone
returns-clause-alone c =
    let t = timed_in c.args.recording.now in
    let at : slice_get t.changes 0 ≡ Some c.in-Some.change = sym c.first_change.ensures ∙ c.in-Some.is in
    on_ok_more c.ended.result _ _
    (λ ok. before_alone t (timed_in c.run_until-ran.new.self) c.run_until-ran.result.done (c.in-Some.change.moment - 1) c.in-Some.change (subst IsTimed c.timed.ensures c.holds.ensures.timed) at c.if-moment-eq0.false refl
    c.run_until-ran.ensures.run c.run_until-ran.ensures.until) c.ended.ensures.ok

pub returns-clause-ready : goal.returns-clause-ready
returns-clause-ready c =
    let t = timed_in c.args.recording.now in
    let u = timed_in c.run_until-ran.new.self in
    let at : slice_get t.changes 0 ≡ Some c.in-Some.change = sym c.first_change.ensures ∙ c.in-Some.is in
    let alone : LeadsAlone t u = before_alone t u c.run_until-ran.result.done (c.in-Some.change.moment - 1) c.in-Some.change (subst IsTimed c.timed.ensures c.holds.ensures.timed) at c.if-moment-eq0.false refl c.run_until-ran.ensures.run c.run_until-ran.ensures.until in
    on_ok_more c.ended.result _ _
    (λ ok. before_ready t u c.run_until-ran.result.done (c.in-Some.change.moment - 1) _ c.in-Some.change c.run_until-ran.result.fault at refl alone.changes c.run_until-ran.ensures.stop ok.0 ok.1) c.ended.ensures.ok
