use Rattle.std.proofs.Common.{◌≡◌, ◌≤◌, ◌⊎◌}
use Rattle.timed_reports.specs.Reports.{IsReportRun}
use Rattle.timed_reports.proofs.report.Report.run_until.Given as goal

abbrev pub invariant-loop-done : goal.invariant-loop-done
invariant-loop-done g l = record {
  run : IsReportRun l.initial.self l.self l.done;
  until : (l.done ≡ 0) ⊎ (((l.self).timed).clock ≤ l.moment);
}
