use Rattle.timed_reports.specs.Recordings.{timed_in}
use Rattle.timing.proofs.{Alone.at_rest, Alone.rest_alone, Leading.on_ok_more}
use Rattle.timing.proofs.run.run_to_rest.Goals as goal

pub returns-clause-alone : goal.returns-clause-alone
returns-clause-alone c =
    let t = timed_in c.args.recording.now in
    let u = timed_in c.run_to_rest-ran.new.self in
    on_ok_more c.ended.result _ _
    (λ ok. rest_alone t u c.run_to_rest-ran.result.done c.requires c.run_to_rest-ran.ensures.run (at_rest u c.run_to_rest-ran.result.done _ c.run_to_rest-ran.result.fault c.run_to_rest-ran.ensures.stop ok.0 ok.1)) c.ended.ensures.ok
