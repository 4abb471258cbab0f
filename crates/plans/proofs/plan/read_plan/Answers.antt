use Rattle.plans.specs.Document.{lists_in_lines}
use Rattle.script.specs.Seen.{script_parts}
use Rattle.plans.specs.Scenarios.{IsRead}
use Rattle.plans.proofs.Stops.{stops_reading}
use Rattle.plans.proofs.plan.read_plan.Goals as goal

pub returns-clause-fault : goal.returns-clause-fault
returns-clause-fault c =
    let reading = c.in_ok-reading.reading in
    let read : IsRead c.args.text.now (script_parts reading.script) reading.fault = record {
      lists = lists_in_lines c.in_ok-lines.lines;
      are_lists = c.in_ok-lines.ensures.ok;
      read = rw (← c.deref.ensures.value) (rw (← c.deref-2.ensures.value) (rw (← c.deref-3.ensures.value) (rw (← c.deref-4.ensures.value) c.in_ok-reading.ensures.parts)));
      stops = rw (← c.deref.ensures.value) (rw (← c.deref-2.ensures.value) (rw (← c.deref-3.ensures.value) (rw (← c.deref-4.ensures.value) c.in_ok-reading.ensures.stop)));
    } in
    stops_reading c.plan_of.result c.args.text.now (script_parts reading.script) reading.fault read c.plan_of.ensures.fault
