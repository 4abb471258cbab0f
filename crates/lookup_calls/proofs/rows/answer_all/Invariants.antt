use Rattle.std.proofs.Common.{◌≡◌, ◌≤◌, ◌-◌, length, map, take}
use Rattle.c_interface.specs.Rows.{answer_row}
use Rattle.lookup_calls.specs.Rows.{entry_answer}
use Rattle.lookup_calls.proofs.rows.answer_all.Given as goal

abbrev pub invariant-loop-done : goal.invariant-loop-done
invariant-loop-done l = record {
  within : l.done ≤ length l.addrs;
  count : length l.answers ≡ length l.addrs;
  answered : take l.done l.answers ≡ map (λ addr. answer_row (entry_answer l.image addr)) (take l.done l.addrs);
}

abbrev pub decreases-loop-done : goal.decreases-loop-done
decreases-loop-done l = length l.addrs - l.done
