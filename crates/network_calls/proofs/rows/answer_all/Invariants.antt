use Rattle.std.proofs.Common.{◌≡◌, length, take}
use Rattle.network_calls.specs.Calls.{image_answer_rows}
use Rattle.network_calls.proofs.rows.answer_all.Given as goal

abbrev pub invariant-loop-place : goal.invariant-loop-place
invariant-loop-place l = record {
  count : length l.answers ≡ length l.addrs;
  answered : take l.place l.answers ≡ image_answer_rows l.image (take l.place l.addrs);
}
