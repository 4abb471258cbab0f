use Rattle.std.proofs.Common.{◌≡◌, [], take, length}
use Rattle.no_packet_loops.proofs.Common.{prefixes_of, first_cause, attachment_causes}
use Rattle.world.proofs.Faults.{attachment_causes_from}
use Rattle.world.proofs.attachment_faults.count_by_comparison.Given as goal

abbrev pub invariant-loop-i : goal.invariant-loop-i
invariant-loop-i l = record {
  rest : first_cause (attachment_causes_from l.limits l.routers l.attachments l.i) ≡ first_cause (attachment_causes l.limits l.routers [] l.attachments);
  count : l.prefixes ≡ length (prefixes_of (take l.i l.attachments));
}
