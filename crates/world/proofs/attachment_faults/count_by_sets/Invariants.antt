use Rattle.std.proofs.Common.{◌≡◌, [], take}
use Rattle.no_packet_loops.proofs.Common.{first_cause, attachment_causes}
use Rattle.world.specs.Given.{IsGiven}
use Rattle.world.proofs.Faults.{attachment_causes_from}
use Rattle.world.proofs.attachment_faults.count_by_sets.Given as goal

abbrev pub invariant-loop-i : goal.invariant-loop-i
invariant-loop-i l = record {
  rest : first_cause (attachment_causes_from l.limits l.routers l.attachments l.i) ≡ first_cause (attachment_causes l.limits l.routers [] l.attachments);
  given : IsGiven (take l.i l.attachments) l.given;
}
