use Rattle.std.proofs.Common.{◌≡◌, [], take, drop}
use Rattle.forwarder.specs.Gathering.{fault_in}
use Rattle.forwarder.proofs.gathering.check_replies.Given as goal

abbrev pub invariant-loop-i : goal.invariant-loop-i
invariant-loop-i g l = fault_in l.jobs [] l.replies ≡ fault_in l.jobs (take l.i l.replies) (drop l.i l.replies)
