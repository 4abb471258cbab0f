use Rattle.std.proofs.Common.{ℕ, ◌<◌, get_or}
use Rattle.no_packet_loops.proofs.Common.{Prefix, IsPrefix, IsCost}
use Rattle.world.proofs.network.read_attachments.Given as goal

abbrev pub invariant-loop-attachment : goal.invariant-loop-attachment
invariant-loop-attachment l = record {
  prefixes : (k : ℕ) (d : Prefix × ℕ × ℕ) → k < l.attachment-index → IsPrefix (get_or l.attachments k d).0;
  costs : (k : ℕ) (d : Prefix × ℕ × ℕ) → k < l.attachment-index → IsCost (get_or l.attachments k d).2;
}
