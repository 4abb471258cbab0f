use Rattle.std.proofs.Common.{ap, length}
use Rattle.std.specs.BTreeMap.{is_at}
use Rattle.no_packet_loops.proofs.Common.{list_any, prefix_cmp}
use Rattle.world.specs.Given.{pair_cmp}
use Rattle.world.proofs.attachment_faults.Given.new.Goals as goal

pub returns : goal.returns
returns c = record {
  prefixes = λ p. ap (list_any (is_at (prefix_cmp p))) c.new.ensures.empty;
  count = ap length c.new.ensures.empty;
  pairs = λ p i. ap (list_any (is_at (pair_cmp (p, i)))) c.new-2.ensures.empty;
}
