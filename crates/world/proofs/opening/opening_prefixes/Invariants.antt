use Rattle.std.proofs.Common.{◌≡◌, drop, map, reverse}
use Rattle.std.specs.BTreeSet.{contains}
use Rattle.no_packet_loops.proofs.Common.{Prefix, prefix_cmp, prefix_eq, list_any, prefixes_of}
use Rattle.world.proofs.opening.opening_prefixes.Given as goal

abbrev pub invariant-loop-i : goal.invariant-loop-i
invariant-loop-i g l = record {
  so_far : reverse l.prefixes.items ≡ prefixes_of (drop l.i (l.network).attachments);
  given : (p : Prefix) → contains prefix_cmp l.given p ≡ list_any (prefix_eq p) (map (λ a. a.0) (drop l.i (l.network).attachments));
}
