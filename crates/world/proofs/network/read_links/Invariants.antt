use Rattle.std.proofs.Common.{ℕ, ◌<◌, get_or}
use Rattle.no_packet_loops.proofs.Common.{LinkSpec, HasCosts}
use Rattle.world.proofs.network.read_links.Given as goal

abbrev pub invariant-loop-link : goal.invariant-loop-link
invariant-loop-link l = (k : ℕ) (d : LinkSpec) → k < l.link-index → HasCosts (get_or l.links k d)
