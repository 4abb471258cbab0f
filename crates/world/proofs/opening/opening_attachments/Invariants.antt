use Rattle.std.proofs.Common.{◌≡◌, ◌++◌, ◌-◌, [], map}
use Rattle.no_packet_loops.proofs.Common.{range_with_len, costs_of}
use Rattle.world.specs.Parts.{attachments_of}
use Rattle.world.proofs.opening.opening_attachments.Given as goal

abbrev pub invariant-loop-router : goal.invariant-loop-router
invariant-loop-router g l = l.attachments.items ++ map (λ i. attachments_of (costs_of l.network i) []) (range_with_len l.router (l.router-end - l.router)) ≡ map (λ i. attachments_of (costs_of l.network i) []) (range_with_len 0 l.router-end)
