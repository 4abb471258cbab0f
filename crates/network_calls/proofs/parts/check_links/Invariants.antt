use Rattle.std.proofs.Common.{◌≡◌, drop}
use Rattle.network_calls.specs.Parts.{first_place, link_fault}
use Rattle.network_calls.proofs.parts.check_links.Given as goal

abbrev pub invariant-loop-place : goal.invariant-loop-place
invariant-loop-place l = first_place link_fault l.place (drop l.place l.links) ≡ first_place link_fault 0 l.links
