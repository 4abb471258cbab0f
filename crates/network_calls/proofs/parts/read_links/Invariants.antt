use Rattle.std.proofs.Common.{◌≡◌, None, map, take, drop}
use Rattle.single_router.specs.Openings.{first_fault_in}
use Rattle.network_calls.specs.Parts.{link_fault, link_spec}
use Rattle.network_calls.proofs.parts.read_links.Given as goal

abbrev pub invariant-loop-link : goal.invariant-loop-link
invariant-loop-link l = record {
  rest : first_fault_in link_fault (drop l.link-index l.links) ≡ None;
  items : l.read.items ≡ map link_spec (take l.link-index l.links);
}
