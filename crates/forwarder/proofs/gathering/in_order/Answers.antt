use Rattle.std.proofs.Common.{rules}
use Rattle.std.proofs.lemmas.List.Sorted.{IsNonDecreasingBy-from_sort_by_key}
use Rattle.forwarder.specs.Gathering.{job_number}
use Rattle.forwarder.proofs.gathering.in_order.Goals as goal

pub returns-clause-order : goal.returns-clause-order
returns-clause-order g c = IsNonDecreasingBy-from_sort_by_key job_number _ c.sort_unstable_by_key.ensures.sorted (λ a r f h. search rules)
