use Rattle.std.proofs.Common.{inl, inr, false, length, rules}
use Rattle.std.proofs.{lemmas.Bool.cases_lt, lemmas.List.get_or_past}
use Rattle.reachability.proofs.marks.clear.Goals as goal

pub returns : goal.returns
returns c = λ i. elim (cases_lt i (length c.loop-place.marks)) [
  | inl below ↦ c.loop-place.invariant i (search rules)
  | inr past ↦ get_or_past c.loop-place.marks i false past
]
