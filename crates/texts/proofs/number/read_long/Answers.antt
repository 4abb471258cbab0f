use Rattle.texts.proofs.Numbers.{some_long}
use Rattle.texts.proofs.number.read_long.Goals as goal

pub returns-then-has_canonical_start : goal.returns-then-has_canonical_start
returns-then-has_canonical_start c = rw c.ok.ensures.value (some_long _ _ c.parse.ensures.value.0 (c.has_canonical_start.ensures.0 c.if-has_canonical_start.true))
