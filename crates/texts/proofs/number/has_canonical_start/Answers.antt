use Rattle.std.proofs.Common.{rules}
use Rattle.texts.proofs.number.has_canonical_start.Goals as goal

pub returns-then-text-eq1 : goal.returns-then-text-eq1
returns-then-text-eq1 c = search rules

pub returns-else-text-eq1 : goal.returns-else-text-eq1
returns-else-text-eq1 c = search rules

pub returns-else-not-starts_with : goal.returns-else-not-starts_with
returns-else-not-starts_with c = search rules
