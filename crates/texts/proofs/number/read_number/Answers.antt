use Rattle.std.proofs.Common.{◌∙◌}
use Rattle.texts.proofs.Numbers.{HasCanonicalStart-spelled, some_spelled, spelled_some}
use Rattle.texts.proofs.number.read_number.Goals as goal

-- the text does not start as a number does
pub returns-then-not-has_canonical_start-clause-every : goal.returns-then-not-has_canonical_start-clause-every
returns-then-not-has_canonical_start-clause-every c n spells =
    let starts = c.has_canonical_start.ensures.1 (HasCanonicalStart-spelled _ n spells) in
    absurd (cc (starts, c.if-not-has_canonical_start.true))

pub returns-clause-read : goal.returns-clause-read
returns-clause-read c =
    rw c.ok.ensures.value (some_spelled _ _ c.parse.ensures.value.0 (c.has_canonical_start.ensures.0 c.if-not-has_canonical_start.false))

pub returns-clause-every : goal.returns-clause-every
returns-clause-every c n spells = c.ok.ensures.value ∙ spelled_some _ _ c.parse.ensures.value.0 n spells
