use Rattle.std.proofs.Common.{◌≡◌, drop}
use Rattle.timing.specs.Tallies.{none_counted, tally}
use Rattle.timing.proofs.tally.count_spells.Given as goal

abbrev pub invariant-loop-spell : goal.invariant-loop-spell
invariant-loop-spell l = tally l.fn.span (drop l.spell-index l.spells) l.tally ≡ tally l.fn.span l.spells none_counted
