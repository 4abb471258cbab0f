use Rattle.std.proofs.Common.{◌≡◌, drop, length}
use Rattle.timing.specs.Given.{with_given}
use Rattle.timing.proofs.given.set_given.Given as goal

abbrev pub invariant-loop-one : goal.invariant-loop-one
invariant-loop-one g l = record {
  given : with_given (drop l.one-index l.given) l.values.items ≡ with_given l.given l.initial.values.items;
  count : length l.values.items ≡ length l.initial.values.items;
}
