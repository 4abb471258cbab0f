use Rattle.std.proofs.Common.{arith}
use Rattle.array_bitmap.proofs.{NextSpots.after_short, NextSpots.after_long, NextSpots.shorter_start, PathBits.first_small}
use Rattle.array_bitmap.proofs.cursor.value_after.Goals as goal

pub returns-then-length-more-clause-within : goal.returns-then-length-more-clause-within
returns-then-length-more-clause-within c = omega (arith, first_small c.args.five c.args.length c.requires.small c.requires.one_of_five)

pub returns-then-length-more-clause-after : goal.returns-then-length-more-clause-after
returns-then-length-more-clause-after c = λ v s. after_short c.args.five c.args.more c.requires.small c.args.length v c.requires.one_of_five (omega (arith, c.if-length-more.true)) c.requires.few s

pub returns-clause-within : goal.returns-clause-within
returns-clause-within c = omega (arith, first_small c.args.five c.args.length c.requires.small c.requires.one_of_five)

pub returns-clause-after : goal.returns-clause-after
returns-clause-after c = λ v s.
    after_long c.args.five c.args.more c.requires.small c.args.length v c.requires.one_of_five (omega (arith, c.if-length-more.false)) s
    (shorter_start c.args.five c.args.more c.args.length (omega (arith, c.if-length-more.false)) c.requires.start)
