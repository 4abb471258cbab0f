use Rattle.std.proofs.Common.{arith, refl}
use Rattle.std.proofs.lemmas.Bool.{le-leb, lt-leb}
use Rattle.array_bitmap.specs.Blocks.{size_for}
use Rattle.array_bitmap.proofs.bits.size_for.Goals as goal

pub returns-then-words-le4 : goal.returns-then-words-le4
unfolding size_for
returns-then-words-le4 c = rw (le-leb c.args.words 4 (omega arith)) refl

pub returns-then-words-le8 : goal.returns-then-words-le8
unfolding size_for
returns-then-words-le8 c = rw (lt-leb c.args.words 4 (omega arith), le-leb c.args.words 8 (omega arith)) refl

pub returns-then-words-le16 : goal.returns-then-words-le16
unfolding size_for
returns-then-words-le16 c = rw (lt-leb c.args.words 4 (omega arith), lt-leb c.args.words 8 (omega arith), le-leb c.args.words 16 (omega arith)) refl

pub returns-then-words-le32 : goal.returns-then-words-le32
unfolding size_for
returns-then-words-le32 c = rw (lt-leb c.args.words 4 (omega arith), lt-leb c.args.words 8 (omega arith), lt-leb c.args.words 16 (omega arith), le-leb c.args.words 32 (omega arith)) refl

pub returns-then-words-le64 : goal.returns-then-words-le64
unfolding size_for
returns-then-words-le64 c = rw (lt-leb c.args.words 4 (omega arith), lt-leb c.args.words 8 (omega arith), lt-leb c.args.words 16 (omega arith), lt-leb c.args.words 32 (omega arith), le-leb c.args.words 64 (omega arith)) refl

pub returns-else-words-le64 : goal.returns-else-words-le64
unfolding size_for
returns-else-words-le64 c = rw (lt-leb c.args.words 4 (omega arith), lt-leb c.args.words 8 (omega arith), lt-leb c.args.words 16 (omega arith), lt-leb c.args.words 32 (omega arith), lt-leb c.args.words 64 (omega arith)) refl
