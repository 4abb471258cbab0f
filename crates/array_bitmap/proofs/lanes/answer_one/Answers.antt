use Rattle.std.proofs.Common.{arith, subst}
use Rattle.array_bitmap.specs.{Image.cells_of, Words.found, Tree.word_at}
use Rattle.bitmaps.specs.Greatest.{GreatestBelow}
use Rattle.array_bitmap.proofs.AnswerWords.{word_is, read_back}
use Rattle.array_bitmap.proofs.lanes.answer_one.Goals as goal

pub returns-clause-word : goal.returns-clause-word
returns-clause-word g c =
    let t = cells_of c.args.tree.now in
    word_is t c.requires.cells c.args.addr (omega arith) c.longest.result
    (subst (λ path. GreatestBelow (word_at t path) 33 (found c.longest.result)) c.path_of.ensures.value c.longest.ensures)

pub returns-clause-read : goal.returns-clause-read
returns-clause-read g c = read_back (cells_of c.args.tree.now) c.requires.cells c.args.addr (omega arith)
