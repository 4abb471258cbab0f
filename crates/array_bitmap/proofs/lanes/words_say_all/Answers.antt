use Rattle.array_bitmap.specs.Image.{cells_of}
use Rattle.array_bitmap.proofs.AnswerWords.{read_back}
use Rattle.array_bitmap.proofs.lanes.words_say_all.Goals as goal

pub returns : goal.returns
returns g c = λ addr fits. read_back (cells_of c.args.tree.now) c.requires.cells addr fits
