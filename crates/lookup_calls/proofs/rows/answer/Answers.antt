use Rattle.std.proofs.Common.{arith, ap, ◌∙◌}
use Rattle.network_model.specs.Publication.{image_answer}
use Rattle.lookup_calls.specs.Rows.{word_row}
use Rattle.lookup_calls.proofs.AnswerRows.{row_is, row_short}
use Rattle.lookup_calls.proofs.rows.answer.Goals as goal

pub row_of-requires : goal.row_of-requires
row_of-requires c = row_short c.args.addr (image_answer c.args.image.now c.args.addr) c.lookup_word.result c.lookup_word.ensures.word c.lookup_word.ensures.read

pub returns : goal.returns
returns c =
    c.row_of.ensures ∙ ap (word_row c.args.addr) c.lookup_word.ensures.word
    ∙ row_is c.args.addr (image_answer c.args.image.now c.args.addr) (omega arith) c.lookup_word.ensures.read
